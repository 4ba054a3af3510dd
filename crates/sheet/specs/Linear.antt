-- Lists of kinds in sections whose lengths are linear in d: a section of kind k has a + b·d words. Where a kind stands first is then linear in d too.
-- Assumes nothing.
use Rattle.std.specs.Prelude.{◌≡◌, refl, Bool, true, false, cond, List, [], ◌∷◌, ◌++◌, ℕ, zero, suc, ◌+◌, ◌*◌, ◌≤◌, eqb, replicate}
use Rattle.std.proofs.Common.{sym, ◌∙◌, ap, arith}
use Rattle.std.proofs.Math.Nat as N
use Rattle.sheet.specs.Form.{position, holds}

pub record Section : Type 0 where
  pub kind : ℕ
  -- one less than the words at d = 0, of which there is one at least
  pub more : ℕ
  pub slope : ℕ

abbrev pub section : ℕ → ℕ → ℕ → Section
section k a b = record { kind = k; more = a; slope = b }

abbrev pub expand : ℕ → List Section → List ℕ
expand d [] = []
expand d (s ∷ ss) = replicate (suc (s.more + s.slope * d)) s.kind ++ expand d ss

abbrev pub has : ℕ → List Section → Bool
has k [] = false
has k (s ∷ ss) = cond (eqb k s.kind) true (has k ss)

abbrev pub base : ℕ → List Section → ℕ
base k [] = 0
base k (s ∷ ss) = cond (eqb k s.kind) 0 (suc s.more + base k ss)

abbrev pub slope : ℕ → List Section → ℕ
slope k [] = 0
slope k (s ∷ ss) = cond (eqb k s.kind) 0 (s.slope + slope k ss)

module _ (k j : ℕ) (xs : List ℕ) where
  -- a section of another kind is passed over; where the kind is the section's, it is found at once
  pub holds_past : (n : ℕ) → eqb k j ≡ false → holds k (replicate n j ++ xs) ≡ holds k xs
  holds_past zero e = refl
  holds_past (suc n) e = rw e (holds_past n e)

  pub position_past : (n : ℕ) → eqb k j ≡ false → position k (replicate n j ++ xs) ≡ n + position k xs
  position_past zero e = sym (N.zero-add (position k xs))
  position_past (suc n) e = rw e (ap suc (position_past n e) ∙ omega arith)

  pub holds_here : (n : ℕ) → eqb k j ≡ true → holds k (replicate (suc n) j ++ xs) ≡ true
  holds_here n e = rw e refl

  pub position_here : (n : ℕ) → eqb k j ≡ true → position k (replicate (suc n) j ++ xs) ≡ 0
  position_here n e = rw e refl

pub holds_sections : (k d : ℕ) (ss : List Section) → holds k (expand d ss) ≡ has k ss
holds_sections k d [] = refl
holds_sections k d (s ∷ ss) = go (eqb k s.kind) refl (holds_sections k d ss)
  where
    go : (t : Bool) → eqb k s.kind ≡ t → holds k (expand d ss) ≡ has k ss → holds k (expand d (s ∷ ss)) ≡ has k (s ∷ ss)
    go true e h = holds_here k s.kind (expand d ss) (s.more + s.slope * d) e ∙ sym (rw e refl)
    go false e h = holds_past k s.kind (expand d ss) (suc (s.more + s.slope * d)) e ∙ h ∙ sym (rw e refl)

pub position_sections : (k d : ℕ) (ss : List Section) → position k (expand d ss) ≡ base k ss + slope k ss * d
position_sections k d [] = omega arith
position_sections k d (s ∷ ss) = go (eqb k s.kind) refl (position_sections k d ss)
  where
    go : (t : Bool) → eqb k s.kind ≡ t → position k (expand d ss) ≡ base k ss + slope k ss * d
        → position k (expand d (s ∷ ss)) ≡ base k (s ∷ ss) + slope k (s ∷ ss) * d
    go true e h = position_here k s.kind (expand d ss) (s.more + s.slope * d) e ∙ rw e (omega arith)
    go false e h =
        position_past k s.kind (expand d ss) (suc (s.more + s.slope * d)) e ∙ ap (λ n. suc (s.more + s.slope * d) + n) h
        ∙ rw e (omega (arith, N.add-mul s.slope (slope k ss) d))

-- a kind stands after no more words than there are
abbrev pub total : List Section → ℕ
total [] = 0
total (s ∷ ss) = suc s.more + total ss

pub base_most : (k : ℕ) (ss : List Section) → base k ss ≤ total ss
base_most k [] = omega arith
base_most k (s ∷ ss) = go (eqb k s.kind) (base_most k ss)
  where
    go : (t : Bool) → base k ss ≤ total ss → cond t 0 (suc s.more + base k ss) ≤ suc s.more + total ss
    go true h = omega arith
    go false h = omega arith
