-- Questions in an order, each with its number: all are answered with yes, or one of them is the first no.
-- Assumes nothing.
use Rattle.std.specs.Prelude.{◌≡◌, ◌⊎◌, List, [], ◌∷◌, ℕ}
use Rattle.std.proofs.Common.{sym, ◌∙◌, inl, inr}

abbrev pub Questions : Type 1
Questions = List (ℕ × Type 0)

-- every question is answered with yes
abbrev pub AllYes : Questions → Type 0
AllYes [] = Unit {0}
AllYes (q ∷ qs) = q.1 × AllYes qs

-- n is the number of the first question that is answered with no
abbrev pub FirstNo : Questions → ℕ → Type 0
FirstNo [] n = ⊥
FirstNo (q ∷ qs) n = ((n ≡ q.0) × (q.1 → ⊥)) ⊎ (q.1 × FirstNo qs n)

-- there is at most one such number, and none where all are answered with yes
pub first_no_unique : (qs : Questions) (m n : ℕ) → FirstNo qs m → FirstNo qs n → m ≡ n
first_no_unique [] m n h k = absurd h
first_no_unique (q ∷ qs) m n (inl h) (inl k) = h.0 ∙ sym k.0
first_no_unique (q ∷ qs) m n (inl h) (inr k) = absurd (h.1 k.0)
first_no_unique (q ∷ qs) m n (inr h) (inl k) = absurd (k.1 h.0)
first_no_unique (q ∷ qs) m n (inr h) (inr k) = first_no_unique qs m n h.1 k.1

pub not_both : (qs : Questions) (n : ℕ) → AllYes qs → FirstNo qs n → ⊥
not_both [] n all h = h
not_both (q ∷ qs) n all (inl h) = h.1 all.0
not_both (q ∷ qs) n all (inr h) = not_both qs n all.1 h.1
