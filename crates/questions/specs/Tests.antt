-- A test that answers with a bool, and what it decides: from the one to the other where it is put as `if f(..)`, as `if !f(..)`, and where it is answered.
-- Assumes nothing.
use Rattle.std.specs.Prelude.{◌≡◌, refl, ◌↔◌, Bool, true, false, not, ◌&&◌, ℕ, ◌+◌, ◌≤◌, ◌<◌}
use Rattle.std.proofs.Common.{sym, ◌∙◌, subst, arith}
use Rattle.std.proofs.lemmas.Bool.{false≢true, not-true, not-false}
use Rattle.std.proofs.Math.Decide.{dec_lt}

-- the answers no and yes
pub says_no : {P : Type 0} → (P → ⊥) → (false ≡ true) ↔ P
says_no n = (λ e. absurd (false≢true e), λ h. absurd (n h))

pub says_yes : {P : Type 0} → P → (true ≡ true) ↔ P
says_yes y = (λ e. y, λ h. refl)

-- behind `if f(..)`, and beside it
pub was_no : {P : Type 0} {t : Bool} → (t ≡ true) ↔ P → t ≡ false → P → ⊥
was_no d e h = false≢true (sym e ∙ d.1 h)

pub was_yes : {P : Type 0} {t : Bool} → (t ≡ true) ↔ P → t ≡ true → P
was_yes d e = d.0 e

-- behind `if !f(..)`, and beside it
pub refuted : {P : Type 0} {t : Bool} → (t ≡ true) ↔ P → not t ≡ true → P → ⊥
refuted {t = t} d e = was_no d (not-true t e)

pub shown : {P : Type 0} {t : Bool} → (t ≡ true) ↔ P → not t ≡ false → P
shown {t = t} d e = was_yes d (not-false t e)

-- two tests with `&` between them
pub together : {P Q : Type 0} {s t : Bool} → (s ≡ true) ↔ P → (t ≡ true) ↔ Q → (s && t ≡ true) ↔ (P × Q)
together {s = true} {t = true} d e = (λ _. (d.0 refl, e.0 refl), λ _. refl)
together {s = true} {t = false} d e = says_no (λ h. was_no e refl h.1)
together {s = false} {t = t} d e = says_no (λ h. was_no d refl h.0)

-- what decides x = y decides x = z, where y is z
pub decides : {A : Type 0} {x y z : A} {t : Bool} → (t ≡ true) ↔ (x ≡ y) → y ≡ z → (t ≡ true) ↔ (x ≡ z)
decides h e = (λ t. h.0 t ∙ e, λ s. h.1 (s ∙ sym e))

-- what holds from a on up to i, and of i, holds up to i + 1
pub more_from : (P : ℕ → Type 0) (a i : ℕ) → ((j : ℕ) → a ≤ j → j < i → P j) → P i → (j : ℕ) → a ≤ j → j < i + 1 → P j
more_from P a i before here j from below = go (dec_lt j i)
  where
    go : Dec (j < i) → P j
    go (yes l) = before j from l
    go (no l) = let e : i ≡ j = omega arith in subst P e here
