-- Source document 001's formula (13) beside document 01's rules, over any commutative ring, as printed and times D². (`proofs/Source` has the theorems.)
-- Assumes nothing.
use Rattle.std.specs.Prelude.{◌≡◌, ℕ}
use Rattle.ring.specs.Ring.{CRing, cast, pow}
use Rattle.series.specs.Series.{Series, Seq, const, ∂}
use Rattle.series.specs.Indeterminate.{ind}
use Rattle.isogeny.specs.Rules.{Question, ℓ, f}

module _ (R : CRing) (q : Question R) where
  open q use {A, σ}
  open Series R use {add as ◌⊕◌, mul as ◌⊗◌, neg}

  infixl 65 ◌⊕◌ ◌⊖◌
  infixl 70 ◌⊗◌
  infixr 75 ◌^◌
  infix 80 #◌
  abbrev ◌⊖◌ : Seq R → Seq R → Seq R
  a ⊖ b = a ⊕ neg b

  abbrev ◌^◌ : Seq R → ℕ → Seq R
  a ^ n = pow (Series R) a n

  abbrev #◌ : ℕ → Seq R
  # n = cast (Series R) n

  abbrev κ : R.Car → Seq R
  κ c = const R c

  abbrev x : Seq R
  x = ind R

  -- N/D = ℓx − σ − (3x² + A)(D'/D) − 2f(D'/D)' as it is printed, where m is N/D and h is D'/D
  unfoldable pub Printed13 : Seq R → Seq R → Type 0
  Printed13 m h = m ≡ # (ℓ R q) ⊗ x ⊖ κ σ ⊖ (# 3 ⊗ x ^ 2 ⊕ κ A) ⊗ h ⊖ # 2 ⊗ f R q ⊗ ∂ R h

  -- the same times D²
  unfoldable pub Formula13 : Seq R → Seq R → Type 0
  Formula13 D n =
      n ⊗ D ≡ (# (ℓ R q) ⊗ x ⊖ κ σ) ⊗ D ⊗ D ⊖ (# 3 ⊗ x ^ 2 ⊕ κ A) ⊗ ∂ R D ⊗ D ⊖ # 2 ⊗ f R q ⊗ (∂ R (∂ R D) ⊗ D ⊖ ∂ R D ⊗ ∂ R D)

  -- its two other factors beside f
  abbrev pub line : Seq R
  line = # (ℓ R q) ⊗ x ⊖ κ σ

  abbrev pub quadratic : Seq R
  quadratic = # 3 ⊗ x ^ 2 ⊕ κ A
