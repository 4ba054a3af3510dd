-- Vélu's codomain as source document 001 states it after proposition 4.1: from the first coefficients of D, formula (12) there, over any commutative ring.
-- (`Source` has the theorems about it.)
-- Assumes nothing.
use Rattle.std.specs.Prelude.{ℕ, ◌*◌}
use Rattle.ring.specs.Ring.{CRing, cast, pow}
use Rattle.series.specs.Series.{Seq}
use Rattle.series.specs.Reversal.{rev}

module _ (R : CRing) where
  open R use {Car, add as ◌⊕◌, mul as ◌⊗◌, neg}

  infixl 65 ◌⊕◌ ◌⊖◌
  infixl 70 ◌⊗◌
  infixr 75 ◌^◌
  infix 80 #◌
  abbrev ◌⊖◌ : Car → Car → Car
  a ⊖ b = a ⊕ neg b

  abbrev ◌^◌ : Car → ℕ → Car
  a ^ n = pow R a n

  abbrev #◌ : ℕ → Car
  # n = cast R n

  -- σ, σ₂ and σ₃ of D = x^(ℓ−1) − σ x^(ℓ−2) + σ₂ x^(ℓ−3) − σ₃ x^(ℓ−4) + .., where ℓ − 1 = 2d; a coefficient below the constant term is 0, as σ₃ for ℓ = 3
  unfoldable pub sigma : ℕ → Seq R → Car
  sigma d D = neg (rev R (2 * d) D 1)

  unfoldable pub sigma₂ : ℕ → Seq R → Car
  sigma₂ d D = rev R (2 * d) D 2

  unfoldable pub sigma₃ : ℕ → Seq R → Car
  sigma₃ d D = neg (rev R (2 * d) D 3)

  module _ (A B : Car) (d : ℕ) (D : Seq R) where
    abbrev σ : Car
    σ = sigma d D

    abbrev σ₂ : Car
    σ₂ = sigma₂ d D

    abbrev σ₃ : Car
    σ₃ = sigma₃ d D

    -- t = A(ℓ − 1) + 3(σ² − 2σ₂)
    unfoldable pub t : Car
    t = A ⊗ # (2 * d) ⊕ # 3 ⊗ (σ ^ 2 ⊖ # 2 ⊗ σ₂)

    -- w = 3Aσ + 2B(ℓ − 1) + 5(σ³ − 3σσ₂ + 3σ₃)
    unfoldable pub w : Car
    w = # 3 ⊗ A ⊗ σ ⊕ # 2 ⊗ B ⊗ # (2 * d) ⊕ # 5 ⊗ (σ ^ 3 ⊖ # 3 ⊗ σ ⊗ σ₂ ⊕ # 3 ⊗ σ₃)

    -- Ã = A − 5t and B̃ = B − 7w
    abbrev pub velu_A : Car
    velu_A = A ⊖ # 5 ⊗ t

    abbrev pub velu_B : Car
    velu_B = B ⊖ # 7 ⊗ w
