-- The composite of two isogenies, the first followed by the second (document 02, E1): its kernel polynomial, and the question that it answers.
-- Assumes nothing.
use Rattle.std.specs.Prelude.{◌≡◌, ℕ, ◌+◌, ◌*◌}
use Rattle.std.proofs.Math.Nat as Nat
use Rattle.std.proofs.Common.{arith}
use Rattle.ring.specs.Ring.{CRing, cast, pow}
use Rattle.series.specs.Series.{Series, Seq, conv}
use Rattle.isogeny.specs.Rules.{Question, ℓ, N}
use Rattle.composition.specs.Substitution.{homogenize}

-- P at N/g², cleared by g^(2n), for a P of degree at most n: the sum of P_i Nⁱ g^(2(n − i))
abbrev pub pullback : (R : CRing) (q : Question R) → Seq R → ℕ → Seq R → Seq R
pullback R q g n P = homogenize R (N R q g) (pow (Series R) g 2) n P

-- g₁ times g₂ at N₁/g₁², cleared by g₁^(2d₂)
unfoldable pub composite_g : (R : CRing) (q₁ : Question R) (d₂ : ℕ) → Seq R → Seq R → Seq R
composite_g R q₁ d₂ g₁ g₂ = conv R g₁ (pullback R q₁ g₁ d₂ g₂)

module _ (R : CRing) (q₁ q₂ : Question R) where
  -- the first codomain is the second domain
  pub record Composable : Type 0 where
    pub A : q₁.Ã ≡ q₂.A
    pub B : q₁.B̃ ≡ q₂.B

  -- from the first domain to the second codomain, of degree ℓ₁ℓ₂, with the kernel sum σ₂ + ℓ₂σ₁
  abbrev pub composite : Question R
  composite = record {
    A = q₁.A;
    B = q₁.B;
    Ã = q₂.Ã;
    B̃ = q₂.B̃;
    d = q₁.d + q₂.d * ℓ R q₁;
    σ = R.add q₂.σ (R.mul (cast R (ℓ R q₂)) q₁.σ);
  }

  -- d₁ + ℓ₁d₂ is (ℓ₁ℓ₂ − 1)/2
  pub composite_degree : ℓ R q₂ * ℓ R q₁ ≡ ℓ R composite
  composite_degree =
      let a : ℓ R q₂ * ℓ R q₁ ≡ 2 * q₂.d * ℓ R q₁ + 1 * ℓ R q₁ = Nat.add-mul (2 * q₂.d) 1 (ℓ R q₁) in
      let b : 2 * q₂.d * ℓ R q₁ ≡ 2 * (q₂.d * ℓ R q₁) = Nat.mul_assoc 2 q₂.d (ℓ R q₁) in
      omega arith
