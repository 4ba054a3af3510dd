-- Three isogenies, either way: composing the first two first and composing the last two first answer one question, and give one kernel polynomial.
-- Assumes nothing.
use Rattle.std.specs.Prelude.{◌≡◌, ℕ, ◌+◌, ◌*◌, ◌≤◌}
use Rattle.std.proofs.Common.{sym, ◌∙◌, arith}
use Rattle.std.proofs.Math.Path.{ap, ap₂}
use Rattle.std.proofs.Math.Nat as Nat
use Rattle.ring.specs.Ring.{CRing, cast, cast_mul, pow}
use Rattle.ring.specs.Identity.{solve2, solve5}
use Rattle.ring.specs.Identity.Ex.{◌:+◌, ◌:*◌, ◌:^◌}
use Rattle.series.specs.Series.{Series, Seq}
use Rattle.isogeny.specs.Rules.{Question, R1, Meets, ℓ, N}
use Rattle.isogeny.proofs.Infinity.{N_below}
use Rattle.composition.specs.Substitution.{homogenize}
use Rattle.composition.specs.Homogenized.{Homogenized, h_is, h_degree, h_mul, h_pow, h_up, h_homogenize}
use Rattle.composition.specs.Composite.{Composable, composite, composite_g, pullback, composite_degree}
use Rattle.composition.proofs.Rules.{composite_N}

module _ (R : CRing) (q₁ q₂ q₃ : Question R) where
  abbrev leftwards : Question R
  leftwards = composite R (composite R q₁ q₂) q₃

  abbrev rightwards : Question R
  rightwards = composite R q₁ (composite R q₂ q₃)

  degrees : leftwards.d ≡ rightwards.d
  degrees =
      let x : q₃.d * ℓ R (composite R q₁ q₂) ≡ q₃.d * ℓ R q₂ * ℓ R q₁ =
      ap (λ m. q₃.d * m) (sym (composite_degree R q₁ q₂)) ∙ sym (Nat.mul_assoc q₃.d (ℓ R q₂) (ℓ R q₁)) in
      let y : (q₂.d + q₃.d * ℓ R q₂) * ℓ R q₁ ≡ q₂.d * ℓ R q₁ + q₃.d * ℓ R q₂ * ℓ R q₁ = Nat.add-mul q₂.d (q₃.d * ℓ R q₂) (ℓ R q₁) in
      omega arith

  sigmas : leftwards.σ ≡ rightwards.σ
  sigmas =
      solve5 R (λ r s t l m. r :+ m :* (s :+ l :* t)) (λ r s t l m. r :+ m :* s :+ m :* l :* t) tt
      q₃.σ q₂.σ q₁.σ (cast R (ℓ R q₂)) (cast R (ℓ R q₃))
      ∙ ap (λ m. R.add (R.add q₃.σ (R.mul (cast R (ℓ R q₃)) q₂.σ)) (R.mul m q₁.σ))
      (sym (cast_mul R (ℓ R q₃) (ℓ R q₂)) ∙ ap (cast R) (composite_degree R q₂ q₃))

  pub one_question : composite R (composite R q₁ q₂) q₃ ≡ composite R q₁ (composite R q₂ q₃)
  one_question = λ i. record { A = q₁.A; B = q₁.B; Ã = q₃.Ã; B̃ = q₃.B̃; d = degrees i; σ = sigmas i }

  module _ (d₁≥1 : 1 ≤ q₁.d) (d₂≥1 : 1 ≤ q₂.d) (composable : Composable R q₁ q₂)
      (g₁ g₂ g₃ : Seq R) (meets₁ : Meets R q₁ g₁) (r1₂ : R1 R q₂ g₂) where
    open Series R use {mul as ◌⊗◌, mul_assoc}

    infixl 70 ◌⊗◌
    infixr 75 ◌^◌
    abbrev ◌^◌ : Seq R → ℕ → Seq R
    a ^ n = pow (Series R) a n

    abbrev X : Seq R
    X = N R q₁ g₁

    abbrev Y : Seq R
    Y = g₁ ^ 2

    -- g₂ and N₂ at N₁ / g₁²
    abbrev e : Seq R
    e = pullback R q₁ g₁ q₂.d g₂

    abbrev M : Seq R
    M = pullback R q₁ g₁ (ℓ R q₂) (N R q₂ g₂)

    h_square : Homogenized R X Y (ℓ R q₂) (g₂ ^ 2) (Y ⊗ e ^ 2)
    h_square = h_degree R X Y (omega arith) (h_up R X Y (h_pow R X Y (h_is R X Y r1₂.degree) 2))

    h_both : Homogenized R X Y (q₂.d + q₃.d * ℓ R q₂) (g₂ ⊗ pullback R q₂ g₂ q₃.d g₃) (e ⊗ homogenize R M (Y ⊗ e ^ 2) q₃.d g₃)
    h_both =
        h_mul R X Y (h_is R X Y r1₂.degree) (h_homogenize R (h_is R X Y (N_below R q₂ g₂ r1₂)) h_square q₃.d g₃)

    pub associative : composite_g R (composite R q₁ q₂) q₃.d (composite_g R q₁ q₂.d g₁ g₂) g₃
        ≡ composite_g R q₁ (composite R q₂ q₃).d g₁ (composite_g R q₂ q₃.d g₂ g₃)
    unfolding composite_g
    associative =
        ap₂ (λ n y. g₁ ⊗ e ⊗ homogenize R n y q₃.d g₃) (composite_N R q₁ q₂ d₁≥1 d₂≥1 composable g₁ g₂ meets₁ r1₂)
        (solve2 (Series R) (λ g e. (g :* e) :^ 2) (λ g e. g :^ 2 :* e :^ 2) tt g₁ e)
        ∙ mul_assoc g₁ e _ ∙ ap (λ y. g₁ ⊗ y) (sym h_both.same)
