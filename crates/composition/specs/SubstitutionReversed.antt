-- `homogenize n P` reversed is the substitution of the reversed X and Y; its first two coefficients, where the reversed X begins with 1 and the reversed Y
-- with 0 and 1.
-- Assumes nothing.
use Rattle.std.specs.Prelude.{◌≡◌, ℕ, zero, suc, ◌*◌}
use Rattle.std.proofs.Common.{sym, ◌∙◌, ap, ap₂}
use Rattle.std.proofs.Math.Nat as Nat
use Rattle.ring.specs.Ring
use Rattle.ring.specs.Ring.{CRing, cast, cast_suc, pow, pow-suc}
use Rattle.ring.specs.Identity.{solve1, solve2, solve4, solve5}
use Rattle.ring.specs.Identity.Ex.{num, :0, :1, ◌:+◌, ◌:*◌, ◌:^◌}
use Rattle.series.specs.Series as S
use Rattle.series.specs.Series.{Series, Seq, conv, tail, const}
use Rattle.series.specs.Reversal.{Reversed, r_degree, r_left, r_right, r_add, r_mul, r_pow, r_const}
use Rattle.composition.specs.Substitution.{homogenize, homogenize_zero, homogenize_suc}

module _ (R : CRing) where
  open Series R use {add as ◌⊕◌, mul as ◌⊗◌}

  infixl 65 ◌⊕◌
  infixl 70 ◌⊗◌
  infixr 75 ◌^◌
  abbrev ◌^◌ : Seq R → ℕ → Seq R
  a ^ n = pow (Series R) a n

  -- the coefficient of x of a product
  pub conv_at_one : (a b : Seq R) → conv R a b 1 ≡ R.add (R.mul (a 0) (b 1)) (R.mul (a 1) (b 0))
  conv_at_one a b = S.conv_suc R a b 0 ∙ ap (R.add (R.mul (a 0) (b 1))) (S.conv_zero R (tail R a) b)

  pub r_homogenize : {l : ℕ} {X Y U T : Seq R} → Reversed R l X U → Reversed R l Y T
      → (n : ℕ) (P : Seq R) → Reversed R (n * l) (homogenize R X Y n P) (homogenize R U T n P)
  r_homogenize {l} {X} {Y} {U} {T} a b zero P =
      r_left R (sym (homogenize_zero R X Y P)) (r_right R (sym (homogenize_zero R U T P)) (r_degree R (sym (Nat.zero-mul l)) (r_const R (P 0))))
  r_homogenize {l} {X} {Y} {U} {T} a b (suc n) P =
      r_left R (sym (homogenize_suc R X Y n P)) (r_right R (sym (homogenize_suc R U T n P))
      (r_add R (r_degree R (Nat.zero-add (suc n * l)) (r_mul R (r_const R (P 0)) (r_pow R b (suc n))))
      (r_degree R (Nat.add_comm l (n * l) ∙ sym (Nat.suc-mul n l)) (r_mul R a (r_homogenize a b n (tail R P))))))

  module _ (U T : Seq R) (U₀ : U 0 ≡ R.𝟙) (T₀ : T 0 ≡ R.𝟘) where
    power_zero : (n : ℕ) → (T ^ suc n) 0 ≡ R.𝟘
    power_zero n = ap (λ f. f 0) (pow-suc (Series R) T n) ∙ S.conv_zero R T _ ∙ ap (λ y. R.mul y ((T ^ n) 0)) T₀ ∙ Ring.zero-mul R _

    pub first : (n : ℕ) (P : Seq R) → homogenize R U T n P 0 ≡ P n
    first zero P = ap (λ f. f 0) (homogenize_zero R U T P)
    first (suc n) P =
        ap (λ f. f 0) (homogenize_suc R U T n P)
        ∙ ap₂ R.add (S.conv_const R (P 0) (T ^ suc n) 0 ∙ ap (R.mul (P 0)) (power_zero n))
        (S.conv_zero R U (homogenize R U T n (tail R P)) ∙ ap₂ R.mul U₀ (first n (tail R P)))
        ∙ solve2 R (λ p y. p :* :0 :+ :1 :* y) (λ p y. y) tt (P 0) (P (suc n))

    pub second : T 1 ≡ R.𝟙 → (n : ℕ) (P : Seq R) → homogenize R U T (suc n) P 1 ≡ R.add (P n) (R.mul (R.mul (cast R (suc n)) (U 1)) (P (suc n)))
    second T₁ zero P =
        ap (λ f. f 1) (homogenize_suc R U T 0 P ∙ ap (λ y. const R (P 0) ⊗ T ^ 1 ⊕ U ⊗ y) (homogenize_zero R U T (tail R P)))
        ∙ ap₂ R.add
        (S.conv_const R (P 0) (T ^ 1) 1 ∙ ap (R.mul (P 0)) (ap (λ f. f 1) (solve1 (Series R) (λ v. v :^ 1) (λ v. v) tt T) ∙ T₁))
        (conv_at_one U (const R (P 1)))
        ∙ solve4 R (λ p u₀ u₁ y. p :* :1 :+ (u₀ :* :0 :+ u₁ :* y)) (λ p u₀ u₁ y. p :+ num 1 :* u₁ :* y) tt (P 0) (U 0) (U 1) (P 1)
    second T₁ (suc n) P =
        ap (λ f. f 1) (homogenize_suc R U T (suc n) P)
        ∙ ap₂ R.add
        (S.conv_const R (P 0) (T ^ suc (suc n)) 1 ∙ ap (R.mul (P 0)) power_one)
        (conv_at_one U (homogenize R U T (suc n) (tail R P))
        ∙ ap₂ R.add (ap₂ R.mul U₀ (second T₁ n (tail R P))) (ap (R.mul (U 1)) (first (suc n) (tail R P))))
        ∙ solve5 R (λ p y k u z. p :* :0 :+ (:1 :* (y :+ k :* u :* z) :+ u :* z)) (λ p y k u z. y :+ (k :+ :1) :* u :* z) tt
        (P 0) (P (suc n)) (cast R (suc n)) (U 1) (P (suc (suc n)))
        ∙ ap (λ k. R.add (P (suc n)) (R.mul (R.mul k (U 1)) (P (suc (suc n))))) (sym (cast_suc R (suc n)))
      where
        power_one : (T ^ suc (suc n)) 1 ≡ R.𝟘
        power_one =
            ap (λ f. f 1) (pow-suc (Series R) T (suc n)) ∙ conv_at_one T _
            ∙ ap₂ (λ y z. R.add (R.mul y ((T ^ suc n) 1)) (R.mul (T 1) z)) T₀ (power_zero n)
            ∙ solve2 R (λ y z. :0 :* y :+ z :* :0) (λ y z. :0) tt ((T ^ suc n) 1) (T 1)
