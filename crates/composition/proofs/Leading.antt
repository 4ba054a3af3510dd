-- The composite's kernel polynomial reversed, and its first two coefficients: it meets R1.
-- Assumes nothing.
use Rattle.std.specs.Prelude.{◌≡◌, ℕ, suc, ◌*◌, ◌-◌, ◌≤◌}
use Rattle.std.proofs.Math.Path.{sym, ap, ap₂}
use Rattle.std.proofs.Common.{◌∙◌, arith}
use Rattle.ring.specs.Ring.{CRing, cast, cast_add, cast_mul, pow}
use Rattle.ring.specs.Identity.{solve1, solve2, solve3}
use Rattle.ring.specs.Identity.Ex.{num, :0, :1, ◌:+◌, ◌:*◌, :-◌, ◌:^◌}
use Rattle.series.specs.Series as S
use Rattle.series.specs.Series.{Series, Seq, conv}
use Rattle.series.specs.ConstantTerm.{pow_first}
use Rattle.series.specs.Indeterminate.{ind, conv_ind}
use Rattle.series.specs.Reversal.{rev_first, rev_sub, Reversed, r_degree, r_mul, r_pow, r_up}
use Rattle.isogeny.specs.Rules.{Question, R1, ℓ}
use Rattle.isogeny.proofs.Infinity as I
use Rattle.isogeny.proofs.Infinity.{reversed, power_sums_of, quot}
use Rattle.isogeny.proofs.Conditions.{u_first, u_second}
use Rattle.composition.specs.Substitution.{homogenize}
use Rattle.composition.specs.SubstitutionReversed.{conv_at_one, r_homogenize, first, second}
use Rattle.composition.specs.Composite.{composite, composite_g, pullback}

module _ (R : CRing) (q₁ q₂ : Question R) (d₁≥1 : 1 ≤ q₁.d) (d₂≥1 : 1 ≤ q₂.d) (g₁ g₂ : Seq R) (r1₁ : R1 R q₁ g₁) (r1₂ : R1 R q₂ g₂) where
  open R use {Car, 𝟘, 𝟙, add as ◌⊕◌, mul as ◌⊗◌, neg, mul-one}

  infixl 65 ◌⊕◌
  infixl 70 ◌⊗◌
  infix 80 #◌
  abbrev #◌ : ℕ → Car
  # n = cast R n

  abbrev G₁ : Seq R
  G₁ = reversed R q₁ g₁

  abbrev u : Seq R
  u = quot R q₁ (power_sums_of R q₁ g₁)

  -- N₁ and g₁² reversed, both as of degree ℓ₁
  abbrev pub U : Seq R
  U = conv R u (pow (Series R) G₁ 2)

  abbrev pub T : Seq R
  T = conv R (ind R) (pow (Series R) G₁ 2)

  r_square : Reversed R (ℓ R q₁) (pow (Series R) g₁ 2) T
  r_square = r_degree R (omega arith) (r_up R (r_pow R (I.r_g R q₁ g₁ r1₁) 2))

  pub r_pullback : (n : ℕ) (P : Seq R) → Reversed R (n * ℓ R q₁) (pullback R q₁ g₁ n P) (homogenize R U T n P)
  r_pullback = r_homogenize R (I.r_N R q₁ g₁ r1₁) r_square

  G₀ : G₁ 0 ≡ 𝟙
  G₀ = I.G_first R q₁ g₁ r1₁

  square_0 : pow (Series R) G₁ 2 0 ≡ 𝟙
  square_0 = pow_first R G₁ G₀ 2

  U_0 : U 0 ≡ 𝟙
  U_0 = S.conv_zero R u _ ∙ ap₂ ◌⊗◌ (u_first R q₁ d₁≥1 g₁ r1₁) square_0 ∙ mul-one 𝟙

  U_1 : U 1 ≡ # 2 ⊗ G₁ 1
  U_1 =
      conv_at_one R u _
      ∙ ap₂ ◌⊕◌
      (ap₂ ◌⊗◌ (u_first R q₁ d₁≥1 g₁ r1₁)
      (ap (λ f. f 1) (solve1 (Series R) (λ g. g :^ 2) (λ g. g :* g) tt G₁) ∙ conv_at_one R G₁ G₁ ∙ ap (λ y. y ⊗ G₁ 1 ⊕ G₁ 1 ⊗ y) G₀))
      (ap (λ y. y ⊗ pow (Series R) G₁ 2 0) (u_second R q₁ d₁≥1 g₁ r1₁))
      ∙ solve2 R (λ y z. :1 :* (:1 :* y :+ y :* :1) :+ :0 :* z) (λ y z. num 2 :* y) tt (G₁ 1) (pow (Series R) G₁ 2 0)

  T_0 : T 0 ≡ 𝟘
  T_0 = ap (λ f. f 0) (conv_ind R (pow (Series R) G₁ 2))

  T_1 : T 1 ≡ 𝟙
  T_1 = ap (λ f. f 1) (conv_ind R (pow (Series R) G₁ 2)) ∙ square_0

  abbrev K : Seq R
  K = homogenize R U T q₂.d g₂

  r_composite : Reversed R (composite R q₁ q₂).d (composite_g R q₁ q₂.d g₁ g₂) (conv R G₁ K)
  unfolding composite_g
  r_composite = r_mul R (I.r_g R q₁ g₁ r1₁) (r_pullback q₂.d g₂)

  K_0 : K 0 ≡ 𝟙
  K_0 = first R U T U_0 T_0 q₂.d g₂ ∙ r1₂.leading

  K_1 : K 1 ≡ g₂ (q₂.d - 1) ⊕ # q₂.d ⊗ (# 2 ⊗ G₁ 1)
  K_1 = go (q₂.d - 1) (omega arith)
    where
      go : (m : ℕ) → q₂.d ≡ suc m → K 1 ≡ g₂ (q₂.d - 1) ⊕ # q₂.d ⊗ (# 2 ⊗ G₁ 1)
      go m e =
          ap (λ n. homogenize R U T n g₂ 1) e ∙ second R U T U_0 T_0 T_1 m g₂
          ∙ ap₂ (λ i n. g₂ i ⊕ # n ⊗ U 1 ⊗ g₂ n) (omega arith) (sym e)
          ∙ ap₂ (λ y z. g₂ (q₂.d - 1) ⊕ # q₂.d ⊗ y ⊗ z) U_1 r1₂.leading
          ∙ ap (λ y. g₂ (q₂.d - 1) ⊕ y) (mul-one _)

  -- the coefficient of x^(d − 1)
  below_top : composite_g R q₁ q₂.d g₁ g₂ ((composite R q₁ q₂).d - 1) ≡ g₂ (q₂.d - 1) ⊕ # q₂.d ⊗ (# 2 ⊗ g₁ (q₁.d - 1)) ⊕ g₁ (q₁.d - 1)
  unfolding reversed
  below_top =
      sym (rev_sub R (composite R q₁ q₂).d 1 (composite_g R q₁ q₂.d g₁ g₂) (omega arith)) ∙ ap (λ f. f 1) r_composite.same
      ∙ conv_at_one R G₁ K ∙ ap₂ ◌⊕◌ (ap₂ ◌⊗◌ G₀ K_1) (ap (λ y. G₁ 1 ⊗ y) K_0)
      ∙ solve3 R (λ y n g. :1 :* (y :+ n :* (num 2 :* g)) :+ g :* :1) (λ y n g. y :+ n :* (num 2 :* g) :+ g) tt (g₂ (q₂.d - 1)) (# q₂.d) (G₁ 1)
      ∙ ap (λ y. g₂ (q₂.d - 1) ⊕ # q₂.d ⊗ (# 2 ⊗ y) ⊕ y) (rev_sub R q₁.d 1 g₁ d₁≥1)

  pub composite_R1 : R1 R (composite R q₁ q₂) (composite_g R q₁ q₂.d g₁ g₂)
  composite_R1 = record {
    degree = r_composite.below;
    leading =
        sym (rev_first R (composite R q₁ q₂).d (composite_g R q₁ q₂.d g₁ g₂)) ∙ ap (λ f. f 0) r_composite.same
        ∙ S.conv_zero R G₁ K ∙ ap₂ ◌⊗◌ G₀ K_0 ∙ mul-one 𝟙;
    sigma =
        ap₂ (λ a b. a ⊕ # (ℓ R q₂) ⊗ b) r1₂.sigma r1₁.sigma
        ∙ ap (λ n. neg (# 2 ⊗ g₂ (q₂.d - 1)) ⊕ n ⊗ neg (# 2 ⊗ g₁ (q₁.d - 1))) (cast_add R (2 * q₂.d) 1 ∙ ap (λ n. n ⊕ # 1) (cast_mul R 2 q₂.d))
        ∙ solve3 R (λ a b n. :- (num 2 :* a) :+ (num 2 :* n :+ num 1) :* :- (num 2 :* b)) (λ a b n. :- (num 2 :* (a :+ n :* (num 2 :* b) :+ b))) tt
        (g₂ (q₂.d - 1)) (g₁ (q₁.d - 1)) (# q₂.d)
        ∙ ap (λ y. neg (# 2 ⊗ y)) (sym below_top);
  }
