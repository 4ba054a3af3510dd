-- The powers of 1 + t: their coefficients, and the one fact of binomial coefficients that Fermat's little theorem needs.
-- Assumes nothing.
use Rattle.std.specs.Prelude.{◌≡◌, ◌≢◌}
use Rattle.std.proofs.Math.Path.{refl, sym, ap}
use Rattle.std.proofs.Common.{◌∙◌, ap₂, subst, arith}
use Prim.Native.Nat.{ℕ, zero, suc, ◌+◌}
use Rattle.ring.specs.Ring
use Rattle.ring.specs.Ring.{CRing, cast, cast_suc, pow, pow-zero, pow-suc}
use Rattle.ring.specs.Identity.{solve1, solve2, solve3, solve4}
use Rattle.ring.specs.Identity.Ex.{num, :0, :1, ◌:+◌, ◌:*◌, ◌:^◌}
use Rattle.series.specs.Series as S
use Rattle.series.specs.Series.{Series, Seq, const, head_then, ∂, ∂-at, ∂-leibniz}
use Rattle.series.specs.Degree.{Below, Poly, Monic, monic_mul, const_below}
use Rattle.series.specs.Indeterminate.{ind, conv_ind, conv_cast}
use Rattle.series.specs.Value.{value, value_same, value_conv}

module _ (R : CRing) where
  open Series R use {add as ◌+ₛ◌, mul as ◌*ₛ◌}
  open R use {Car, 𝟘, 𝟙, add as ◌⊕◌, mul as ◌⊗◌, add-zero}

  infixl 65 ◌⊕◌ ◌+ₛ◌
  infixl 70 ◌⊗◌ ◌*ₛ◌
  -- ── powers of a polynomial of degree 1

  pub monic_power : (a : Seq R) → Monic R 1 a → (n : ℕ) → Monic R n (pow (Series R) a n)
  monic_power a m zero = rw (pow-zero (Series R) a) (record { below = const_below R 𝟙; one = refl })
  monic_power a m (suc n) =
      rw (pow-suc (Series R) a n) (subst (λ k. Monic R k (a *ₛ pow (Series R) a n)) (omega arith)
      (monic_mul R 1 n a (pow (Series R) a n) m (monic_power a m n)))

  pub value_power : (a : Seq R) → Monic R 1 a → (n : ℕ) (u : Car) → value R (suc n) (pow (Series R) a n) u ≡ pow R (value R 2 a u) n
  unfolding value
  value_power a m zero u = ap (λ f. f 0 ⊕ u ⊗ 𝟘) (pow-zero (Series R) a) ∙ solve1 R (λ u. :1 :+ u :* :0) (λ u. u :^ 0) tt u ∙ pow-zero R u ∙ sym (pow-zero R _)
  value_power a m (suc n) u =
      value_same R (suc (suc n)) (2 + suc n) (pow (Series R) a (suc n)) (a *ₛ pow (Series R) a n) u (monic_power a m (suc n)).below
      (λ i l. ap (λ f. f i) (sym (pow-suc (Series R) a n)) ∙ (monic_power a m (suc n)).below i (omega arith))
      (λ i. ap (λ f. f i) (pow-suc (Series R) a n))
      ∙ value_conv R 2 (suc n) a (pow (Series R) a n) u m.below (monic_power a m n).below
      ∙ ap (λ y. value R 2 a u ⊗ y) (value_power a m n u) ∙ sym (pow-suc R _ n)

  -- (aⁿ⁺¹)' = (n + 1) aⁿ a'
  pub ∂-pow : (a : Seq R) (n : ℕ) → ∂ R (pow (Series R) a (suc n)) ≡ cast (Series R) (suc n) *ₛ pow (Series R) a n *ₛ ∂ R a
  ∂-pow a zero =
      ap (∂ R) (solve1 (Series R) (λ x. x :^ 1) (λ x. x) tt a) ∙ solve2 (Series R) (λ x d. d) (λ x d. num 1 :* x :^ 0 :* d) tt a (∂ R a)
  ∂-pow a (suc n) =
      ap (∂ R) (pow-suc (Series R) a (suc n)) ∙ ∂-leibniz R a (pow (Series R) a (suc n))
      ∙ ap₂ (λ x y. ∂ R a *ₛ x +ₛ a *ₛ y) (pow-suc (Series R) a n) (∂-pow a n)
      ∙ solve4 (Series R) (λ a d x k. d :* (a :* x) :+ a :* (k :* x :* d)) (λ a d x k. (k :+ :1) :* (a :* x) :* d) tt
      a (∂ R a) (pow (Series R) a n) (cast (Series R) (suc n))
      ∙ sym (ap₂ (λ k x. k *ₛ x *ₛ ∂ R a) (cast_suc (Series R) (suc n)) (pow-suc (Series R) a n))

  -- ── the powers of t

  pub ind_monic : Monic R 1 (ind R)
  unfolding ind
  ind_monic = record { below = below; one = refl }
    where
      below : Below R 2 (ind R)
      below zero l = absurd (omega arith)
      below (suc zero) l = absurd (omega arith)
      below (suc (suc i)) l = refl

  abbrev pub poly_ind : Poly R (ind R)
  poly_ind = (2, ind_monic.below)

  pub ind_value : (u : Car) → value R 2 (ind R) u ≡ u
  unfolding ind value
  ind_value u = solve1 R (λ u. :0 :+ u :* (:1 :+ u :* :0)) (λ u. u) tt u

  pub ind_power : (n i : ℕ) → n ≢ i → pow (Series R) (ind R) n i ≡ 𝟘
  ind_power zero zero h = absurd (h refl)
  ind_power zero (suc i) h = ap (λ f. f (suc i)) (pow-zero (Series R) (ind R))
  ind_power (suc n) zero h = ap (λ f. f 0) (pow-suc (Series R) (ind R) n ∙ conv_ind R _)
  ind_power (suc n) (suc i) h = ap (λ f. f (suc i)) (pow-suc (Series R) (ind R) n ∙ conv_ind R _) ∙ ind_power n i (λ e. h (ap suc e))

  -- ── the powers of 1 + t

  unfoldable pub one_plus : Seq R
  one_plus = head_then R 𝟙 (const R 𝟙)

  pub one_plus_monic : Monic R 1 one_plus
  unfolding one_plus
  one_plus_monic = record { below = below; one = refl }
    where
      below : Below R 2 one_plus
      below zero l = absurd (omega arith)
      below (suc zero) l = absurd (omega arith)
      below (suc (suc i)) l = refl

  pub one_plus_value : (u : Car) → value R 2 one_plus u ≡ 𝟙 ⊕ u
  unfolding one_plus value
  one_plus_value u = solve1 R (λ u. :1 :+ u :* (:1 :+ u :* :0)) (λ u. :1 :+ u) tt u

  pub binomial : ℕ → Seq R
  binomial n = pow (Series R) one_plus n

  pub binomial_zero : (n : ℕ) → binomial n 0 ≡ 𝟙
  unfolding binomial one_plus
  binomial_zero zero = ap (λ f. f 0) (pow-zero (Series R) one_plus)
  binomial_zero (suc n) =
      ap (λ f. f 0) (pow-suc (Series R) one_plus n) ∙ S.conv_zero R one_plus (binomial n) ∙ Ring.one-mul R _ ∙ binomial_zero n

  pub binomial_monic : (n : ℕ) → Monic R n (binomial n)
  unfolding binomial
  binomial_monic n = monic_power one_plus one_plus_monic n

  pub binomial_value : (n : ℕ) (u : Car) → value R (suc n) (binomial n) u ≡ pow R (𝟙 ⊕ u) n
  unfolding binomial
  binomial_value n u = value_power one_plus one_plus_monic n u ∙ ap (λ y. pow R y n) (one_plus_value u)

  -- (i + 1) · binomial (n + 1) (i + 1) is a multiple of n + 1
  pub absorb : (n i : ℕ) → cast R (suc n) ≡ 𝟘 → cast R (suc i) ⊗ binomial (suc n) (suc i) ≡ 𝟘
  unfolding binomial
  absorb n i e =
      sym (∂-at R (binomial (suc n)) i)
      ∙ ap (λ f. f i)
      (∂-pow one_plus n
      ∙ solve3 (Series R) (λ k x d. k :* x :* d) (λ k x d. k :* (x :* d)) tt (cast (Series R) (suc n)) (binomial n) (∂ R one_plus))
      ∙ conv_cast R (suc n) (binomial n *ₛ ∂ R one_plus) i ∙ ap (λ x. x ⊗ (binomial n *ₛ ∂ R one_plus) i) e ∙ Ring.zero-mul R _
