-- The indeterminate of `Series R`, which is x of polynomials and t of power series; numbers and elements of R as series; what the derivations
-- d/dx and D = x · d/dx make of them.
-- Assumes nothing.
use Rattle.std.specs.Prelude.{◌≡◌, refl}
use Rattle.std.proofs.Common.{sym, ◌∙◌, ap}
use Rattle.std.proofs.Math.Path.{ap₂, fun_ext}
use Prim.Native.Nat.{ℕ, zero, suc}
use Rattle.ring.specs.Ring
use Rattle.ring.specs.Ring.{CRing, cast, cast_zero, cast_suc, pow, pow-zero, pow-suc}
use Rattle.ring.specs.Identity.{solve1, solve2}
use Rattle.ring.specs.Identity.Ex.{num, :1, ◌:+◌, ◌:-◌, ◌:*◌}
use Rattle.series.specs.Series as S
use Rattle.series.specs.Series.{Series, Seq, conv, head_then, const, conv_const, D, D_at, D_zero, ∂, ∂-is}

module _ (R : CRing) where
  open Series R use {add as ◌+ₛ◌, mul as ◌*ₛ◌, neg as -ₛ◌}
  open R use {Car, 𝟘, 𝟙, add as ◌⊕◌, mul as ◌⊗◌, add-zero}

  infixl 65 ◌⊕◌ ◌+ₛ◌
  infixl 70 ◌⊗◌ ◌*ₛ◌
  infix 75 -ₛ◌
  unfoldable pub ind : Seq R
  ind = head_then R 𝟘 (const R 𝟙)

  pub conv_ind : (a : Seq R) → ind *ₛ a ≡ head_then R 𝟘 a
  unfolding ind
  conv_ind a = fun_ext go
    where
      go : (i : ℕ) → conv R ind a i ≡ head_then R 𝟘 a i
      go zero = S.conv_zero R ind a ∙ Ring.zero-mul R (a 0)
      go (suc i) =
          S.conv_suc R ind a i ∙ ap₂ ◌⊕◌ (Ring.zero-mul R (a (suc i))) (conv_const R 𝟙 a i ∙ Ring.one-mul R (a i)) ∙ Ring.zero-add R (a i)

  pub cast_series : (n : ℕ) → cast (Series R) n ≡ const R (cast R n)
  cast_series n = fun_ext (go n)
    where
      go : (n i : ℕ) → cast (Series R) n i ≡ const R (cast R n) i
      go zero zero = ap (λ f. f 0) (cast_zero (Series R)) ∙ sym (cast_zero R)
      go zero (suc i) = ap (λ f. f (suc i)) (cast_zero (Series R))
      go (suc n) zero = ap (λ f. f 0) (cast_suc (Series R) n) ∙ ap (λ x. x ⊕ 𝟙) (go n 0) ∙ sym (cast_suc R n)
      go (suc n) (suc i) = ap (λ f. f (suc i)) (cast_suc (Series R) n) ∙ ap (λ x. x ⊕ 𝟘) (go n (suc i)) ∙ add-zero 𝟘

  pub conv_cast : (n : ℕ) (a : Seq R) (i : ℕ) → conv R (cast (Series R) n) a i ≡ cast R n ⊗ a i
  conv_cast n a i = ap (λ f. conv R f a i) (cast_series n) ∙ conv_const R (cast R n) a i

  -- ── elements of R as series: their sums, products and powers

  pub const_add : (a b : Car) → const R a +ₛ const R b ≡ const R (a ⊕ b)
  const_add a b = fun_ext go
    where
      go : (i : ℕ) → const R a i ⊕ const R b i ≡ const R (a ⊕ b) i
      go zero = refl
      go (suc i) = add-zero 𝟘

  pub const_mul : (a b : Car) → const R a *ₛ const R b ≡ const R (a ⊗ b)
  const_mul a b = fun_ext λ i. conv_const R a (const R b) i ∙ go i
    where
      go : (i : ℕ) → a ⊗ const R b i ≡ const R (a ⊗ b) i
      go zero = refl
      go (suc i) = Ring.mul-zero R a

  pub const_pow : (a : Car) (n : ℕ) → pow (Series R) (const R a) n ≡ const R (pow R a n)
  const_pow a zero = pow-zero (Series R) (const R a) ∙ ap (const R) (sym (pow-zero R a))
  const_pow a (suc n) =
      pow-suc (Series R) (const R a) n ∙ ap (λ y. const R a *ₛ y) (const_pow a n) ∙ const_mul a (pow R a n) ∙ ap (const R) (sym (pow-suc R a n))

  -- ── derivatives

  pub D_const : (c : Car) (i : ℕ) → D R (const R c) i ≡ 𝟘
  D_const c zero = D_zero R (const R c)
  D_const c (suc i) = D_at R (const R c) (suc i) ∙ Ring.mul-zero R _

  pub D_ind : D R ind ≡ ind
  unfolding ind
  D_ind = fun_ext go
    where
      go : (i : ℕ) → D R ind i ≡ ind i
      go zero = D_zero R ind
      go (suc zero) = D_at R ind 1 ∙ solve1 R (λ y. num 1 :* :1) (λ y. :1) tt 𝟘
      go (suc (suc i)) = D_at R ind (suc (suc i)) ∙ Ring.mul-zero R _

  pub ∂-const : (c : Car) → ∂ R (const R c) ≡ CRing.𝟘 (Series R)
  ∂-const c = fun_ext λ i. S.∂-at R (const R c) i ∙ Ring.mul-zero R _

  pub ∂-ind : ∂ R ind ≡ CRing.𝟙 (Series R)
  unfolding ind
  ∂-ind = fun_ext go
    where
      go : (i : ℕ) → ∂ R ind i ≡ CRing.𝟙 (Series R) i
      go zero = S.∂-at R ind 0 ∙ solve1 R (λ y. num 1 :* :1) (λ y. :1) tt 𝟘
      go (suc i) = S.∂-at R ind (suc i) ∙ Ring.mul-zero R _

  -- x a'
  pub D_is : (a : Seq R) → ind *ₛ ∂ R a ≡ D R a
  D_is a = conv_ind (∂ R a) ∙ fun_ext go
    where
      go : (i : ℕ) → head_then R 𝟘 (∂ R a) i ≡ D R a i
      go zero = sym (D_zero R a)
      go (suc i) = ap (λ f. f i) (sym (∂-is R a))

  -- x² a'': D (D a) is D (x a') = x a' + x D (a')
  pub D_twice : (a : Seq R) → ind *ₛ (ind *ₛ ∂ R (∂ R a)) ≡ D R (D R a) +ₛ -ₛ D R a
  D_twice a =
      ap (λ y. ind *ₛ y) (D_is (∂ R a))
      ∙ solve2 (Series R) (λ y z. y) (λ y z. z :+ y :- z) tt (ind *ₛ D R (∂ R a)) (D R a)
      ∙ ap (λ y. y +ₛ -ₛ D R a) (sym leibniz)
    where
      leibniz : D R (D R a) ≡ D R a +ₛ ind *ₛ D R (∂ R a)
      leibniz =
          ap (D R) (sym (D_is a)) ∙ S.leibniz R ind (∂ R a)
          ∙ ap (λ y. y +ₛ ind *ₛ D R (∂ R a)) (ap (λ y. y *ₛ ∂ R a) D_ind ∙ D_is a)
