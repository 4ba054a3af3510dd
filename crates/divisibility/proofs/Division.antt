-- Division with remainder by a polynomial whose leading coefficient is a unit (over a field: by any but zero), and its uniqueness.
-- Assumes nothing.
use Rattle.std.specs.Prelude.{◌≡◌, refl, ◌⊎◌}
use Rattle.std.proofs.Common.{sym, ◌∙◌, ap₂, subst, inl, inr, arith}
use Rattle.std.proofs.Math.Path.{ap, fun_ext}
use Prim.Native.Nat.{ℕ, zero, suc, ◌<◌}
use Rattle.std.proofs.Math.Nat as N
use Rattle.ring.specs.Ring
use Rattle.ring.specs.Ring.{CRing}
use Rattle.ring.specs.Identity.{solve1, solve2, solve3, solve5}
use Rattle.ring.specs.Identity.Ex.{:0, ◌:+◌, ◌:-◌, ◌:*◌}
use Rattle.series.specs.Series.{Series, Seq, sums, scaled, zeros, tail, head_then, conv_cons}
use Rattle.series.specs.Degree.{Below, Leading, poly_zeros, poly_add, poly_neg, factor_below, below_zeros}
use Rattle.divisibility.specs.Division.{Division}

module _ (R : CRing) where
  open R use {Car, 𝟘, add as ◌⊕◌, mul as ◌⊗◌, neg, add-neg}
  open Series R use {add as ◌+ₛ◌, mul as ◌*ₛ◌, neg as -ₛ◌}

  infixl 65 ◌⊕◌ ◌+ₛ◌
  infixl 70 ◌⊗◌ ◌*ₛ◌
  infix 75 -ₛ◌
  module _ (n : ℕ) (b : Seq R) (L : Leading R n b) where
    -- from the division of a's tail: where tail a = b k + r, a = b (c + x k) + (a₀ + x r − c b), and c makes the coefficient at n zero
    module _ (a : Seq R) (D : Division R n (tail R a) b) where
      longer : Seq R
      longer = head_then R (a 0) D.remainder

      c : Car
      c = L.unit.0 ⊗ longer n

      step : Division R n a b
      unfolding longer c
      step = record {
        quotient = head_then R c D.quotient;
        remainder = λ i. longer i ⊕ neg (c ⊗ b i);
        poly = (suc D.poly.0, quotient_below);
        below = λ i l. remainder_below i (N.eq-or-lt_of_le l);
        is = fun_ext λ i. parts i ∙ ap (λ y. y i ⊕ (longer i ⊕ neg (c ⊗ b i))) (sym product);
      }
        where
          quotient_below : Below R (suc D.poly.0) (head_then R c D.quotient)
          quotient_below zero l = absurd (omega arith)
          quotient_below (suc i) l = D.poly.1 i (omega arith)

          past : (i : ℕ) → n < i → longer i ≡ 𝟘
          past zero l = absurd (omega arith)
          past (suc i) l = D.below i (omega arith)

          remainder_below : (i : ℕ) → (n ≡ i) ⊎ (n < i) → longer i ⊕ neg (c ⊗ b i) ≡ 𝟘
          remainder_below i (inl e) =
              subst (λ j. longer j ⊕ neg (c ⊗ b j) ≡ 𝟘) e
              (ap (λ x. longer n ⊕ neg x) (solve3 R (λ u y b. u :* y :* b) (λ u y b. b :* u :* y) tt L.unit.0 (longer n) (b n)
              ∙ ap (λ x. x ⊗ longer n) L.unit.1 ∙ Ring.one-mul R (longer n))
              ∙ add-neg (longer n))
          remainder_below i (inr g) =
              ap₂ (λ x y. x ⊕ neg (c ⊗ y)) (past i g) (L.below i g) ∙ ap (λ x. 𝟘 ⊕ neg x) (Ring.mul-zero R c) ∙ add-neg 𝟘

          product : b *ₛ head_then R c D.quotient ≡ sums R (scaled R c b) (head_then R 𝟘 (b *ₛ D.quotient))
          product =
              CRing.mul_comm (Series R) b _ ∙ conv_cons R c D.quotient b
              ∙ ap (λ y. sums R (scaled R c b) (head_then R 𝟘 y)) (CRing.mul_comm (Series R) D.quotient b)

          parts : (i : ℕ) → a i ≡ c ⊗ b i ⊕ head_then R 𝟘 (b *ₛ D.quotient) i ⊕ (longer i ⊕ neg (c ⊗ b i))
          parts zero = solve2 R (λ a y. a) (λ a y. y :+ :0 :+ (a :- y)) tt (a 0) (c ⊗ b 0)
          parts (suc i) =
              ap (λ f. f i) D.is
              ∙ solve3 R (λ k r y. k :+ r) (λ k r y. y :+ k :+ (r :- y)) tt ((b *ₛ D.quotient) i) (D.remainder i) (c ⊗ b (suc i))

    -- there is a quotient and a remainder
    pub divide : (j : ℕ) (a : Seq R) → Below R j a → Division R n a b
    divide zero a h = record {
      quotient = zeros R;
      remainder = zeros R;
      poly = poly_zeros R;
      below = λ i l. refl;
      is = below_zeros R a h ∙ solve1 (Series R) (λ x. :0) (λ x. x :* :0 :+ :0) tt b;
    }
    divide (suc j) a h = step a (divide j (tail R a) (λ i l. h (suc i) (omega arith)))

    -- and only one
    module _ (a : Seq R) (D E : Division R n a b) where
      pub quotient_unique : D.quotient ≡ E.quotient
      quotient_unique =
          Ring.sub-zero (Series R) D.quotient E.quotient
          (below_zeros R _ (factor_below R n b (D.quotient +ₛ -ₛ E.quotient) L
          (poly_add R D.quotient (-ₛ E.quotient) D.poly (poly_neg R E.quotient E.poly)) 0
          (λ i l. ap (λ f. f i) gap ∙ ap₂ (λ x y. x ⊕ neg y) (E.below i (omega arith)) (D.below i (omega arith)) ∙ add-neg 𝟘)))
        where
          gap : b *ₛ (D.quotient +ₛ -ₛ E.quotient) ≡ E.remainder +ₛ -ₛ D.remainder
          gap =
              solve5 (Series R) (λ b k r l s. b :* (k :- l)) (λ b k r l s. s :- r :+ ((b :* k :+ r) :- (b :* l :+ s))) tt
              b D.quotient D.remainder E.quotient E.remainder
              ∙ ap₂ (λ x y. E.remainder +ₛ -ₛ D.remainder +ₛ (x +ₛ -ₛ y)) (sym D.is) (sym E.is)
              ∙ solve3 (Series R) (λ r s a. s :- r :+ (a :- a)) (λ r s a. s :- r) tt D.remainder E.remainder a

      pub remainder_unique : D.remainder ≡ E.remainder
      remainder_unique =
          solve3 (Series R) (λ b k r. r) (λ b k r. b :* k :+ r :- b :* k) tt b D.quotient D.remainder
          ∙ ap₂ (λ x k. x +ₛ -ₛ (b *ₛ k)) (sym D.is ∙ E.is) quotient_unique
          ∙ solve3 (Series R) (λ b k r. b :* k :+ r :- b :* k) (λ b k r. r) tt b E.quotient E.remainder
