-- Coprime polynomials over a field: they have no common factor, and one that is coprime to its derivative has no repeated one.
-- Assumes nothing.
use Rattle.std.specs.Prelude.{◌≡◌, ◌⊎◌, ◌≢◌, ℕ, suc, ◌≤◌, ◌<◌}
use Rattle.std.proofs.Common.{sym, ◌∙◌, ap, inl, inr, arith}
use Rattle.ring.specs.Ring
use Rattle.ring.specs.Ring.{CRing}
use Rattle.ring.specs.Powers.{squared}
use Rattle.ring.specs.Field.{Inverse, Field}
use Rattle.ring.specs.Identity.{solve4}
use Rattle.ring.specs.Identity.Ex.{◌:+◌, ◌:*◌}
use Rattle.series.specs.Series.{Series, Seq, zeros, ∂, ∂-leibniz}
use Rattle.series.specs.Degree.{Below, Poly, Leading, degree, const_below, poly_add, poly_mul, poly_∂}
use Rattle.divisibility.specs.Divides.{Divides, NoCommonFactor, SquareFree, divides_refl, divides_degree}
use Rattle.divisibility.specs.Coprime.{Coprime, bezout_divides}

module _ (R : CRing) where
  open R use {𝟘, 𝟙}
  open Series R use {𝟙 as 1ₛ, add as ◌+ₛ◌, mul as ◌*ₛ◌}

  infixl 65 ◌+ₛ◌
  infixl 70 ◌*ₛ◌
  module _ (F : Field R) where
    -- a divisor of 1 is a constant
    divides_one : (c : Seq R) → Poly R c → Divides R c 1ₛ → Below R 1 c
    divides_one c p h = go (degree R F p.0 c p.1)
      where
        one≢0 : 1ₛ ≢ zeros R
        one≢0 e = F.apart (ap (λ f. f 0) e)

        go : (c ≡ zeros R) ⊎ ((m : ℕ) × (m < p.0) × Leading R m c) → Below R 1 c
        go (inl e) = absurd (one≢0 (sym h.is ∙ ap (λ x. x *ₛ h.cofactor) e ∙ Ring.zero-mul (Series R) h.cofactor))
        go (inr (m, l, L)) =
            let constant : m ≤ 0 = divides_degree R m c 1ₛ L h one≢0 0 (const_below R 𝟙) in
            λ i l. L.below i (omega arith)

    pub coprime_no_common_factor : (a b : Seq R) → Coprime R a b → NoCommonFactor R a b
    coprime_no_common_factor a b h c p l r = divides_one c p (bezout_divides R a b 1ₛ h c l r)

    -- and one that is coprime to its derivative has no repeated factor: where c² divides a, c divides a and a'
    pub coprime_square_free : (a : Seq R) → Coprime R a (∂ R a) → SquareFree R a
    coprime_square_free a h c p D = coprime_no_common_factor a (∂ R a) h c p once derivative
      where
        k : Seq R
        k = D.cofactor

        a_is : c *ₛ (c *ₛ k) ≡ a
        a_is = sym (CRing.mul_assoc (Series R) c c k) ∙ ap (λ x. x *ₛ k) (squared (Series R) c) ∙ D.is

        once : Divides R c a
        once = record { cofactor = c *ₛ k; poly = poly_mul R c k p D.poly; is = a_is }

        -- a' = c' c k + c (c k)'
        derivative : Divides R c (∂ R a)
        derivative = record {
          cofactor = ∂ R c *ₛ k +ₛ ∂ R (c *ₛ k);
          poly = poly_add R _ _ (poly_mul R _ k (poly_∂ R c p) D.poly) (poly_∂ R _ (poly_mul R c k p D.poly));
          is = ring4 c (∂ R c) k (∂ R (c *ₛ k)) ∙ sym (ap (∂ R) (sym a_is) ∙ ∂-leibniz R c (c *ₛ k));
        }
          where
            ring4 : (c c' k y : Seq R) → c *ₛ (c' *ₛ k +ₛ y) ≡ c' *ₛ (c *ₛ k) +ₛ c *ₛ y
            ring4 = solve4 (Series R) (λ c c' k y. c :* (c' :* k :+ y)) (λ c c' k y. c' :* (c :* k) :+ c :* y) tt

    -- a divisor of degree 1 or more is not coprime to what it divides
    pub divisor_not_coprime : (n : ℕ) (a b : Seq R) → 1 ≤ n → Leading R n a → Coprime R a b → Divides R a b → ⊥
    divisor_not_coprime n a b h L c D = absurd (F.apart (one_zero L.unit))
      where
        null : a n ≡ 𝟘
        null = coprime_no_common_factor a b c a (suc n, L.below) (divides_refl R a) D n h

        one_zero : Inverse R (a n) → 𝟙 ≡ 𝟘
        one_zero u = sym u.1 ∙ ap (λ x. R.mul x u.0) null ∙ Ring.zero-mul R u.0
