-- Divisibility of polynomials over a commutative ring, and what it is to have no common factor and no repeated one.
-- Assumes nothing.
use Rattle.std.specs.Prelude.{◌≡◌, ◌≢◌, ℕ, suc, ◌+◌, ◌≤◌}
use Rattle.std.proofs.Common.{sym, ◌∙◌, ap, ap₂, arith}
use Rattle.std.proofs.Math.Decide.{dec_le}
use Rattle.ring.specs.Ring
use Rattle.ring.specs.Ring.{CRing, pow}
use Rattle.ring.specs.Identity.{solve5}
use Rattle.ring.specs.Identity.Ex.{◌:+◌, ◌:*◌}
use Rattle.series.specs.Series.{Series, Seq, const, zeros}
use Rattle.series.specs.Degree.{Below, Poly, Leading, poly_zeros, poly_const, poly_add, poly_mul, factor_below, below_mono, below_zeros}

module _ (R : CRing) where
  open Series R use {add as ◌+ₛ◌, mul as ◌*ₛ◌}

  infixl 65 ◌+ₛ◌
  infixl 70 ◌*ₛ◌
  -- b divides a: some polynomial times b is a
  pub record Divides (b a : Seq R) : Type 0 where
    pub cofactor : Seq R
    pub poly : Poly R cofactor
    pub is : b *ₛ cofactor ≡ a

  -- a and b have no factor of degree 1 or more in common: every polynomial that divides both is a constant
  abbrev pub NoCommonFactor : Seq R → Seq R → Type 0
  NoCommonFactor a b = (c : Seq R) → Poly R c → Divides c a → Divides c b → Below R 1 c

  -- a has no repeated factor: every polynomial whose square divides it is a constant
  abbrev pub SquareFree : Seq R → Type 0
  SquareFree a = (c : Seq R) → Poly R c → Divides (pow (Series R) c 2) a → Below R 1 c

  pub divides_refl : (a : Seq R) → Divides a a
  divides_refl a = record { cofactor = const R R.𝟙; poly = poly_const R R.𝟙; is = CRing.mul-one (Series R) a }

  pub divides_zeros : (a : Seq R) → Divides a (zeros R)
  divides_zeros a = record { cofactor = zeros R; poly = poly_zeros R; is = Ring.mul-zero (Series R) a }

  pub divides_trans : (a b c : Seq R) → Divides a b → Divides b c → Divides a c
  divides_trans a b c h k = record {
    cofactor = h.cofactor *ₛ k.cofactor;
    poly = poly_mul R h.cofactor k.cofactor h.poly k.poly;
    is = sym (CRing.mul_assoc (Series R) a h.cofactor k.cofactor) ∙ ap (λ x. x *ₛ k.cofactor) h.is ∙ k.is;
  }

  -- c divides u a + v b where it divides a and b
  pub divides_sum : (c a b u v : Seq R) → Poly R u → Poly R v → Divides c a → Divides c b → Divides c (u *ₛ a +ₛ v *ₛ b)
  divides_sum c a b u v pu pv h k = record {
    cofactor = u *ₛ h.cofactor +ₛ v *ₛ k.cofactor;
    poly = poly_add R _ _ (poly_mul R u h.cofactor pu h.poly) (poly_mul R v k.cofactor pv k.poly);
    is =
        solve5 (Series R) (λ c u v x y. c :* (u :* x :+ v :* y)) (λ c u v x y. u :* (c :* x) :+ v :* (c :* y)) tt c u v h.cofactor k.cofactor
        ∙ ap₂ (λ x y. u *ₛ x +ₛ v *ₛ y) h.is k.is;
  }

  -- ── degrees

  -- what b divides is zero where its degree is below that of b,
  pub divides_zero : (n : ℕ) (b a : Seq R) → Leading R n b → Below R n a → Divides b a → a ≡ zeros R
  divides_zero n b a L below h =
      sym h.is ∙ ap (λ x. b *ₛ x) (below_zeros R h.cofactor (factor_below R n b h.cofactor L h.poly 0 product_below))
      ∙ Ring.mul-zero (Series R) b
    where
      product_below : Below R (n + 0) (b *ₛ h.cofactor)
      product_below i l = ap (λ f. f i) h.is ∙ below i (omega arith)

  -- so a divisor's degree is at most that of what it divides, if that is not zero
  pub divides_degree : (n : ℕ) (b a : Seq R) → Leading R n b → Divides b a → a ≢ zeros R → (m : ℕ) → Below R (suc m) a → n ≤ m
  divides_degree n b a L h nonzero m below = go (dec_le n m)
    where
      go : Dec (n ≤ m) → n ≤ m
      go (yes l) = l
      go (no l) = absurd (nonzero (divides_zero n b a L (below_mono R (suc m) n a (omega arith) below) h))
