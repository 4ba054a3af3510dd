-- Greatest common divisors: a monic common divisor c = u a + v b, which every common divisor divides. (Over a field Euclid's algorithm gives one: `proofs/Gcd`.)
-- Assumes nothing.
use Rattle.std.specs.Prelude.{◌≡◌, ℕ}
use Rattle.std.proofs.Common.{sym, ◌∙◌, arith}
use Rattle.std.proofs.Math.Path.{ap, subst}
use Rattle.ring.specs.Ring
use Rattle.ring.specs.Ring.{CRing}
use Rattle.ring.specs.Identity.{solve2, solve3}
use Rattle.ring.specs.Identity.Ex.{:0, :1, ◌:+◌, ◌:-◌, ◌:*◌}
use Rattle.series.specs.Series.{Series, Seq, const, zeros, conv_const}
use Rattle.series.specs.Degree.{Leading, Monic, below_const, poly_zeros, poly_const}
use Rattle.divisibility.specs.Divides.{Divides, divides_zeros, divides_sum}
use Rattle.divisibility.specs.Congruence.{Congruent}
use Rattle.divisibility.specs.Coprime.{Bezout, Coprime, bezout_sym, bezout_divides, bezout_modulo, const_unit}

module _ (R : CRing) where
  open R use {𝟙, mul as ◌⊗◌}
  open Series R use {𝟙 as 1ₛ, add as ◌+ₛ◌, mul as ◌*ₛ◌}

  infixl 65 ◌+ₛ◌
  infixl 70 ◌⊗◌ ◌*ₛ◌
  -- c, monic of degree n, is the greatest common divisor of a and b
  pub record Gcd (a b : Seq R) (n : ℕ) (c : Seq R) : Type 0 where
    pub monic : Monic R n c
    pub left : Divides R c a
    pub right : Divides R c b
    pub bezout : Bezout R a b c

  -- every common divisor divides it
  pub gcd_greatest : (a b : Seq R) (n : ℕ) (c : Seq R) → Gcd a b n c → (e : Seq R) → Divides R e a → Divides R e b → Divides R e c
  gcd_greatest a b n c G = bezout_divides R a b c G.bezout

  gcd_sym : (a b : Seq R) (n : ℕ) (c : Seq R) → Gcd a b n c → Gcd b a n c
  gcd_sym a b n c G = record { monic = G.monic; left = G.right; right = G.left; bezout = bezout_sym R a b c G.bezout }

  -- the one of a and b is the one of a and r, where b = r modulo a
  pub gcd_modulo : (a b r : Seq R) → Congruent R a b r → (n : ℕ) (c : Seq R) → Gcd a r n c → Gcd a b n c
  gcd_modulo a b r h n c G = record {
    monic = G.monic;
    left = G.left;
    right = subst (Divides R c) (sym split) (divides_sum R c a r h.cofactor 1ₛ h.poly (poly_const R 𝟙) G.left G.right);
    bezout = bezout_modulo R a b r c h G.bezout;
  }
    where
      split : b ≡ h.cofactor *ₛ a +ₛ 1ₛ *ₛ r
      split =
          solve2 (Series R) (λ b r. b) (λ b r. b :- r :+ r) tt b r ∙ ap (λ x. x +ₛ r) (sym h.is)
          ∙ solve3 (Series R) (λ a k r. a :* k :+ r) (λ a k r. k :* a :+ :1 :* r) tt a h.cofactor r

  -- Euclid's step: from b and a modulo b to a and b
  pub gcd_step : (a b r : Seq R) → Congruent R b a r → (n : ℕ) (c : Seq R) → Gcd b r n c → Gcd a b n c
  gcd_step a b r h n c G = gcd_sym b a n c (gcd_modulo b a r h n c G)

  -- a divided by its leading coefficient
  unfoldable pub normalized : (n : ℕ) (a : Seq R) → Leading R n a → Seq R
  normalized n a L = const R L.unit.0 *ₛ a

  pub normalized_monic : (n : ℕ) (a : Seq R) (L : Leading R n a) → Monic R n (normalized n a L)
  unfolding normalized
  normalized_monic n a L = record {
    below = λ i l. conv_const R L.unit.0 a i ∙ ap (λ x. L.unit.0 ⊗ x) (L.below i l) ∙ Ring.mul-zero R _;
    one = conv_const R L.unit.0 a n ∙ R.mul_comm _ (a n) ∙ L.unit.1;
  }

  pub normalized_divides : (n : ℕ) (a : Seq R) (L : Leading R n a) → Divides R (normalized n a L) a
  unfolding normalized
  normalized_divides n a L = record {
    cofactor = const R (a n);
    poly = poly_const R (a n);
    is =
        solve3 (Series R) (λ k a l. k :* a :* l) (λ k a l. l :* k :* a) tt (const R L.unit.0) a (const R (a n))
        ∙ ap (λ x. x *ₛ a) (const_unit R (a n) L.unit) ∙ Ring.one-mul (Series R) a;
  }

  -- the one of a and 0, where Euclid's algorithm ends
  pub gcd_zeros : (n : ℕ) (a b : Seq R) (L : Leading R n a) → b ≡ zeros R → Gcd a b n (normalized n a L)
  unfolding normalized
  gcd_zeros n a b L e = record {
    monic = normalized_monic n a L;
    left = normalized_divides n a L;
    right = subst (Divides R _) (sym e) (divides_zeros R _);
    bezout = record {
      u = const R L.unit.0;
      v = zeros R;
      poly_u = poly_const R _;
      poly_v = poly_zeros R;
      is = solve3 (Series R) (λ k a b. k :* a :+ :0 :* b) (λ k a b. k :* a) tt (const R L.unit.0) a b;
    };
  }

  -- of degree 0 it is 1
  pub gcd_one : (a b : Seq R) (n : ℕ) (c : Seq R) → Gcd a b n c → n ≡ 0 → Coprime R a b
  gcd_one a b n c G e =
      subst (Bezout R a b) (below_const R c (λ i l. G.monic.below i (omega arith)) ∙ ap (const R) (ap c (sym e) ∙ G.monic.one)) G.bezout
