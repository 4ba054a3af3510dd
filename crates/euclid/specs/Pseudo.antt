-- Remainders up to a unit, as divisions without inverses leave them: `PseudoRemainder p n b a r`, r holds the residues of a polynomial with n coefficients at
-- most, which modulo b is a unit times a. It has the greatest common divisors with b that a has.
-- Assumes nothing.
use Rattle.std.specs.Prelude.{◌≡◌, List, ◌++◌, ℕ, ◌≤◌, length, take, drop}
use Rattle.std.proofs.Common.{sym, ◌∙◌, ap, subst}
use Rattle.std.proofs.Math.Path.{fun_ext}
use Rattle.ring.specs.Ring
use Rattle.ring.specs.Ring.{CRing}
use Rattle.ring.specs.Field.{Inverse, unit_product}
use Rattle.ring.specs.Identity.{solve3, solve5}
use Rattle.ring.specs.Identity.Ex.{◌:+◌, ◌:*◌}
use Rattle.series.specs.Series.{Series, Seq, scaled, const, conv_scalar}
use Rattle.series.specs.Degree.{Below, below_mono, poly_const, poly_mul}
use Rattle.series.specs.Indeterminate.{const_mul}
use Rattle.zmod.specs.Zmod.{Elt, Zmod, mk, times}
use Rattle.zmod.specs.Residues.{Reduced, poly, poly_past}
use Rattle.divisibility.specs.Congruence.{Congruent, congruent_refl, congruent_sym, congruent_trans, congruent_scaled}
use Rattle.divisibility.specs.Gcd.{Gcd, gcd_modulo}
use Rattle.euclid.specs.Words.{Trimmed, take_poly, trimmed_past, front_poly, front_reduced}

pub record PseudoRemainder (p n : ℕ) (b a : Seq (Zmod p)) (r : List ℕ) : Type 0 where
  pub reduced : Reduced p r
  pub below : Below (Zmod p) n (poly p r)
  pub factor : Elt p
  pub unit : Inverse (Zmod p) factor
  pub congruent : Congruent (Zmod p) b (poly p r) (scaled (Zmod p) factor a)

-- ── over any ring

module _ (R : CRing) where
  open Series R use {add as ◌+ₛ◌, mul as ◌*ₛ◌}

  infixl 65 ◌+ₛ◌
  infixl 70 ◌*ₛ◌
  -- a unit changes nothing
  gcd_scaled : (b r : Seq R) (u : R.Car) → Inverse R u → (n : ℕ) (c : Seq R) → Gcd R b (scaled R u r) n c → Gcd R b r n c
  gcd_scaled b r u (v, unit) n c G = record {
    monic = G.monic;
    left = G.left;
    right = record {
      cofactor = const R v *ₛ G.right.cofactor;
      poly = poly_mul R (const R v) G.right.cofactor (poly_const R v) G.right.poly;
      is =
          solve3 (Series R) (λ c k v. c :* (v :* k)) (λ c k v. v :* (c :* k)) tt c G.right.cofactor (const R v)
          ∙ ap (λ s. const R v *ₛ s) (G.right.is ∙ conv_scalar R u r)
          ∙ solve3 (Series R) (λ u v r. v :* (u :* r)) (λ u v r. u :* v :* r) tt (const R u) (const R v) r
          ∙ ap (λ s. s *ₛ r) (const_mul R u v ∙ ap (const R) unit) ∙ Ring.one-mul (Series R) r;
    };
    bezout = record {
      u = G.bezout.u;
      v = G.bezout.v *ₛ const R u;
      poly_u = G.bezout.poly_u;
      poly_v = poly_mul R G.bezout.v (const R u) G.bezout.poly_v (poly_const R u);
      is =
          solve5 (Series R) (λ a b s t k. s :* a :+ t :* k :* b) (λ a b s t k. s :* a :+ t :* (k :* b)) tt b r G.bezout.u G.bezout.v (const R u)
          ∙ ap (λ s. G.bezout.u *ₛ b +ₛ G.bezout.v *ₛ s) (sym (conv_scalar R u r)) ∙ G.bezout.is;
    };
  }

-- ── in slices

pub pseudo_keeps : {p n : ℕ} {b a : Seq (Zmod p)} {r : List ℕ} → PseudoRemainder p n b a r → (k : ℕ) (c : Seq (Zmod p))
    → Gcd (Zmod p) b (poly p r) k c → Gcd (Zmod p) b a k c
pseudo_keeps {p} {n} {b} {a} {r} h k c G =
    gcd_scaled (Zmod p) b a h.factor h.unit k c
    (gcd_modulo (Zmod p) b _ (poly p r) (congruent_sym (Zmod p) b (poly p r) _ h.congruent) k c G)

-- a slice is itself, modulo whatever
pub pseudo_self : {p : ℕ} (b : Seq (Zmod p)) (a : List ℕ) → Reduced p a → PseudoRemainder p (length a) b (poly p a) a
pseudo_self {p} b a h = record {
  reduced = h;
  below = poly_past p a;
  factor = mk p 1;
  unit = (mk p 1, CRing.mul-one (Zmod p) (mk p 1));
  congruent =
      subst (Congruent (Zmod p) b (poly p a)) (fun_ext λ i. sym (Ring.one-mul (Zmod p) (poly p a i))) (congruent_refl (Zmod p) b (poly p a));
}

pub pseudo_below : {p n k : ℕ} {b a : Seq (Zmod p)} {r : List ℕ} → n ≤ k → PseudoRemainder p n b a r → PseudoRemainder p k b a r
pseudo_below {p} {n} {k} {r = r} le h = record {
  reduced = h.reduced;
  below = below_mono (Zmod p) n k (poly p r) le h.below;
  factor = h.factor;
  unit = h.unit;
  congruent = h.congruent;
}

-- as few coefficients as its words show
pub pseudo_trimmed : {p n k : ℕ} {b a : Seq (Zmod p)} {r : List ℕ} → Trimmed r k → PseudoRemainder p n b a r → PseudoRemainder p k b a r
pseudo_trimmed {p} t h = record { reduced = h.reduced; below = trimmed_past p t; factor = h.factor; unit = h.unit; congruent = h.congruent }

-- the front of a slice, which holds all of its polynomial, is divided further, and comes back
module _ {p n k : ℕ} {b A : Seq (Zmod p)} {a part : List ℕ} (h : PseudoRemainder p k b A a) (long : length part ≡ k)
    (g : PseudoRemainder p n b (poly p (take k a)) part) where
  abbrev back : List ℕ
  back = part ++ drop k a

  back_poly : poly p back ≡ poly p part
  back_poly = front_poly p a part k long h.below

  back_reduced : Reduced p back
  back_reduced = front_reduced p a part k long h.reduced g.reduced

  pub pseudo_further : PseudoRemainder p n b A back
  pseudo_further = record {
    reduced = back_reduced;
    below = subst (Below (Zmod p) n) (sym back_poly) g.below;
    factor = times p g.factor h.factor;
    unit = unit_product (Zmod p) g.factor h.factor g.unit h.unit;
    congruent = subst (λ s. Congruent (Zmod p) b s (scaled (Zmod p) (times p g.factor h.factor) A)) (sym back_poly)
        (congruent_trans (Zmod p) b (poly p part) (scaled (Zmod p) g.factor (poly p a)) _
        (subst (λ s. Congruent (Zmod p) b (poly p part) (scaled (Zmod p) g.factor s)) (take_poly p a h.below) g.congruent)
        (subst (Congruent (Zmod p) b (scaled (Zmod p) g.factor (poly p a)))
        (fun_ext λ i. sym (CRing.mul_assoc (Zmod p) g.factor h.factor (A i)))
        (congruent_scaled (Zmod p) b (poly p a) (scaled (Zmod p) h.factor A) g.factor h.congruent)));
  }
