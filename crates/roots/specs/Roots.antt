-- Over a field, a polynomial of degree n has at most n roots among distinct points. So a divisor of a polynomial of degree p with p roots has as many
-- roots as its degree, and any polynomial as many as the degree of its greatest common divisor with that one.
-- Assumes nothing.
use Rattle.std.specs.Prelude.{◌≡◌, refl, ◌⊎◌, ◌≢◌, ℕ, zero, suc, ◌+◌, ◌≤◌, ◌<◌}
use Rattle.std.proofs.Common.{sym, ◌∙◌, ap, ap₂, subst, inl, inr, arith}
use Rattle.std.proofs.Math.Nat as N
use Rattle.ring.specs.Ring
use Rattle.ring.specs.Ring.{CRing}
use Rattle.ring.specs.Field.{Field, unit_cancel}
use Rattle.series.specs.Series.{Series, Seq, conv, zeros}
use Rattle.series.specs.Degree.{Below, Poly, Monic, Leading, degree, leading, leading_mul, monic_poly, poly_mul, factor_below, top}
use Rattle.series.specs.Value.{at, at_add, at_mul}
use Rattle.divisibility.specs.Divides.{Divides, divides_zero}
use Rattle.divisibility.specs.Coprime.{Bezout}
use Rattle.divisibility.specs.Gcd.{Gcd}
use Rattle.roots.specs.Count.{count, count_zero, count_yes, count_no, count_all, count_either, count_mono}
use Rattle.roots.specs.Factor.{linear, linear_monic, poly_linear, at_linear, factor}

module _ (R : CRing) (F : Field R) (zero? : (x : R.Car) → Dec (x ≡ R.𝟘)) where
  open R use {Car, 𝟘, add as ◌⊕◌, mul as ◌⊗◌, neg}

  infixl 65 ◌⊕◌
  infixl 70 ◌⊗◌
  -- a product is zero only if a factor is
  zero_product : (x y : Car) → x ⊗ y ≡ 𝟘 → (x ≡ 𝟘) ⊎ (y ≡ 𝟘)
  zero_product x y e = go (zero? x)
    where
      go : Dec (x ≡ 𝟘) → (x ≡ 𝟘) ⊎ (y ≡ 𝟘)
      go (yes z) = inl z
      go (no h) = inr (unit_cancel R x y (F.invert x h) e)

  leading_nonzero : (n : ℕ) (a : Seq R) → Leading R n a → a n ≢ 𝟘
  leading_nonzero n a L e = F.apart (sym L.unit.1 ∙ ap (λ y. y ⊗ L.unit.0) e ∙ Ring.zero-mul R _)

  -- a polynomial has one degree
  degree_most : (m n : ℕ) (a : Seq R) → Leading R m a → Leading R n a → ¬ (m < n)
  degree_most m n a L L' l = leading_nonzero n a L' (L.below n l)

  -- the cofactor of x − u has a degree one less
  cofactor_degree : (n : ℕ) (a : Seq R) (u : Car) → Leading R n a → (D : Divides R (linear R u) a) → (m : ℕ) × (n ≡ suc m) × Leading R m D.cofactor
  cofactor_degree zero a u L D =
      absurd (leading_nonzero 0 a L (ap (λ s. s 0) (divides_zero R 1 (linear R u) a (leading R 1 _ (linear_monic R u)) L.below D)))
  cofactor_degree (suc m) a u L D = (m, refl, record { below = below; unit = (L.unit.0, ap (λ y. y ⊗ L.unit.0) (sym same) ∙ L.unit.1) })
    where
      below : Below R (suc m) D.cofactor
      below =
          factor_below R 1 (linear R u) D.cofactor (leading R 1 _ (linear_monic R u)) D.poly (suc m)
          (λ i l. ap (λ s. s i) D.is ∙ L.below i (omega arith))

      same : a (suc m) ≡ D.cofactor m
      same =
          ap (λ s. s (suc m)) (sym D.is) ∙ ap (conv R (linear R u) D.cofactor) (omega arith)
          ∙ top R 1 m (linear R u) D.cofactor (linear_monic R u).below below
          ∙ ap (λ y. y ⊗ D.cofactor m) (linear_monic R u).one ∙ Ring.one-mul R _

  -- the points, of which the first p are distinct
  module _ (point : ℕ → Car) (p : ℕ) (distinct : (i j : ℕ) → i < j → j < p → point i ≢ point j) where
    abbrev root? : (a : Seq R) (q : Poly R a) (i : ℕ) → Dec (at R a q (point i) ≡ 𝟘)
    root? a q i = zero? (at R a q (point i))

    -- the number of roots among the first j
    abbrev pub roots : (a : Seq R) → Poly R a → ℕ → ℕ
    roots a q j = count (root? a q) j

    pub roots_most : (j n : ℕ) (a : Seq R) (q : Poly R a) → j ≤ p → Leading R n a → roots a q j ≤ n
    roots_most zero n a q l L = let z : roots a q 0 ≡ 0 = count_zero (root? a q) in omega arith
    roots_most (suc j) n a q l L = go (root? a q j) (roots_most j)
      where
        go : Dec (at R a q (point j) ≡ 𝟘) → ((n : ℕ) (a : Seq R) (q : Poly R a) → j ≤ p → Leading R n a → roots a q j ≤ n) → roots a q (suc j) ≤ n
        go (no h) rec =
            let s : roots a q (suc j) ≡ roots a q j = count_no (root? a q) j h in
            let r : roots a q j ≤ n = rec n a q (omega arith) L in
            omega arith
        go (yes e) rec = step (cofactor_degree n a (point j) L D)
          where
            D : Divides R (linear R (point j)) a
            D = factor R a q (point j) e

            -- the other roots of a are the cofactor's
            other : (i : ℕ) → i < j → at R a q (point i) ≡ 𝟘 → at R D.cofactor D.poly (point i) ≡ 𝟘
            other i h z =
                unit_cancel R (point i ⊕ neg (point j)) _ (F.invert _ (λ w. distinct i j h l (Ring.sub-zero R _ _ w)))
                (ap (λ y. y ⊗ at R D.cofactor D.poly (point i)) (sym (at_linear R (point j) (point i) (poly_linear R (point j))))
                ∙ sym (at_mul R _ _ a (poly_linear R (point j)) D.poly q (point i) D.is) ∙ z)

            step : (m : ℕ) × (n ≡ suc m) × Leading R m D.cofactor → roots a q (suc j) ≤ n
            step (m, e', L') =
                let s : roots a q (suc j) ≡ suc (roots a q j) = count_yes (root? a q) j e in
                let t : roots a q j ≤ roots D.cofactor D.poly j = count_mono (root? a q) (root? D.cofactor D.poly) j other in
                let r : roots D.cofactor D.poly j ≤ m = rec m D.cofactor D.poly (omega arith) L' in
                omega arith

    -- w has degree p and is zero at the first p points
    module _ (w : Seq R) (M : Monic R p w) (zero_at : (i : ℕ) → i < p → at R w (monic_poly R p w M) (point i) ≡ 𝟘) where
      abbrev poly_w : Poly R w
      poly_w = monic_poly R p w M

      -- what divides it has as many roots there as its degree
      pub roots_divisor : (n : ℕ) (c : Seq R) (q : Poly R c) → Monic R n c → Divides R c w → roots c q p ≡ n
      roots_divisor n c q Mc D = go (degree R F D.poly.0 D.cofactor D.poly.1)
        where
          either : (i : ℕ) → i < p → at R w poly_w (point i) ≡ 𝟘 → (at R c q (point i) ≡ 𝟘) ⊎ (at R D.cofactor D.poly (point i) ≡ 𝟘)
          either i l z = zero_product _ _ (sym (at_mul R c D.cofactor w q D.poly poly_w (point i) D.is) ∙ z)

          go : (D.cofactor ≡ zeros R) ⊎ ((m : ℕ) × (m < D.poly.0) × Leading R m D.cofactor) → roots c q p ≡ n
          go (inl z) = absurd (F.apart (sym M.one ∙ ap (λ s. s p) (sym D.is ∙ ap (conv R c) z ∙ Ring.mul-zero (Series R) c)))
          go (inr (m, l, L)) =
              let product : Leading R (n + m) w = subst (Leading R (n + m)) D.is (leading_mul R n m c D.cofactor (leading R n c Mc) L) in
              let below : ¬ (n + m < p) = degree_most (n + m) p w product (leading R p w M) in
              let above : ¬ (p < n + m) = degree_most p (n + m) w (leading R p w M) product in
              let all : roots w poly_w p ≡ p = count_all (root? w poly_w) p zero_at in
              let sum : roots w poly_w p ≤ roots c q p + roots D.cofactor D.poly p =
              count_either (root? w poly_w) (root? c q) (root? D.cofactor D.poly) p either in
              let most : roots c q p ≤ n = roots_most p n c q (N.le_refl p) (leading R n c Mc) in
              let most' : roots D.cofactor D.poly p ≤ m = roots_most p m D.cofactor D.poly (N.le_refl p) L in
              omega arith

      -- the roots of g there are those of the greatest common divisor of g and w
      pub roots_gcd : (g : Seq R) (q : Poly R g) (n : ℕ) (c : Seq R) → Gcd R g w n c → roots g q p ≡ n
      roots_gcd g q n c G =
          let l : roots g q p ≤ roots c poly_c p = count_mono (root? g q) (root? c poly_c) p down in
          let r : roots c poly_c p ≤ roots g q p = count_mono (root? c poly_c) (root? g q) p up in
          let e : roots c poly_c p ≡ n = roots_divisor n c poly_c G.monic G.right in
          omega arith
        where
          poly_c : Poly R c
          poly_c = monic_poly R n c G.monic

          up : (i : ℕ) → i < p → at R c poly_c (point i) ≡ 𝟘 → at R g q (point i) ≡ 𝟘
          up i l z =
              at_mul R c G.left.cofactor g poly_c G.left.poly q (point i) G.left.is
              ∙ ap (λ y. y ⊗ at R G.left.cofactor G.left.poly (point i)) z ∙ Ring.zero-mul R _

          B : Bezout R g w c
          B = G.bezout

          down : (i : ℕ) → i < p → at R g q (point i) ≡ 𝟘 → at R c poly_c (point i) ≡ 𝟘
          down i l z =
              at_add R (conv R B.u g) (conv R B.v w) c poly_ug poly_vw poly_c (point i) B.is
              ∙ ap₂ ◌⊕◌
              (at_mul R B.u g _ B.poly_u q poly_ug (point i) refl ∙ ap (λ y. at R B.u B.poly_u (point i) ⊗ y) z ∙ Ring.mul-zero R _)
              (at_mul R B.v w _ B.poly_v poly_w poly_vw (point i) refl
              ∙ ap (λ y. at R B.v B.poly_v (point i) ⊗ y) (zero_at i l) ∙ Ring.mul-zero R _)
              ∙ R.add-zero 𝟘
            where
              poly_ug : Poly R (conv R B.u g)
              poly_ug = poly_mul R B.u g B.poly_u q

              poly_vw : Poly R (conv R B.v w)
              poly_vw = poly_mul R B.v w B.poly_v poly_w
