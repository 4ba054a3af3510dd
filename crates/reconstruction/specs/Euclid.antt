-- The extended Euclidean algorithm on m, of degree e, and H, of a smaller degree: rows r = t H + s m, of which s need not be computed. `Stage` is what
-- holds of two rows that follow each other, r of degree k and t' of degree e − k: it holds at the start, a division with remainder keeps it, also one
-- without inverses, which multiplies r by a unit (`Eliminated`), and where it stops at the first r' of degree below a, r' and t' are an approximant, in
-- lowest terms: s t' − s' t stays a unit.
-- Assumes nothing.
use Rattle.std.specs.Prelude.{◌≢◌, ◌≡◌, ℕ, zero, suc, ◌+◌, ◌-◌, ◌≤◌, ◌<◌}
use Rattle.std.proofs.Math.Path.{refl, fun_ext}
use Rattle.std.proofs.Common.{sym, ◌∙◌, ap, ap₂, arith}
use Rattle.ring.specs.Ring
use Rattle.ring.specs.Ring.{CRing}
use Rattle.ring.specs.Field.{Inverse, unit_product}
use Rattle.ring.specs.Identity.{solve1, solve2, solve3, solve4, solve5, solve6, solve8}
use Rattle.ring.specs.Identity.Ex.{:0, :1, ◌:+◌, ◌:-◌, ◌:*◌, :-◌}
use Rattle.series.specs.Series.{Series, Seq, const, zeros, negs, conv_const}
use Rattle.series.specs.Indeterminate.{const_mul}
use Rattle.series.specs.Degree.{Below, Poly, Leading, poly_zeros, poly_const, const_below, poly_add, poly_neg, poly_mul, top, factor_below, leading_mul}
use Rattle.divisibility.specs.Coprime.{Coprime}
use Rattle.reconstruction.specs.Approximant.{Approximant}

const_neg : (R : CRing) (c : R.Car) → negs R (const R c) ≡ const R (R.neg c)
const_neg R c = fun_ext go
  where
    go : (i : ℕ) → R.neg (const R c i) ≡ const R (R.neg c) i
    go zero = refl
    go (suc i) = Ring.neg-zero R

module _ (R : CRing) (m H : Seq R) (e : ℕ) where
  open Series R use {𝟘, 𝟙, add as ◌⊕◌, mul as ◌⊗◌, neg}

  infixl 65 ◌⊕◌ ◌⊖◌
  infixl 70 ◌⊗◌
  abbrev ◌⊖◌ : Seq R → Seq R → Seq R
  a ⊖ b = a ⊕ neg b

  pub record Stage (k j : ℕ) (r r' t t' : Seq R) : Type 0 where
    pub s : Seq R
    pub s' : Seq R
    pub poly_s : Poly R s
    pub poly_s' : Poly R s'
    pub row : r ≡ t ⊗ H ⊕ s ⊗ m
    pub row' : r' ≡ t' ⊗ H ⊕ s' ⊗ m
    pub r_degree : Leading R k r
    pub r'_below : Below R k r'
    pub t_below : Below R j t
    pub t'_degree : Leading R j t'
    pub degrees : k + j ≡ e
    pub det : R.Car
    pub det_unit : Inverse R det
    pub unimodular : s ⊗ t' ⊖ s' ⊗ t ≡ const R det

  -- m and H, with 0 and 1
  pub start : Leading R e m → Below R e H → Stage e 0 m H 𝟘 𝟙
  start modulus below = record {
    s = 𝟙;
    s' = 𝟘;
    poly_s = poly_const R R.𝟙;
    poly_s' = poly_zeros R;
    row = solve2 (Series R) (λ m h. m) (λ m h. :0 :* h :+ :1 :* m) tt m H;
    row' = solve2 (Series R) (λ m h. h) (λ m h. :1 :* h :+ :0 :* m) tt m H;
    r_degree = modulus;
    r'_below = below;
    t_below = λ i l. refl;
    t'_degree = record { below = const_below R R.𝟙; unit = (R.𝟙, R.mul-one R.𝟙) };
    degrees = omega arith;
    det = R.𝟙;
    det_unit = (R.𝟙, R.mul-one R.𝟙);
    unimodular = solve2 (Series R) (λ m h. :1 :* :1 :- :0 :* :0) (λ m h. :1) tt m H;
  }

  -- a unit times r, and a multiple of r' added to it; and the same of t and t'
  pub record Eliminated (r r' t t' r'' t'' : Seq R) : Type 0 where
    pub c : R.Car
    pub unit : Inverse R c
    pub Q : Seq R
    pub poly_Q : Poly R Q
    pub remainder : r'' ≡ const R c ⊗ r ⊕ Q ⊗ r'
    pub cofactor : t'' ≡ const R c ⊗ t ⊕ Q ⊗ t'

  -- nothing is eliminated yet,
  pub eliminated_none : (r r' t t' : Seq R) → Eliminated r r' t t' r t
  eliminated_none r r' t t' = record {
    c = R.𝟙;
    unit = (R.𝟙, R.mul-one R.𝟙);
    Q = 𝟘;
    poly_Q = poly_zeros R;
    remainder = solve2 (Series R) (λ r s. r) (λ r s. :1 :* r :+ :0 :* s) tt r r';
    cofactor = solve2 (Series R) (λ r s. r) (λ r s. :1 :* r :+ :0 :* s) tt t t';
  }

  -- and more of it, with another unit and another multiple
  pub eliminated_more : (r r' t t' x y : Seq R) → Eliminated r r' t t' x y → (b : R.Car) → Inverse R b → (q : Seq R) → Poly R q
      → Eliminated r r' t t' (const R b ⊗ x ⊕ q ⊗ r') (const R b ⊗ y ⊕ q ⊗ t')
  eliminated_more r r' t t' x y e b unit q poly_q = record {
    c = R.mul b e.c;
    unit = unit_product R b e.c unit e.unit;
    Q = const R b ⊗ e.Q ⊕ q;
    poly_Q = poly_add R _ _ (poly_mul R _ _ (poly_const R b) e.poly_Q) poly_q;
    remainder = more r r' x e.remainder;
    cofactor = more t t' y e.cofactor;
  }
    where
      more : (r r' x : Seq R) → x ≡ const R e.c ⊗ r ⊕ e.Q ⊗ r'
          → const R b ⊗ x ⊕ q ⊗ r' ≡ const R (R.mul b e.c) ⊗ r ⊕ (const R b ⊗ e.Q ⊕ q) ⊗ r'
      more r r' x is =
          ap (λ z. const R b ⊗ z ⊕ q ⊗ r') is
          ∙ solve6 (Series R) (λ b c r s u q. b :* (c :* r :+ u :* s) :+ q :* s) (λ b c r s u q. b :* c :* r :+ (b :* u :+ q) :* s) tt
          (const R b) (const R e.c) r r' e.Q q
          ∙ ap (λ z. z ⊗ r ⊕ (const R b ⊗ e.Q ⊕ q) ⊗ r') (const_mul R b e.c)

  module _ (k j : ℕ) (r r' t t' : Seq R) (stage : Stage k j r r' t t') where
    module _ (r'' t'' : Seq R) (done : Eliminated r r' t t' r'' t'') where
      open done use {c, Q}

      -- it is a row too
      abbrev s'' : Seq R
      s'' = const R c ⊗ stage.s ⊕ Q ⊗ stage.s'

      poly_s'' : Poly R s''
      poly_s'' = poly_add R _ _ (poly_mul R _ _ (poly_const R c) stage.poly_s) (poly_mul R _ _ done.poly_Q stage.poly_s')

      pub eliminated_row : r'' ≡ t'' ⊗ H ⊕ s'' ⊗ m
      eliminated_row =
          done.remainder ∙ ap₂ (λ x y. const R c ⊗ x ⊕ Q ⊗ y) stage.row stage.row'
          ∙ solve8 (Series R) (λ c q t u s v h m. c :* (t :* h :+ s :* m) :+ q :* (u :* h :+ v :* m))
          (λ c q t u s v h m. (c :* t :+ q :* u) :* h :+ (c :* s :+ q :* v) :* m) tt (const R c) Q t t' stage.s stage.s' H m
          ∙ ap (λ x. x ⊗ H ⊕ s'' ⊗ m) (sym done.cofactor)

      -- where r'' is of smaller degree than r', which has degree l
      module _ (l : ℕ) (r'_degree : Leading R l r') (l<k : l < k) (below : Below R l r'') where
        product_is : r' ⊗ Q ≡ r'' ⊖ const R c ⊗ r
        product_is =
            solve4 (Series R) (λ c r s q. s :* q) (λ c r s q. c :* r :+ q :* s :- c :* r) tt (const R c) r r' Q
            ∙ ap (λ y. y ⊖ const R c ⊗ r) (sym done.remainder)

        product_at : (i : ℕ) → l ≤ i → (r' ⊗ Q) i ≡ R.neg (R.mul c (r i))
        product_at i le =
            ap (λ f. f i) product_is ∙ ap₂ (λ x y. R.add x (R.neg y)) (below i le) (conv_const R c r i) ∙ Ring.zero-add R _

        Q_below : Below R (suc (k - l)) Q
        Q_below =
            factor_below R l r' Q r'_degree done.poly_Q (suc (k - l))
            (λ i g. product_at i (omega arith) ∙ ap (λ y. R.neg (R.mul c y)) (stage.r_degree.below i (omega arith))
            ∙ solve1 R (λ c. :- (c :* :0)) (λ c. :0) tt c)

        -- the leading coefficients of Q and r' make that of c r
        Q_leading : R.mul (r' l) (Q (k - l)) ≡ R.neg (R.mul c (r k))
        Q_leading =
            let e : l + (k - l) ≡ k = omega arith in
            sym (top R l (k - l) r' Q r'_degree.below Q_below) ∙ ap (r' ⊗ Q) e ∙ product_at k (omega arith)

        Q_degree : Leading R (k - l) Q
        Q_degree = record {
          below = Q_below;
          unit = (
            R.mul (r' l) (R.neg (R.mul done.unit.0 stage.r_degree.unit.0)),
            solve3 R (λ q r u. q :* (r :* u)) (λ q r u. r :* q :* u) tt (Q (k - l)) (r' l) (R.neg (R.mul done.unit.0 stage.r_degree.unit.0))
                ∙ ap (λ y. R.mul y (R.neg (R.mul done.unit.0 stage.r_degree.unit.0))) Q_leading
                ∙ solve4 R (λ c r x y. :- (c :* r) :* :- (x :* y)) (λ c r x y. c :* x :* (r :* y)) tt c (r k) done.unit.0 stage.r_degree.unit.0
                ∙ ap₂ R.mul done.unit.1 stage.r_degree.unit.1 ∙ R.mul-one R.𝟙,
          );
        }

        product_degree : Leading R ((k - l) + j) (Q ⊗ t')
        product_degree = leading_mul R (k - l) j Q t' Q_degree stage.t'_degree

        -- from j on, t'' is Q t'
        t''_at : (i : ℕ) → j ≤ i → t'' i ≡ (Q ⊗ t') i
        t''_at i le =
            ap (λ f. f i) done.cofactor ∙ ap (λ y. R.add y ((Q ⊗ t') i)) (conv_const R c t i ∙ ap (R.mul c) (stage.t_below i le))
            ∙ solve2 R (λ c y. c :* :0 :+ y) (λ c y. y) tt c _

        pub step : Stage l ((k - l) + j) r' r'' t' t''
        step = record {
          s = stage.s';
          s' = s'';
          poly_s = stage.poly_s';
          poly_s' = poly_s'';
          row = stage.row';
          row' = eliminated_row;
          r_degree = r'_degree;
          r'_below = below;
          t_below = λ i g. stage.t'_degree.below i (omega arith);
          t'_degree = record {
            below = λ i g. t''_at i (omega arith) ∙ product_degree.below i g;
            unit = (
              product_degree.unit.0,
              ap (λ y. R.mul y product_degree.unit.0) (t''_at ((k - l) + j) (omega arith)) ∙ product_degree.unit.1,
            );
          };
          degrees = omega arith;
          det = R.neg (R.mul c stage.det);
          det_unit = (
            R.neg (R.mul done.unit.0 stage.det_unit.0),
            solve4 R (λ c d x y. :- (c :* d) :* :- (x :* y)) (λ c d x y. c :* x :* (d :* y)) tt c stage.det done.unit.0 stage.det_unit.0
                ∙ ap₂ R.mul done.unit.1 stage.det_unit.1 ∙ R.mul-one R.𝟙,
          );
          unimodular =
              ap (λ x. stage.s' ⊗ x ⊖ s'' ⊗ t') done.cofactor
              ∙ solve6 (Series R) (λ c q s v t u. v :* (c :* t :+ q :* u) :- (c :* s :+ q :* v) :* u) (λ c q s v t u. :- (c :* (s :* u :- v :* t))) tt
              (const R c) Q stage.s stage.s' t t'
              ∙ ap (λ x. neg (const R c ⊗ x)) stage.unimodular ∙ ap neg (const_mul R c stage.det) ∙ const_neg R (R.mul c stage.det);
        }

    -- ── the end: r has degree a or more, and r' less

    unfoldable pub stop : (a n : ℕ) → a + n ≡ e → a ≤ k → Below R a r' → Approximant R m H a n r' t'
    stop a n sum h below = record {
      s = stage.s';
      poly_s = stage.poly_s';
      is = stage.row';
      r_below = below;
      t_below = λ i g. stage.t'_degree.below i (omega arith);
    }

    -- the cofactors of a row are coprime, since s t' − s' t is a unit
    pub coprime : Coprime R stage.s' t'
    coprime = record {
      u = neg (const R i ⊗ t);
      v = const R i ⊗ stage.s;
      poly_u = poly_neg R _ (poly_mul R _ _ (poly_const R i) (j, stage.t_below));
      poly_v = poly_mul R _ _ (poly_const R i) stage.poly_s;
      is =
          solve5 (Series R) (λ i s v t u. :- (i :* t) :* v :+ i :* s :* u) (λ i s v t u. (s :* u :- v :* t) :* i) tt (const R i) stage.s stage.s' t t'
          ∙ ap (λ x. x ⊗ const R i) stage.unimodular ∙ const_mul R stage.det i ∙ ap (const R) stage.det_unit.1;
    }
      where
        i : R.Car
        i = stage.det_unit.0

    pub nonzero : R.𝟙 ≢ R.𝟘 → t' ≢ zeros R
    nonzero apart z =
        apart (sym stage.t'_degree.unit.1 ∙ ap (λ f. R.mul (f j) stage.t'_degree.unit.0) z ∙ Ring.zero-mul R _)
