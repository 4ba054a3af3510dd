-- Irreducible polynomials over a field: one divides a polynomial or is coprime to it, and has a multiplicity in it; polynomials are coprime where they
-- have no irreducible factor in common.
-- Assumes nothing.
use Rattle.std.specs.Prelude.{◌≡◌, ◌⊎◌, ◌≢◌, ℕ, zero, suc, ◌≤◌, ◌<◌}
use Rattle.std.proofs.Common.{sym, ◌∙◌, ap, inl, inr, arith}
use Rattle.std.proofs.Math.Decide.{dec_le, dec_lt}
use Rattle.ring.specs.Ring
use Rattle.ring.specs.Ring.{CRing, pow-zero, pow-suc}
use Rattle.ring.specs.Field.{Field}
use Rattle.ring.specs.Identity.{solve3}
use Rattle.ring.specs.Identity.Ex.{◌:*◌}
use Rattle.series.specs.Series as S
use Rattle.series.specs.Series.{Series, Seq, const, zeros, conv_const}
use Rattle.series.specs.Degree.{Below, Poly, Leading, Monic, leading, poly_const, factor_below, below_const, below_zeros}
use Rattle.divisibility.specs.Divides.{Divides, divides_trans}
use Rattle.divisibility.specs.Coprime.{Coprime, const_unit}
use Rattle.divisibility.specs.Gcd.{Gcd, gcd_one}
use Rattle.divisibility.specs.Irreducible.{Irreducible, Multiplicity}
use Rattle.divisibility.proofs.Gcd.{euclid}

module _ (R : CRing) where
  open R use {𝟙, mul as ◌⊗◌}
  open Series R use {mul as ◌*ₛ◌}

  infixl 70 ◌⊗◌ ◌*ₛ◌
  module _ (F : Field R) where
    module _ (n : ℕ) (q : Seq R) (I : Irreducible R n q) where
      -- a divisor of q of degree n or more is divisible by q
      whole : (m : ℕ) (c : Seq R) → Monic R m c → n ≤ m → Divides R c q → Divides R q c
      whole m c M l D = record {
        cofactor = const R (c n);
        poly = poly_const R (c n);
        is =
            ap (λ x. x *ₛ const R (c n)) (sym product)
            ∙ solve3 (Series R) (λ c e k. c :* e :* k) (λ c e k. k :* e :* c) tt c (const R (D.cofactor 0)) (const R (c n))
            ∙ ap (λ x. x *ₛ c) (const_unit R (c n) (D.cofactor 0, unit)) ∙ Ring.one-mul (Series R) c;
      }
        where
          constant : Below R 1 D.cofactor
          constant =
              factor_below R m c D.cofactor (leading R m c M) D.poly 1 (λ i g. ap (λ f. f i) D.is ∙ I.monic.below i (omega arith))

          product : c *ₛ const R (D.cofactor 0) ≡ q
          product = ap (λ x. c *ₛ x) (sym (below_const R D.cofactor constant)) ∙ D.is

          unit : c n ⊗ D.cofactor 0 ≡ 𝟙
          unit =
              R.mul_comm _ _ ∙ sym (conv_const R (D.cofactor 0) c n) ∙ S.conv_comm R (const R (D.cofactor 0)) c n
              ∙ ap (λ f. f n) product ∙ I.monic.one

      -- q divides a, or is coprime to it
      pub divides_or_coprime : (a : Seq R) → Poly R a → Divides R q a ⊎ Coprime R q a
      divides_or_coprime a p = go (euclid R F p.0 n q a (leading R n q I.monic) p.1)
        where
          go : (m : ℕ) × (c : Seq R) × Gcd R q a m c → Divides R q a ⊎ Coprime R q a
          go (m, c, G) = cases (dec_le 1 m) (dec_lt m n)
            where
              cases : Dec (1 ≤ m) → Dec (m < n) → Divides R q a ⊎ Coprime R q a
              cases (no h) d = inr (gcd_one R q a m c G (omega arith))
              cases (yes h) (yes l) = absurd (I.undivided m c G.monic h l G.left)
              cases (yes h) (no l) = inl (divides_trans R q c a (whole m c G.monic (omega arith) G.left) G.right)

      -- so it is coprime to what it does not divide
      pub coprime_undivided : (a : Seq R) → Poly R a → (Divides R q a → ⊥) → Coprime R q a
      coprime_undivided a p undivided = go (divides_or_coprime a p)
        where
          go : Divides R q a ⊎ Coprime R q a → Coprime R q a
          go (inl h) = absurd (undivided h)
          go (inr h) = h

    -- polynomials without an irreducible factor in common are coprime. No such factor has to be found: of their common factors of degree 1 or more one of
    -- the least degree would be irreducible.
    module _ (a b : Seq R) (none : (n : ℕ) (q : Seq R) → Irreducible R n q → Divides R q a → Divides R q b → ⊥) where
      refuted : (j n : ℕ) (c : Seq R) → n < j → 1 ≤ n → Monic R n c → Divides R c a → Divides R c b → ⊥
      refuted zero n c l h M D E = absurd (omega arith)
      refuted (suc j) n c l h M D E =
          none n c
          (record {
            positive = h;
            monic = M;
            undivided = λ m e M' h' l' H. refuted j m e (omega arith) h' M' (divides_trans R e c a H D) (divides_trans R e c b H E);
          }) D E

      pub coprime_by_irreducibles : (m : ℕ) → Leading R m a → Poly R b → Coprime R a b
      coprime_by_irreducibles m L p = go (euclid R F p.0 m a b L p.1)
        where
          go : (n : ℕ) × (c : Seq R) × Gcd R a b n c → Coprime R a b
          go (n, c, G) = cases (dec_le 1 n)
            where
              cases : Dec (1 ≤ n) → Coprime R a b
              cases (yes h) = absurd (refuted (suc n) n c (omega arith) h G.monic G.left G.right)
              cases (no h) = gcd_one R a b n c G (omega arith)

    pub multiplicity : (n : ℕ) (q : Seq R) → Irreducible R n q → (j : ℕ) (g : Seq R) → Below R j g → g ≢ zeros R → Multiplicity R q g j
    multiplicity n q I zero g hg nonzero = absurd (nonzero (below_zeros R g hg))
    multiplicity n q I (suc j) g hg nonzero = go (divides_or_coprime n q I g (suc j, hg)) (multiplicity n q I j)
      where
        go : Divides R q g ⊎ Coprime R q g → ((g : Seq R) → Below R j g → g ≢ zeros R → Multiplicity R q g j) → Multiplicity R q g (suc j)
        go (inr c) rec = record {
          m = 0;
          k = g;
          below = omega arith;
          poly = (suc j, hg);
          is = ap (λ x. x *ₛ g) (pow-zero (Series R) q) ∙ Ring.one-mul (Series R) g;
          coprime = c;
        }
        go (inl D) rec = up (rec D.cofactor cofactor_below (λ e. nonzero (sym D.is ∙ ap (λ x. q *ₛ x) e ∙ Ring.mul-zero (Series R) q)))
          where
            cofactor_below : Below R j D.cofactor
            cofactor_below =
                factor_below R n q D.cofactor (leading R n q I.monic) D.poly j
                (λ i l. ap (λ f. f i) D.is ∙ hg i (let h : 1 ≤ n = I.positive in omega arith))

            up : Multiplicity R q D.cofactor j → Multiplicity R q g (suc j)
            up r = record {
              m = suc r.m;
              k = r.k;
              below = (let l : r.m < j = r.below in omega arith);
              poly = r.poly;
              is = ap (λ x. x *ₛ r.k) (pow-suc (Series R) q r.m) ∙ CRing.mul_assoc (Series R) q _ r.k ∙ ap (λ x. q *ₛ x) r.is ∙ D.is;
              coprime = r.coprime;
            }
