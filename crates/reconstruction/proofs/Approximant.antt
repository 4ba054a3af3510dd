-- Two approximants r = t H + s m, r' = t' H + s' m are one fraction: r t' = r' t and s t' = s' t. Where s' and t' are coprime and t' has degree n, t is
-- a constant times t'.
-- Assumes nothing.
use Rattle.std.specs.Prelude.{◌≡◌, ℕ, suc, ◌+◌}
use Rattle.std.proofs.Common.{sym, ◌∙◌, ap₂, arith}
use Rattle.std.proofs.Math.Path.{ap}
use Rattle.ring.specs.Ring
use Rattle.ring.specs.Ring.{CRing}
use Rattle.ring.specs.Identity.{solve6}
use Rattle.ring.specs.Identity.Ex.{◌:+◌, ◌:-◌, ◌:*◌}
use Rattle.series.specs.Series.{Series, Seq, const, conv_const}
use Rattle.series.specs.Degree.{Below, Poly, Leading, Monic, leading, poly_add, poly_neg, poly_mul, sums_below, negs_below}
use Rattle.series.specs.Degree.{below_zeros, below_const, factor_below}
use Rattle.divisibility.specs.Coprime.{Coprime}
use Rattle.reconstruction.specs.Approximant.{product_degree, factor, divides, Approximant}

module _ (R : CRing) where
  open Series R use {𝟘, 𝟙, add as ◌⊕◌, mul as ◌⊗◌, neg, mul-one, mul_comm}

  infixl 65 ◌⊕◌ ◌⊖◌
  infixl 70 ◌⊗◌
  abbrev ◌⊖◌ : Seq R → Seq R → Seq R
  a ⊖ b = a ⊕ neg b

  -- where y / t' is in lowest terms and t' has degree n, a t of degree at most n with x / t = y / t' is a constant times t'
  module _ (n : ℕ) (t t' x y : Seq R) (poly_x : Poly R x) (t_below : Below R (suc n) t) (leads : Leading R n t') (same : x ⊗ t' ≡ y ⊗ t)
      (coprime : Coprime R y t') where
    open coprime use {u, v}

    abbrev φ : Seq R
    φ = factor R n t t' x y poly_x t_below leads same coprime

    constant : Below R 1 φ
    unfolding factor
    constant =
        factor_below R n t' φ leads
        (poly_add R _ _ (poly_mul R u x coprime.poly_u poly_x) (poly_mul R v t coprime.poly_v (suc n, t_below))) 1
        (λ i l. ap (λ f. f i) (divides R n t t' x y poly_x t_below leads same coprime) ∙ t_below i (omega arith))

    multiple : t ≡ const R (φ 0) ⊗ t'
    multiple = sym (divides R n t t' x y poly_x t_below leads same coprime) ∙ ap (λ z. t' ⊗ z) (below_const R φ constant) ∙ mul_comm t' _

  module _ (m H : Seq R) (a n : ℕ) where
    module _ (modulus : Leading R (a + n) m) (r t r' t' : Seq R) (p : Approximant R m H a n r t) (p' : Approximant R m H a n r' t') where
      poly_t : Poly R t
      poly_t = (_, p.t_below)

      poly_t' : Poly R t'
      poly_t' = (_, p'.t_below)

      -- r t' − r' t is m (s t' − s' t), of too small a degree
      cross : r ⊗ t' ⊖ r' ⊗ t ≡ m ⊗ (p.s ⊗ t' ⊖ p'.s ⊗ t)
      cross =
          ap₂ (λ x y. x ⊗ t' ⊖ y ⊗ t) p.is p'.is
          ∙ solve6 (Series R) (λ m h s s' t t'. (t :* h :+ s :* m) :* t' :- (t' :* h :+ s' :* m) :* t) (λ m h s s' t t'. m :* (s :* t' :- s' :* t)) tt
          m H p.s p'.s t t'

      none : p.s ⊗ t' ⊖ p'.s ⊗ t ≡ 𝟘
      none =
          below_zeros R _
          (factor_below R (a + n) m (p.s ⊗ t' ⊖ p'.s ⊗ t) modulus
          (poly_add R _ _ (poly_mul R p.s t' p.poly_s poly_t') (poly_neg R _ (poly_mul R p'.s t p'.poly_s poly_t))) 0
          (λ i l. ap (λ f. f i) (sym cross)
          ∙ sums_below R (a + n) _ _ (product_degree R a n r t' p.r_below p'.t_below)
          (negs_below R (a + n) _ (product_degree R a n r' t p'.r_below p.t_below)) i (omega arith)))

      pub same_cofactors : p.s ⊗ t' ≡ p'.s ⊗ t
      same_cofactors = Ring.sub-zero (Series R) _ _ none

      pub same_fraction : r ⊗ t' ≡ r' ⊗ t
      same_fraction = Ring.sub-zero (Series R) _ _ (cross ∙ ap (λ y. m ⊗ y) none ∙ Ring.mul-zero (Series R) m)

      -- ── where t' has degree n and is coprime to s', t is a constant times t'

      pub proportional : Leading R n t' → Coprime R p'.s t' → (c : R.Car) × (t ≡ const R c ⊗ t')
      proportional leads coprime = (_, multiple n t t' p.s p'.s p.poly_s p.t_below leads same_cofactors coprime)

      -- and the constant is read off where t' has the leading coefficient 1
      pub reconstructed : Monic R n t' → Coprime R p'.s t' → t ≡ const R (t n) ⊗ t'
      reconstructed monic coprime =
          let of = proportional (leading R n t' monic) coprime in
          of.1
          ∙ ap (λ c. const R c ⊗ t') (sym (ap (λ f. f n) of.1 ∙ conv_const R of.0 t' n ∙ ap (R.mul of.0) monic.one ∙ R.mul-one _))
