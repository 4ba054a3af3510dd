-- The value of `homogenize n P` at u, where u' = X(u) / Y(u): it is Y(u)ⁿ P(u').
-- Assumes nothing.
use Rattle.std.specs.Prelude.{◌≡◌}
use Rattle.std.proofs.Math.Path.{refl, ap, ap₂}
use Rattle.std.proofs.Common.{sym, ◌∙◌, subst}
use Prim.Native.Nat.{ℕ, zero, suc}
use Rattle.ring.specs.Ring.{CRing, pow, pow-suc}
use Rattle.ring.specs.Identity.{solve3, solve5}
use Rattle.ring.specs.Identity.Ex.{:0, ◌:+◌, ◌:*◌, ◌:^◌}
use Rattle.series.specs.Series.{Seq, tail, const}
use Rattle.series.specs.Degree.{Poly, poly_add, poly_mul, poly_pow, poly_const}
use Rattle.series.specs.Value as Value
use Rattle.series.specs.Value.{value, at_same, at_add, at_mul, at_pow, at_const}
use Rattle.composition.specs.Substitution.{homogenize, homogenize_zero, homogenize_suc}

module _ (R : CRing) where
  module _ (X Y : Seq R) where
    pub homogenize_poly : Poly R X → Poly R Y → (n : ℕ) (P : Seq R) → Poly R (homogenize R X Y n P)
    homogenize_poly px py zero P = subst (Poly R) (sym (homogenize_zero R X Y P)) (poly_const R (P 0))
    homogenize_poly px py (suc n) P =
        subst (Poly R) (sym (homogenize_suc R X Y n P))
        (poly_add R _ _ (poly_mul R _ _ (poly_const R (P 0)) (poly_pow R Y py (suc n))) (poly_mul R X _ px (homogenize_poly px py n (tail R P))))

    pub homogenize_at : (px : Poly R X) (py : Poly R Y) (u u' : R.Car) → R.mul u' (Value.at R Y py u) ≡ Value.at R X px u
        → (n : ℕ) (P : Seq R) (p : Poly R (homogenize R X Y n P))
        → Value.at R (homogenize R X Y n P) p u ≡ R.mul (pow R (Value.at R Y py u) n) (value R (suc n) P u')
    unfolding value
    homogenize_at px py u u' e zero P p =
        at_same R (homogenize R X Y 0 P) (const R (P 0)) p (poly_const R (P 0)) u (homogenize_zero R X Y P)
        ∙ at_const R (P 0) (poly_const R (P 0)) u ∙ solve3 R (λ p y u. p) (λ p y u. y :^ 0 :* (p :+ u :* :0)) tt (P 0) (Value.at R Y py u) u'
    homogenize_at px py u u' e (suc n) P p =
        at_add R _ _ _ (poly_mul R _ _ (poly_const R (P 0)) (poly_pow R Y py (suc n))) (poly_mul R X _ px (homogenize_poly px py n (tail R P))) p u
        (sym (homogenize_suc R X Y n P))
        ∙ ap₂ R.add
        (at_mul R _ _ _ (poly_const R (P 0)) (poly_pow R Y py (suc n)) (poly_mul R _ _ (poly_const R (P 0)) (poly_pow R Y py (suc n))) u refl
        ∙ ap₂ R.mul (at_const R (P 0) (poly_const R (P 0)) u) (at_pow R Y py (suc n) (poly_pow R Y py (suc n)) u ∙ pow-suc R _ n))
        (at_mul R X _ _ px (homogenize_poly px py n (tail R P)) (poly_mul R X _ px (homogenize_poly px py n (tail R P))) u refl
        ∙ ap₂ R.mul (sym e) (homogenize_at px py u u' e n (tail R P) (homogenize_poly px py n (tail R P))))
        ∙ solve5 R (λ p y z u v. p :* (y :* z) :+ u :* y :* (z :* v)) (λ p y z u v. y :* z :* (p :+ u :* v)) tt
        (P 0) (Value.at R Y py u) (pow R (Value.at R Y py u) n) u' (value R (suc n) (tail R P) u')
        ∙ ap (λ y. R.mul y (R.add (P 0) (R.mul u' (value R (suc n) (tail R P) u')))) (sym (pow-suc R (Value.at R Y py u) n))
