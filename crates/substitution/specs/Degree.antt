-- How many coefficients numerator and denominator have after k steps, where Y has L at most and X one more.
-- Assumes nothing.
use Rattle.std.proofs.Common.{sym, subst, arith}
use Rattle.std.specs.Prelude.{ℕ, zero, suc, ◌-◌, ◌*◌, ◌<◌}
use Rattle.std.proofs.Math.Nat as N
use Rattle.ring.specs.Ring.{CRing, pow, pow-zero, pow-suc}
use Rattle.series.specs.Series.{Series, Seq, tail}
use Rattle.series.specs.Degree.{Below, below_mono, sums_below, const_below, degree_mul}
use Rattle.composition.specs.Substitution.{homogenize, homogenize_zero, homogenize_suc}

module _ (R : CRing) (L : ℕ) (pos : 0 < L) (Y : Seq R) (short : Below R L Y) where
  pub denominator_below : (k : ℕ) → Below R (suc (k * (L - 1))) (pow (Series R) Y k)
  denominator_below zero =
      subst (Below R (suc (0 * (L - 1)))) (sym (pow-zero (Series R) Y)) (below_mono R 1 _ _ (omega arith) (const_below R R.𝟙))
  denominator_below (suc k) =
      subst (Below R (suc (suc k * (L - 1)))) (sym (pow-suc (Series R) Y k))
      (below_mono R _ _ _ (omega (arith, N.suc-mul k (L - 1)))
      (degree_mul R (L - 1) (k * (L - 1)) Y _ (below_mono R L _ _ (omega arith) short) (denominator_below k)))

  pub numerator_below : (X : Seq R) → Below R (suc L) X → (k : ℕ) (P : Seq R) → Below R (suc (k * L)) (homogenize R X Y k P)
  numerator_below X long zero P =
      subst (Below R (suc (0 * L))) (sym (homogenize_zero R X Y P)) (below_mono R 1 _ _ (omega arith) (const_below R (P 0)))
  numerator_below X long (suc k) P =
      subst (Below R (suc (suc k * L))) (sym (homogenize_suc R X Y k P))
      (sums_below R (suc (suc k * L)) _ _
      (below_mono R _ _ _ (omega (arith, N.mul-le-mul_left {m = L - 1} {n = L} (suc k) (omega arith)))
      (degree_mul R 0 (suc k * (L - 1)) _ _ (const_below R (P 0)) (denominator_below (suc k))))
      (below_mono R _ _ _ (omega (arith, N.suc-mul k L)) (degree_mul R L (k * L) X _ long (numerator_below X long k (tail R P)))))
