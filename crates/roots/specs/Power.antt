-- Powers of a polynomial a modulo m, as squaring and multiplying computes them: each law goes from a w that is aᵉ modulo m to the next.
-- Assumes nothing.
use Rattle.std.proofs.Common.{sym, subst}
use Rattle.std.specs.Prelude.{ℕ, suc, ◌+◌}
use Rattle.ring.specs.Ring.{CRing, pow, pow-zero, pow-suc, pow-add}
use Rattle.series.specs.Series.{Series, Seq, conv, const}
use Rattle.series.specs.Degree.{Poly, poly_pow}
use Rattle.divisibility.specs.Congruence.{Congruent, congruent_refl, congruent_trans, congruent_mul}

module _ (R : CRing) (m a : Seq R) where
  -- w is aᵉ modulo m
  abbrev pub PowerModulo : ℕ → Seq R → Type 0
  PowerModulo e w = Congruent R m w (pow (Series R) a e)

  -- 1 is a⁰,
  pub power_zero : PowerModulo 0 (const R R.𝟙)
  power_zero = subst (Congruent R m (const R R.𝟙)) (sym (pow-zero (Series R) a)) (congruent_refl R m _)

  module _ (e : ℕ) (w : Seq R) (is : PowerModulo e w) where
    -- what is w modulo m is aᵉ too,
    pub power_congruent : (r : Seq R) → Congruent R m r w → PowerModulo e r
    power_congruent r h = congruent_trans R m r w (pow (Series R) a e) h is

    module _ (poly : Poly R a) (poly_w : Poly R w) where
      -- w² is a²ᵉ,
      pub power_double : PowerModulo (e + e) (conv R w w)
      power_double =
          subst (Congruent R m (conv R w w)) (sym (pow-add (Series R) a e e))
          (congruent_mul R m w (pow (Series R) a e) w (pow (Series R) a e) (poly_pow R a poly e) poly_w is is)

      -- and a w is aᵉ⁺¹.
      pub power_next : PowerModulo (suc e) (conv R a w)
      power_next =
          subst (Congruent R m (conv R a w)) (sym (pow-suc (Series R) a e))
          (congruent_mul R m a a w (pow (Series R) a e) poly poly_w (congruent_refl R m a) is)
