-- A composite over every commutative ring, as a test of the definitions: g = x takes y² = x³ + B to y² = x³ − 27 B, and that to y² = x³ + 729 B; the
-- composite has degree 9 and is multiplication by 3, up to the isomorphism that divides x by 9: its kernel polynomial is x (x³ + 4 B).
-- Assumes nothing.
use Rattle.std.specs.Prelude.{◌≡◌, refl}
use Rattle.std.proofs.Common.{◌∙◌, arith}
use Rattle.std.proofs.Math.Path.{ap}
use Rattle.ring.specs.Ring.{CRing, cast, pow}
use Rattle.series.specs.Series.{Series, conv, sums, const}
use Rattle.series.specs.Indeterminate.{ind}
use Rattle.isogeny.specs.Rules.{Meets, ℓ, N}
use Rattle.isogeny.proofs.Examples.{q, meets, N_is}
use Rattle.composition.specs.Homogenized.{h_ind}
use Rattle.composition.specs.Composite.{composite, composite_g}
use Rattle.composition.proofs.Rules.{composite_meets}

module _ (R : CRing) (B : R.Car) where
  -- −27 B
  abbrev B₁ : R.Car
  B₁ = R.neg (R.mul (cast R 27) B)

  degree : ℓ R (composite R (q R B) (q R B₁)) ≡ 9
  degree = refl

  twice : Meets R (composite R (q R B) (q R B₁)) (composite_g R (q R B) 1 (ind R) (ind R))
  twice =
      composite_meets R (q R B) (q R B₁) (omega arith) (omega arith) (record { A = refl; B = refl }) (ind R) (ind R) (meets R B) (meets R B₁).r1 (meets R B₁)

  kernel_polynomial : composite_g R (q R B) 1 (ind R) (ind R)
      ≡ conv R (ind R) (sums R (pow (Series R) (ind R) 3) (conv R (cast (Series R) 4) (const R B)))
  unfolding composite_g
  kernel_polynomial = ap (conv R (ind R)) ((h_ind R (N R (q R B) (ind R)) (pow (Series R) (ind R) 2)).same ∙ N_is R B)
