-- The theorems' hypotheses can be met: over every prime p > 3, by `isogeny`'s example y² = x³ + B with B not 0, where g = x and N = x³ + 4 B.
-- Assumes nothing.
use Rattle.std.proofs.Common.{◌∙◌, arith}
use Rattle.std.specs.Prelude.{◌≢◌, ℕ, ◌<◌}
use Rattle.ring.specs.Ring.{CRing, cast}
use Rattle.ring.specs.Field.{product}
use Rattle.ring.specs.Identity.{solve1}
use Rattle.ring.specs.Identity.Ex.{num, :0, ◌:+◌, ◌:*◌, ◌:^◌}
use Rattle.series.specs.Indeterminate.{ind}
use Rattle.zmod.specs.Zmod.{Zmod}
use Rattle.zmod.specs.Prime.{Prime, Zmod_field, cast_nonzero}
use Rattle.isogeny.specs.Curve.{Nonsingular, discriminant}
use Rattle.isogeny.specs.Rules.{N}
use Rattle.isogeny.proofs.Examples.{q, meets}
use Rattle.divisibility.specs.Coprime.{Coprime}
use Rattle.lowest_terms.proofs.Theorems.{coprime_N}

module _ {p : ℕ} (P : Prime p) (large : 3 < p) (B : (Zmod p).Car) (B≢0 : B ≢ (Zmod p).𝟘) where
  abbrev R : CRing
  R = Zmod p

  -- 4 · 0³ + 27 B² = (3 · 3) (3 B) B
  nonsingular : Nonsingular R R.𝟘 B
  unfolding discriminant
  nonsingular e =
      product R (Zmod_field P) (R.mul three three) (R.mul (R.mul three B) B)
      (product R (Zmod_field P) three three three≢0 three≢0)
      (product R (Zmod_field P) (R.mul three B) B (product R (Zmod_field P) three B three≢0 B≢0) B≢0)
      (solve1 R (λ b. num 3 :* num 3 :* (num 3 :* b :* b)) (λ b. num 4 :* :0 :^ 3 :+ num 27 :* b :^ 2) tt B ∙ e)
    where
      three : R.Car
      three = cast R 3

      three≢0 : three ≢ R.𝟘
      three≢0 = cast_nonzero P 3 (omega arith) large

  pub coprime : Coprime R (ind R) (N R (q R B) (ind R))
  coprime = coprime_N P (q R B) (omega arith) nonsingular (omega arith) (ind R) (meets R B)
