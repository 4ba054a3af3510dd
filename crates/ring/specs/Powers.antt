-- Squares and cubes as code multiplies them.
-- Assumes nothing.
use Rattle.std.specs.Prelude.{◌≡◌}
use Rattle.std.proofs.Common.{sym, ◌∙◌, ap}
use Rattle.ring.specs.Ring.{CRing, pow, pow-suc, pow-zero}

module _ (R : CRing) (x : R.Car) where
  pub squared : R.mul x x ≡ pow R x 2
  squared = sym (pow-suc R x 1 ∙ ap (R.mul x) (pow-suc R x 0 ∙ ap (R.mul x) (pow-zero R x) ∙ R.mul-one x))

  pub cubed : R.mul (R.mul x x) x ≡ pow R x 3
  cubed = R.mul_comm (R.mul x x) x ∙ ap (R.mul x) squared ∙ sym (pow-suc R x 2)
