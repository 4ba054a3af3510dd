-- `trial::by_half_products` meets its contract. The invariant: what is found is that of the places before j. Assumes nothing.
use Rattle.std.proofs.Common.{arith}
use Rattle.trial.specs.Divisors.Found.{none}
use Rattle.trial.specs.Runs.{found_more, found_most, told_most}
use Rattle.trial.proofs.by_half_products.Goals as goal

pub loop-j-init : goal.loop-j-init
loop-j-init c = none

pub overflow_add-found : goal.overflow_add-found
overflow_add-found c = omega (arith, found_most c.loop-j.invariant, told_most c.divides_by_halves-found.ensures)

pub loop-j-preserved : goal.loop-j-preserved
loop-j-preserved c = found_more c.loop-j.invariant c.divides_by_halves-found.ensures
