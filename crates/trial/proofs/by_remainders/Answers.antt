-- `trial::by_remainders` meets its contract. The invariant: what is found is that of the places before j. Assumes nothing.
use Rattle.std.proofs.Common.{arith}
use Rattle.trial.specs.Divisors.Found.{none}
use Rattle.trial.specs.Runs.{found_more, found_most, told_most}
use Rattle.trial.proofs.by_remainders.Goals as goal

pub loop-q-init : goal.loop-q-init
loop-q-init c = none

pub overflow_add-found : goal.overflow_add-found
overflow_add-found c = omega (arith, found_most c.loop-q.invariant, told_most c.divides-found.ensures)

pub loop-q-preserved : goal.loop-q-preserved
loop-q-preserved c = found_more c.loop-q.invariant c.divides-found.ensures
