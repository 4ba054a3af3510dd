use Rattle.std.proofs.Common.{◌%◌, ◌-◌, ◌≡◌, ◌≤◌}
use Rattle.trial.specs.Runs.{Missed}
use Rattle.trial.proofs.by_blocks.Given as goal

abbrev pub invariant-loop-i : goal.invariant-loop-i
invariant-loop-i l = (171 ≤ l.i) × (l.i % 432 ≡ 171) × Missed l.n l.primes l.i

abbrev pub decreases-loop-i : goal.decreases-loop-i
decreases-loop-i l = 1899 - l.i
