use Rattle.std.proofs.Common.{get_or, ◌*◌, ◌-◌, ◌≡◌}
use Rattle.slices.specs.Stored.{Stored}
use Rattle.power_sums.proofs.weights.Given as goal

abbrev pub invariant-loop-k : goal.invariant-loop-k
invariant-loop-k l = Stored (λ j v. v ≡ 2 * j * get_or l.e (j - 1) 0) l.initial.acc l.acc l.k
