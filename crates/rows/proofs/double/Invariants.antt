use Rattle.std.proofs.Common.{length, ◌≡◌}
use Rattle.rows.specs.Rows.{Twice}
use Rattle.rows.proofs.double.Given as goal

abbrev pub invariant-loop-k : goal.invariant-loop-k
invariant-loop-k l = (length l.out ≡ length l.initial.out) × Twice l.a l.initial.out l.out l.k
