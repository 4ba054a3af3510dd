use Rattle.std.proofs.Common.{length, ◌≡◌}
use Rattle.slices.specs.Filling.{Filled}
use Rattle.field.specs.Inverse.{Entry}
use Rattle.field.proofs.inverses.Given as goal

abbrev pub invariant-loop-k : goal.invariant-loop-k
invariant-loop-k l = (length l.out ≡ length l.initial.out) × Filled (Entry l.p) l.out l.k
