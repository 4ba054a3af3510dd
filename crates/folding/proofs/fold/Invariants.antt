use Rattle.std.proofs.Common.{length, ◌+◌, ◌<◌, ◌≡◌}
use Rattle.folding.specs.Fold.{Folded}
use Rattle.folding.proofs.fold.Given as goal

abbrev pub invariant-loop-i : goal.invariant-loop-i
invariant-loop-i l = (length l.acc ≡ length l.initial.acc) × (l.i < length l.initial.acc + 4) × Folded l.p l.q l.t l.initial.acc l.i l.acc
