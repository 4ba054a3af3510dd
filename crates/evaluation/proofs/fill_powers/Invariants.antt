use Rattle.std.proofs.Common.{length, ◌≡◌}
use Rattle.slices.specs.Filling.{Filled}
use Rattle.evaluation.proofs.Words.{Power}
use Rattle.evaluation.proofs.fill_powers.Given as goal

abbrev pub invariant-loop-i : goal.invariant-loop-i
invariant-loop-i l = (length l.out ≡ length l.initial.out) × Filled (Power l.p l.x) l.out l.i
