use Rattle.std.proofs.Common.{length, ◌≡◌}
use Rattle.slices.specs.Filling.{Filled}
use Rattle.evaluation.proofs.Words.{Slope}
use Rattle.evaluation.proofs.fill_slopes.Given as goal

abbrev pub invariant-loop-i : goal.invariant-loop-i
invariant-loop-i l = (length l.out ≡ length l.initial.out) × Filled (Slope l.powers) l.out l.i
