use Rattle.std.proofs.Common.{◌≡◌}
use Rattle.slices.specs.Filling.{Filled}
use Rattle.sheet.specs.Word.{word_at}
use Rattle.sheet.proofs.load.Given as goal

abbrev pub invariant-loop-i : goal.invariant-loop-i
invariant-loop-i l = Filled (λ j w. w ≡ word_at l.bytes j) l.out l.i
