use Rattle.std.proofs.Common.{get_or, ◌∷◌, ◌≡◌}
use Rattle.slices.specs.Stored.{Stored}
use Rattle.folding.specs.Table.{Before}
use Rattle.folding.proofs.shift_up.Given as goal

abbrev pub invariant-loop-k : goal.invariant-loop-k
invariant-loop-k l = (l.c ≡ get_or (0 ∷ l.initial.r) l.k 0) × Stored (Before l.initial.r) l.initial.r l.r l.k
