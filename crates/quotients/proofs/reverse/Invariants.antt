use Rattle.std.proofs.Common.{get_or, length, ◌-◌, ◌≡◌}
use Rattle.slices.specs.Filling.{Filled}
use Rattle.quotients.proofs.reverse.Given as goal

abbrev pub invariant-loop-k : goal.invariant-loop-k
invariant-loop-k l = (length l.out ≡ length l.initial.out) × Filled (λ j w. w ≡ get_or l.a (length l.a - 1 - j) 0) l.out l.k
