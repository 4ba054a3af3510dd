use Rattle.std.proofs.Common.{length, ◌+◌, ◌≡◌}
use Rattle.modulo.specs.Modulo.{RemainderOf}
use Rattle.modulo.specs.Power.{x_to}
use Rattle.folding.specs.Table.{BegunTable, monic_of}
use Rattle.folding.proofs.fill.Given as goal

abbrev pub invariant-loop-i : goal.invariant-loop-i
invariant-loop-i l =
    (length l.r ≡ length l.n) × (length l.t ≡ length l.initial.t) × BegunTable l.m.p l.n l.i l.t
    × RemainderOf l.m.p (length l.n) (monic_of l.m.p l.n) (x_to l.m.p (length l.n + l.i)) l.r
