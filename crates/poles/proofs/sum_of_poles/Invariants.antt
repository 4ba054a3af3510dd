use Rattle.std.proofs.Common.{length, ◌≡◌}
use Rattle.poles.specs.Poles.{Running}
use Rattle.poles.proofs.sum_of_poles.Given as goal

abbrev pub invariant-loop-other : goal.invariant-loop-other
invariant-loop-other l =
    (length l.t ≡ length l.initial.t) × (length l.u ≡ length l.initial.u) × Running l.m.p l.h l.t l.u l.row.degree l.row.top l.row.next

abbrev pub decreases-loop-other : goal.decreases-loop-other
decreases-loop-other l = l.row.degree
