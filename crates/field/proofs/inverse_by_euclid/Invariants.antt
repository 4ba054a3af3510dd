use Rattle.field.proofs.Euclid.{Turn}
use Rattle.field.proofs.inverse_by_euclid.Given as goal

abbrev pub invariant-loop-y : goal.invariant-loop-y
invariant-loop-y l = Turn l.p l.a l.x l.y l.t l.u l.s

abbrev pub decreases-loop-y : goal.decreases-loop-y
decreases-loop-y l = l.y
