use Rattle.std.proofs.Common.{length, ◌≡◌, ◌≤◌}
use Rattle.zmod.specs.Residues.{poly}
use Rattle.euclid.specs.Pseudo.{PseudoRemainder}
use Rattle.euclid.proofs.next.Given as goal

abbrev pub invariant-loop-k : goal.invariant-loop-k
invariant-loop-k l = (l.n ≡ length l.b) × (length l.a ≡ length l.initial.a) × (l.k ≤ length l.initial.a)
    × PseudoRemainder l.m.p l.k (poly l.m.p l.b) (poly l.m.p l.initial.a) l.a

abbrev pub decreases-loop-k : goal.decreases-loop-k
decreases-loop-k l = l.k
