use Rattle.std.proofs.Common.{length, take, ◌≡◌, ◌≤◌}
use Rattle.zmod.specs.Residues.{poly}
use Rattle.euclid.specs.Euclid.{Reached}
use Rattle.euclid.proofs.gcd_degree.Given as goal

abbrev pub invariant-loop-y : goal.invariant-loop-y
invariant-loop-y l = (length l.a ≡ length l.initial.a) × (length l.b ≡ length l.initial.b) × (l.x ≤ length l.initial.a) × (l.y ≤ length l.initial.b)
    × Reached l.m.p (poly l.m.p l.initial.a) (poly l.m.p l.initial.b) (take l.x l.a) (take l.y l.b)

abbrev pub decreases-loop-y : goal.decreases-loop-y
decreases-loop-y l = l.y
