use Rattle.std.proofs.Common.{◌-◌, ◌<◌, ◌≡◌, ◌≤◌}
use Rattle.zmod.specs.Zmod.{mk, plus}
use Rattle.poly.specs.Partial.{partial}
use Rattle.poly.proofs.span.Given as goal

abbrev pub invariant-loop-i : goal.invariant-loop-i
invariant-loop-i l =
    (l.from ≤ l.i) × (l.i ≤ l.to) × (l.s < l.p)
    × (plus l.p (partial l.p l.a l.b l.k l.from) (mk l.p l.s) ≡ plus l.p (mk l.p l.start) (partial l.p l.a l.b l.k l.i))

abbrev pub decreases-loop-i : goal.decreases-loop-i
decreases-loop-i l = l.to - l.i
