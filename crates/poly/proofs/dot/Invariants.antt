use Rattle.std.proofs.Common.{ℕ, ◌*◌, ◌-◌, ◌≡◌, ◌≤◌}
use Rattle.zmod.specs.Zmod.{mk, plus}
use Rattle.poly.specs.Partial.{partial}
use Rattle.poly.proofs.dot.Given as goal

abbrev pub invariant-loop-i : goal.invariant-loop-i
invariant-loop-i l =
    (l.s ≤ (l.i - l.from) * 72057593501057025) × ((p : ℕ) → partial p l.a l.b l.k l.i ≡ plus p (partial p l.a l.b l.k l.from) (mk p l.s))
