use Rattle.std.proofs.Common.{ℕ, ◌*◌, ◌+◌, ◌≡◌, ◌≤◌}
use Rattle.zmod.specs.Zmod.{Zmod, mk}
use Rattle.zmod.specs.Residues.{poly}
use Rattle.evaluation.specs.Tables.{weighed}
use Rattle.evaluation.proofs.dot.Given as goal

abbrev pub invariant-loop-i : goal.invariant-loop-i
invariant-loop-i l =
    (2 * l.s ≤ l.i * (l.i + 1) * 72057593501057025) × ((p : ℕ) → mk p l.s ≡ weighed (Zmod p) (poly p l.a) (poly p l.b) l.i)
