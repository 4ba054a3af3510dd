use Rattle.std.proofs.Common.{ℕ, ◌*◌, ◌≡◌, ◌≤◌}
use Rattle.zmod.specs.Zmod.{mk}
use Rattle.poles.specs.Words.{correlation}
use Rattle.poles.proofs.dot.Given as goal

abbrev pub invariant-loop-i : goal.invariant-loop-i
invariant-loop-i l = (l.s ≤ l.i * 72057593501057025) × ((p : ℕ) → mk p l.s ≡ correlation p l.t l.h l.i)
