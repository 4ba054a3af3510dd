use Rattle.std.proofs.Common.{length, ℕ, ◌-◌, ◌/◌, ◌<◌, ◌≡◌, ◌≤◌}
use Rattle.zmod.specs.Zmod.{mk}
use Rattle.poles.specs.Words.{remainder}
use Rattle.poles.proofs.highest.Given as goal

abbrev pub invariant-loop-i : goal.invariant-loop-i
invariant-loop-i l = ((length l.h - 1) / 2 ≤ l.i) × ((j : ℕ) → l.i ≤ j → j < l.k → remainder l.p l.h l.u j ≡ mk l.p 0)
