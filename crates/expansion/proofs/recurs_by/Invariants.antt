use Rattle.std.proofs.Common.{ℕ, ◌*◌, ◌-◌, ◌<◌, ◌≤◌}
use Rattle.zmod.specs.Zmod.{Zmod}
use Rattle.sheet.specs.Values.{question}
use Rattle.zmod.specs.Residues.{poly}
use Rattle.isogeny.specs.Expansion.{Recurs}
use Rattle.expansion.specs.Multiple.{Multiple}
use Rattle.expansion.proofs.recurs_by.Given as goal

abbrev pub invariant-loop-k : goal.invariant-loop-k
invariant-loop-k l =
    ((j : ℕ) → j < l.k → l.from ≤ j → Recurs (Zmod l.v.values.p) (question l.v.values).A (question l.v.values).B (poly l.v.values.p l.h) j)
    × (Multiple l.v.values.p (2 * l.k - 3) (question l.v.values).A l.y) × Multiple l.v.values.p (2 * l.k - 6) (question l.v.values).B l.z
