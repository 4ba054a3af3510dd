use Rattle.std.proofs.Common.{length, ◌*◌, ◌+◌, ◌-◌, ◌≡◌}
use Rattle.zmod.specs.Zmod.{Zmod, minus}
use Rattle.zmod.specs.Residues.{poly}
use Rattle.sheet.specs.Values.{question}
use Rattle.candidate.specs.Equations.{SAt}
use Rattle.expansion.specs.Multiple.{Multiple}
use Rattle.expansion.specs.Equations.{Solved}
use Rattle.candidate.proofs.fill_s.Given as goal

abbrev pub invariant-loop-i : goal.invariant-loop-i
invariant-loop-i l =
    (length l.s ≡ length l.initial.s) × (Solved l.v.values.p (SAt (Zmod l.v.values.p) (question l.v.values) (poly l.v.values.p l.h)) l.s (l.i + 1))
    × (Multiple l.v.values.p (2 * l.i - 1) (minus l.v.values.p (question l.v.values).A) l.y)
    × Multiple l.v.values.p (2 * l.i - 2) (minus l.v.values.p (question l.v.values).B) l.z
