use Rattle.std.proofs.Common.{length, min, ◌*◌, ◌-◌, ◌≡◌}
use Rattle.zmod.specs.Zmod.{Zmod, minus}
use Rattle.sheet.specs.Values.{question}
use Rattle.recurrence.specs.Equations.{HAt}
use Rattle.expansion.specs.Multiple.{Multiple}
use Rattle.expansion.specs.Equations.{Solved}
use Rattle.recurrence.proofs.expansion_of_curves.Given as goal

abbrev pub invariant-loop-k : goal.invariant-loop-k
invariant-loop-k l =
    (length l.h ≡ length l.initial.h) × (Solved l.v.values.p (HAt (Zmod l.v.values.p) (question l.v.values)) l.h (min l.k (length l.h)))
    × (Multiple l.v.values.p (2 * l.k - 3) (minus l.v.values.p (question l.v.values).A) l.y)
    × Multiple l.v.values.p (2 * l.k - 6) (minus l.v.values.p (question l.v.values).B) l.z
