use Rattle.std.proofs.Common.{List, length, ℕ, ◌*◌, ◌-◌, ◌≡◌}
use Rattle.sheet.specs.declared.Values.{Values}
use Rattle.slices.specs.Filling.{Filled}
use Rattle.sheet.specs.Values.{question}
use Rattle.isogeny.specs.Expansion.{expansion}
use Rattle.zmod.specs.Residues.{Residue, poly}
use Rattle.zmod.specs.Zmod.{Zmod}
use Rattle.expansion.specs.Multiple.{Multiple}
use Rattle.expansion.proofs.expansion.Given as goal

-- w is the residue of the coefficient j
abbrev pub F : Values → List ℕ → ℕ → ℕ → Type 0
F v s j w = Residue v.p (expansion (Zmod v.p) (question v).A (question v).B (poly v.p s) j) w

abbrev pub invariant-loop-i : goal.invariant-loop-i
invariant-loop-i l =
    (length l.h ≡ length l.initial.h) × (Filled (F l.v.values l.s) l.h l.i)
    × (Multiple l.v.values.p (2 * l.i - 1) (question l.v.values).A l.y) × Multiple l.v.values.p (2 * l.i - 2) (question l.v.values).B l.z
