use Rattle.std.proofs.Common.{◌/◌, ◌^◌, ◌≤◌}
use Rattle.zmod.specs.Zmod.{mk}
use Rattle.zmod.specs.Residues.{Residue}
use Rattle.field.proofs.power.Given as goal

abbrev pub invariant-loop-i : goal.invariant-loop-i
invariant-loop-i l = (l.i ≤ 31) × Residue l.p (mk l.p (l.a ^ (l.e / 2 ^ l.i))) l.r
