use Rattle.std.proofs.Common.{get_or, length, ◌-◌, ◌≡◌}
use Rattle.slices.specs.Stored.{Stored}
use Rattle.zmod.specs.Zmod.{mk, minus}
use Rattle.zmod.specs.Residues.{Residue}
use Rattle.power_sums.proofs.negated.Given as goal

abbrev pub invariant-loop-t : goal.invariant-loop-t
invariant-loop-t l = (l.d ≡ length l.g - 1) × Stored (λ j v. Residue l.p (minus l.p (mk l.p (get_or l.g (l.d - 1 - j) 0))) v) l.initial.e l.e l.t
