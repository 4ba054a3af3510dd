use Rattle.std.proofs.Common.{length, ◌-◌, ◌/◌, ◌^◌, ◌≡◌}
use Rattle.zmod.specs.Residues.{poly}
use Rattle.modulo.specs.Modulo.{RemainderOf}
use Rattle.modulo.specs.Power.{x_to}
use Rattle.folding.proofs.power_in.Given as goal

abbrev pub invariant-loop-i : goal.invariant-loop-i
invariant-loop-i l =
    (length l.r ≡ length l.g - 1) × (length l.q ≡ length l.initial.q) × (length l.e ≡ length l.initial.e) × (length l.acc ≡ length l.initial.acc)
    × RemainderOf l.m.p (length l.g - 1) (poly l.m.p l.g) (x_to l.m.p (l.m.p / 2 ^ l.i)) l.r
