use Rattle.std.proofs.Common.{length, ◌+◌, ◌-◌, ◌/◌, ◌^◌, ◌≡◌}
use Rattle.zmod.specs.Residues.{poly}
use Rattle.modulo.specs.Modulo.{RemainderOf}
use Rattle.modulo.specs.Power.{x_to}
use Rattle.quotients.proofs.power_in.Given as goal

abbrev pub invariant-loop-i : goal.invariant-loop-i
invariant-loop-i l =
    (length l.r + 1 ≡ length l.g) × (length l.e ≡ length l.initial.e) × (length l.acc ≡ length l.initial.acc) × (length l.room ≡ length l.initial.room)
    × (length l.top ≡ length l.g) × (length l.q ≡ length l.g) × RemainderOf l.m.p (length l.g - 1) (poly l.m.p l.g) (x_to l.m.p (l.m.p / 2 ^ l.i)) l.r
