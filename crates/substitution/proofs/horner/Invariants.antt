use Rattle.std.proofs.Common.{length, ◌-◌, ◌≡◌}
use Rattle.zmod.specs.Residues.{poly}
use Rattle.substitution.specs.Turns.{HornerAt}
use Rattle.substitution.proofs.horner.Given as goal

abbrev pub invariant-loop-t : goal.invariant-loop-t
invariant-loop-t l =
    (length l.h ≡ length l.initial.h) × (length l.den ≡ length l.initial.den) × (length l.e ≡ length l.initial.e) × (length l.acc ≡ length l.initial.acc)
    × HornerAt l.m.p (poly l.m.p l.n) (poly l.m.p l.square) (poly l.m.p l.g2) (length l.g2 - 1) l.t l.h l.den
