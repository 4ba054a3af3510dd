use Rattle.zmod.specs.Zmod.{Zmod}
use Rattle.zmod.specs.Residues.{poly}
use Rattle.slices.specs.Stored.{Stored}
use Rattle.poly.specs.Stored.{Of}
use Rattle.rules.specs.Numerator.{bend_from}
use Rattle.rules.proofs.bend_of.Given as goal

abbrev pub invariant-loop-i : goal.invariant-loop-i
invariant-loop-i l = Stored (Of l.p (bend_from (Zmod l.p) (poly l.p l.s) (poly l.p l.t))) l.initial.out l.out l.i
