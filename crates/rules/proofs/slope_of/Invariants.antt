use Rattle.series.specs.Series.{negs, ∂}
use Rattle.zmod.specs.Zmod.{Zmod}
use Rattle.zmod.specs.Residues.{poly}
use Rattle.slices.specs.Stored.{Stored}
use Rattle.poly.specs.Stored.{Of}
use Rattle.rules.proofs.slope_of.Given as goal

abbrev pub invariant-loop-i : goal.invariant-loop-i
invariant-loop-i l = Stored (Of l.p (negs (Zmod l.p) (∂ (Zmod l.p) (poly l.p l.s)))) l.initial.out l.out l.i
