use Rattle.series.specs.Series.{scaled}
use Rattle.zmod.specs.Zmod.{Zmod, mk}
use Rattle.zmod.specs.Residues.{poly}
use Rattle.slices.specs.Stored.{Stored}
use Rattle.poly.specs.Stored.{Of}
use Rattle.poly.proofs.scale.Given as goal

abbrev pub invariant-loop-x : goal.invariant-loop-x
invariant-loop-x l = Stored (Of l.p (scaled (Zmod l.p) (mk l.p l.c) (poly l.p l.initial.out))) l.initial.out l.out l.x-index
