use Rattle.series.specs.Series.{sums, scaled}
use Rattle.zmod.specs.Zmod.{Zmod, mk}
use Rattle.zmod.specs.Residues.{poly}
use Rattle.slices.specs.Stored.{Stored}
use Rattle.poly.specs.Stored.{Of}
use Rattle.folding.proofs.add_reduced.Given as goal

abbrev pub invariant-loop-k : goal.invariant-loop-k
invariant-loop-k l =
    Stored (Of l.m.p (sums (Zmod l.m.p) (poly l.m.p l.initial.out) (scaled (Zmod l.m.p) (mk l.m.p l.c) (poly l.m.p l.a)))) l.initial.out l.out l.k
