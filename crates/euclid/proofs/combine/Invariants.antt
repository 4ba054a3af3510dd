use Rattle.series.specs.Series.{sums, scaled}
use Rattle.zmod.specs.Zmod.{Zmod, mk}
use Rattle.zmod.specs.Residues.{poly}
use Rattle.slices.specs.Stored.{Stored}
use Rattle.poly.specs.Stored.{Of}
use Rattle.euclid.proofs.combine.Given as goal

abbrev pub invariant-loop-k : goal.invariant-loop-k
invariant-loop-k l = Stored (Of l.m.p (sums (Zmod l.m.p)
    (sums (Zmod l.m.p) (scaled (Zmod l.m.p) (mk l.m.p l.c) (poly l.m.p l.initial.out)) (scaled (Zmod l.m.p) (mk l.m.p l.y) (poly l.m.p l.before)))
    (scaled (Zmod l.m.p) (mk l.m.p l.z) (poly l.m.p l.here)))) l.initial.out l.out l.k
