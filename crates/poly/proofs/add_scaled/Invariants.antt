use Rattle.series.specs.Series.{sums, scaled}
use Rattle.zmod.specs.Zmod.{Zmod, mk}
use Rattle.zmod.specs.Residues.{poly}
use Rattle.slices.specs.Stored.{Stored}
use Rattle.poly.specs.Stored.{Of}
use Rattle.poly.proofs.add_scaled.Given as goal

abbrev pub invariant-loop-k : goal.invariant-loop-k
invariant-loop-k l =
    Stored (Of l.p (sums (Zmod l.p) (poly l.p l.initial.out) (scaled (Zmod l.p) (mk l.p l.c) (poly l.p l.a)))) l.initial.out l.out l.k
