use Rattle.series.specs.Series.{conv, sums}
use Rattle.zmod.specs.Zmod.{Zmod}
use Rattle.zmod.specs.Residues.{poly}
use Rattle.slices.specs.Stored.{Stored}
use Rattle.poly.specs.Stored.{Of}
use Rattle.poly.proofs.add_product.Given as goal

abbrev pub invariant-loop-k : goal.invariant-loop-k
invariant-loop-k l = Stored (Of l.p (sums (Zmod l.p) (poly l.p l.initial.out) (conv (Zmod l.p) (poly l.p l.a) (poly l.p l.b)))) l.initial.out l.out l.k
