use Rattle.series.specs.Series.{∂}
use Rattle.zmod.specs.Zmod.{Zmod}
use Rattle.zmod.specs.Residues.{poly}
use Rattle.slices.specs.Stored.{Stored}
use Rattle.poly.specs.Stored.{Of}
use Rattle.poly.proofs.derivative.Given as goal

abbrev pub invariant-loop-k : goal.invariant-loop-k
invariant-loop-k l = Stored (Of l.p (∂ (Zmod l.p) (poly l.p l.a))) l.initial.out l.out l.k
