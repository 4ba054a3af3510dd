use Rattle.std.proofs.Common.{length, ◌≡◌}
use Rattle.slices.specs.Filling.{Filled}
use Rattle.series.specs.Series.{negs}
use Rattle.zmod.specs.Zmod.{Zmod}
use Rattle.zmod.specs.Residues.{poly}
use Rattle.poly.specs.Stored.{Of}
use Rattle.modulo.proofs.negated.Given as goal

abbrev pub invariant-loop-k : goal.invariant-loop-k
invariant-loop-k l = (length l.out ≡ length l.initial.out) × Filled (Of l.p (negs (Zmod l.p) (poly l.p l.a))) l.out l.k
