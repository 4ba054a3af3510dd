use Rattle.series.specs.Series.{scaled}
use Rattle.zmod.specs.Zmod.{Zmod, mk}
use Rattle.zmod.specs.Residues.{poly}
use Rattle.slices.specs.Stored.{Stored}
use Rattle.poly.specs.Stored.{Of}
use Rattle.euclid.proofs.scale.Given as goal

abbrev pub invariant-loop-word : goal.invariant-loop-word
invariant-loop-word l = Stored (Of l.m.p (scaled (Zmod l.m.p) (mk l.m.p l.c) (poly l.m.p l.initial.out))) l.initial.out l.out l.word-index
