use Rattle.std.proofs.Common.{length, ◌≡◌}
use Rattle.series.specs.Series.{Seq}
use Rattle.zmod.specs.Zmod.{Zmod}
use Rattle.isogeny.specs.Rules.{N}
use Rattle.sheet.specs.Values.{question}
use Rattle.slices.specs.Stored.{Stored}
use Rattle.poly.specs.Stored.{Of}
use Rattle.rules.specs.Products.{Products}
use Rattle.rules.proofs.sum_of_parts.Given as goal

abbrev pub invariant-loop-k : goal.invariant-loop-k
invariant-loop-k l =
    let p = l.v.values.p in
    (length l.out ≡ length l.initial.out)
    × ((g : Seq (Zmod p)) → Products p g l.square l.slope l.bend → Stored (Of p (N (Zmod p) (question l.v.values) g)) l.initial.out l.out l.k)
