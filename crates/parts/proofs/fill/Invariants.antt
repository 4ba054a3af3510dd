use Rattle.std.proofs.Common.{length, ◌≡◌}
use Rattle.series.specs.Series.{Seq}
use Rattle.zmod.specs.Zmod.{Zmod}
use Rattle.isogeny.specs.Rules.{linear_part_of, first_logarithmic_part_of, second_logarithmic_part_of}
use Rattle.sheet.specs.Values.{question}
use Rattle.slices.specs.Stored.{Stored}
use Rattle.poly.specs.Stored.{Of}
use Rattle.rules.specs.Products.{Products}
use Rattle.parts.proofs.fill.Given as goal

abbrev pub invariant-loop-k : goal.invariant-loop-k
invariant-loop-k l =
    (length l.linear ≡ length l.initial.linear) × (length l.first ≡ length l.initial.first) × (length l.second ≡ length l.initial.second)
    × ((g : Seq (Zmod l.v.values.p)) → Products l.v.values.p g l.square l.slope l.bend
    → Stored (Of l.v.values.p (linear_part_of (Zmod l.v.values.p) (question l.v.values) g)) l.initial.linear l.linear l.k
    × Stored (Of l.v.values.p (first_logarithmic_part_of (Zmod l.v.values.p) (question l.v.values) g)) l.initial.first l.first l.k
    × Stored (Of l.v.values.p (second_logarithmic_part_of (Zmod l.v.values.p) (question l.v.values) g)) l.initial.second l.second l.k)
