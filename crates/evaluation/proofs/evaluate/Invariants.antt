use Rattle.std.proofs.Common.{length, ◌<◌, ◌≡◌}
use Rattle.std.specs.Slice.Iter.{rchunks_rest, rchunks_size}
use Rattle.zmod.specs.Zmod.{Elt}
use Rattle.zmod.specs.Residues.{poly}
use Rattle.evaluation.specs.Tables.{Tables}
use Rattle.evaluation.proofs.Upper.{Upper}
use Rattle.evaluation.proofs.Words.{Front}
use Rattle.evaluation.proofs.evaluate.Given as goal

abbrev pub invariant-loop-block : goal.invariant-loop-block
invariant-loop-block l =
    (rchunks_size l.block-iterator ≡ 16) × Front l.a (rchunks_rest l.block-iterator) × (l.r.value < l.p) × (l.r.slope < l.p)
    × ((u : Elt l.p) → Tables l.p u l.powers l.slopes → Upper l.p (poly l.p l.a) (length l.a) u (length (rchunks_rest l.block-iterator)) l.r)
