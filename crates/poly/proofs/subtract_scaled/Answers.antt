-- `poly::subtract_scaled` meets its contract. Assumes nothing.
use Rattle.std.proofs.Common.{ap}
use Rattle.series.specs.Series.{sums}
use Rattle.zmod.specs.Zmod.{Zmod}
use Rattle.zmod.specs.Residues.{poly, residues_same}
use Rattle.poly.proofs.Laws.{scaled_minus}
use Rattle.poly.proofs.subtract_scaled.Goals as goal

pub returns : goal.returns
returns c =
    let at = c.args in
    let turned = c.negate in
    residues_same
    (ap (sums (Zmod at.p) (poly at.p at.out.now)) (scaled_minus at.p at.c turned.result (poly at.p at.a.now)
    turned.ensures.class))
    c.add_scaled.ensures
