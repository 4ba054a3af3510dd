-- `poly::scale` meets its contract. The invariant: the coefficients before k are stored, the words from k on are as they were. Assumes nothing.
use Rattle.std.proofs.Common.{get_or, rules}
use Rattle.slices.specs.Stored.{stored_none, stored_more, word_kept}
use Rattle.poly.specs.Stored.{stored_all}
use Rattle.poly.proofs.Laws.{scale_turn}
use Rattle.poly.proofs.scale.Goals as goal

pub loop-x-init : goal.loop-x-init
loop-x-init c = stored_none _ _

pub loop-x-preserved : goal.loop-x-preserved
loop-x-preserved c =
    let loop = c.loop-x in
    let at = c.args in
    stored_more _ at.out.now loop.out loop.x-index c.multiply.result (search rules) loop.invariant
    (scale_turn at.p at.c (get_or loop.out loop.x-index 0) c.multiply.result at.out.now loop.x-index (word_kept _ _ _ _ loop.invariant)
    c.multiply.ensures)

pub returns : goal.returns
returns c =
    let at = c.args in
    let loop = c.loop-x in
    stored_all at.p _ at.out.now loop.out loop.x-index (search rules) (search rules) loop.invariant
