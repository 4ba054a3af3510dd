-- `poly::product` meets its contract. The invariant: the coefficients before n are stored. Assumes nothing.
use Rattle.std.proofs.Common.{rules}
use Rattle.slices.specs.Stored.{stored_none, stored_more}
use Rattle.poly.specs.Stored.{stored_all}
use Rattle.poly.proofs.Laws.{product_turn}
use Rattle.poly.proofs.product.Goals as goal

pub loop-n-init : goal.loop-n-init
loop-n-init c = stored_none _ _

pub loop-n-preserved : goal.loop-n-preserved
loop-n-preserved c =
    let loop = c.loop-n in
    let at = c.args in
    stored_more _ at.out.now loop.out loop.n c.coefficient.result (search rules) loop.invariant
    (product_turn at.p c.coefficient.result at.a.now at.b.now loop.n c.coefficient.ensures)

pub returns : goal.returns
returns c =
    let at = c.args in
    let loop = c.loop-n in
    stored_all at.p _ at.out.now loop.out loop.n (search rules) (search rules) loop.invariant
