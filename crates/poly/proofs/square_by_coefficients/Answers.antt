-- `poly::square_by_coefficients` meets its contract. The invariant: the coefficients before k are stored. Assumes nothing.
use Rattle.std.proofs.Common.{rules}
use Rattle.slices.specs.Stored.{stored_none, stored_more}
use Rattle.poly.specs.Stored.{stored_all}
use Rattle.poly.proofs.square_by_coefficients.Goals as goal

pub loop-k-init : goal.loop-k-init
loop-k-init c = stored_none _ _

pub square_coefficient-requires : goal.square_coefficient-requires
square_coefficient-requires c = (search rules, search rules, search rules, c.requires.2)

pub loop-k-preserved : goal.loop-k-preserved
loop-k-preserved c =
    let loop = c.loop-k in
    let at = c.args in
    stored_more _ at.out.now loop.out loop.k c.square_coefficient.result (search rules) loop.invariant c.square_coefficient.ensures

pub returns : goal.returns
returns c =
    let at = c.args in
    let loop = c.loop-k in
    stored_all at.p _ at.out.now loop.out loop.k (search rules) (search rules) loop.invariant
