-- `rules::slope_of` meets its contract. The invariant: the coefficients before i are stored. Assumes nothing.
use Rattle.std.proofs.Common.{arith, rules}
use Rattle.slices.specs.Stored.{stored_more}
use Rattle.poly.specs.Stored.{stored_all}
use Rattle.rules.proofs.slope_of.Goals as goal

pub loop-i-preserved : goal.loop-i-preserved
loop-i-preserved c =
    let loop = c.loop-i in
    stored_more _ c.args.out.now loop.out loop.i c.slope_coefficient.result (search rules) loop.invariant c.slope_coefficient.ensures

pub returns : goal.returns
returns c =
    let loop = c.loop-i in
    stored_all c.args.p _ c.args.out.now loop.out loop.i (omega (arith, c.requires)) (search rules) loop.invariant
