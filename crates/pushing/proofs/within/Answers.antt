-- `pushing::within` meets its contract. Assumes nothing.
use Rattle.std.proofs.Common.{arith}
use Rattle.pushing.proofs.Images.{outside_x, outside_y, inside, on_curve}
use Rattle.pushing.proofs.within.Goals as goal

pub returns-then-p-x : goal.returns-then-p-x
returns-then-p-x c = outside_x c.args.v.values c.args.x c.args.y (omega (arith, c.if-p-x.true))

pub returns-then-p-y : goal.returns-then-p-y
returns-then-p-y c = outside_y c.args.v.values c.args.x c.args.y (omega (arith, c.if-p-y.true))

pub returns : goal.returns
returns c =
    inside c.args.v.values c.args.x c.args.y (omega (arith, c.if-p-x.false)) (omega (arith, c.if-p-y.false))
    (on_curve c.args.v.values c.args.x c.args.y c.multiply.ensures c.cubic.ensures)
