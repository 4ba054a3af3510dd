-- `numerator::products` meets its contract: g², −(g²)', g', g'² and 2s' + 8g'² with s = −(g²)' are formed in turn.
-- Assumes nothing.
use Rattle.std.proofs.Common.{arith}
use Rattle.rules.specs.Over.{Over, over_square}
use Rattle.numerator.proofs.ProductSteps.{products_steps}
use Rattle.numerator.proofs.products.Goals as goal

pub returns : goal.returns
returns c =
    let a = c.args in
    let over : Over a.v.values a.v.modulus = record { same = a.v.over } in
    products_steps a.v.values.p a.g.now c.square.new.out c.slope_of.new.out c.derivative.new.out
    c.square-2.new.out c.bend_of.new.out
    (omega (arith, c.requires, c.square.auto))
    (omega (arith, c.requires, c.square.auto, c.slope_of.auto))
    (omega (arith, c.requires, c.derivative.auto))
    (omega (arith, c.requires, a.v.ready.degree, c.square-2.auto, c.derivative.auto))
    (omega (arith, c.requires, a.v.ready.degree, c.slope_of.auto, c.bend_of.auto))
    (omega (arith, c.requires, a.v.ready.degree, c.derivative.auto, c.bend_of.auto))
    (over_square over a.g.now c.square.new.out c.square.ensures) c.slope_of.ensures c.derivative.ensures
    (over_square over c.derivative.new.out c.square-2.new.out c.square-2.ensures)
    c.bend_of.ensures
