-- `pushing::slope` meets its contract. Assumes nothing.
use Rattle.std.proofs.Common.{arith, mul-le-mul, ◌*◌, ◌-◌}
use Rattle.pushing.proofs.Images.{slope_is}
use Rattle.pushing.proofs.slope.Goals as goal

pub overflow_add-product : goal.overflow_add-product
overflow_add-product c =
    let at = c.args in
    omega (
      arith,
      c.product.ensures,
      c.product-2.ensures,
      mul-le-mul {n₁ = at.n.slope} {m₁ = at.g.value} {n₂ = 268435456} {m₂ = 268435456} (omega arith) (omega arith),
      mul-le-mul {n₁ = 2 * (at.p - at.n.value)} {m₁ = at.g.slope} {n₂ = 536870912} {m₂ = 268435456} (omega arith) (omega arith),
    )

pub returns : goal.returns
returns c =
    slope_is c.args.p c.args.g c.args.n c.product.result c.product-2.result (omega (arith, c.requires))
    c.product.ensures c.product-2.ensures c.reduce.ensures
