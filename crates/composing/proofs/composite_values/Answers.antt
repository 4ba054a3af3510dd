-- `composing::composite_values` meets its contract. Assumes nothing.
use Rattle.std.proofs.Common.{ap₂, arith, refl, ◌+◌}
use Rattle.composing.proofs.Kernels.{product_most, sum_fits, values_are}
use Rattle.composing.proofs.composite_values.Goals as goal

pub overflow_mul-degree : goal.overflow_mul-degree
overflow_mul-degree c =
    omega (arith, product_most c.args.v.values c.args.w.values c.args.v.ready c.args.w.ready)

pub overflow_add-sum : goal.overflow_add-sum
overflow_add-sum c =
    let fits = sum_fits c.args.v.values c.args.w.values c.args.v.ready c.args.w.ready _ _ c.from.ensures c.product.ensures in
    record { fits = fits }

pub reduce-sigma-requires : goal.reduce-sigma-requires
reduce-sigma-requires c =
    omega (arith, c.args.v.ready.prime.least)

pub returns : goal.returns
returns c =
    values_are c.args.v.values c.args.w.values c.args.v.ready _ _ _ refl (ap₂ ◌+◌ c.from.ensures c.product.ensures)
    c.reduce-sigma.ensures
