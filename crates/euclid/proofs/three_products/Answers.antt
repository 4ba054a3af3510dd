-- `euclid::three_products` meets its contract: three products of 56 bits fit. Assumes nothing.
use Rattle.std.proofs.Common.{arith}
use Rattle.zmod.specs.Remainder.{product_below}
use Rattle.euclid.proofs.three_products.Goals as goal

pub overflow_add-result : goal.overflow_add-result
overflow_add-result c =
    let pre = c.requires in
    record {
      fits = omega (arith, c.product-2.ensures, c.product.ensures, product_below 28 pre.0 pre.1, product_below 28 pre.2 pre.3);
    }

pub overflow_add-result-2 : goal.overflow_add-result-2
overflow_add-result-2 c =
    let pre = c.requires in
    record {
      fits = omega (
        arith,
        c.product-3.ensures,
        c.product-2.ensures,
        c.product.ensures,
        product_below 28 pre.0 pre.1,
        product_below 28 pre.2 pre.3,
        product_below 28 pre.4 pre.5,
      );
    }
