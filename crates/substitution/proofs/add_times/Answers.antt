-- `substitution::add_times` meets its contract. Assumes nothing.
use Rattle.std.proofs.Common.{arith}
use Rattle.barrett.specs.Modulus.{prepared, prepared_below}
use Rattle.rows.specs.Product.{behind_reduced}
use Rattle.substitution.specs.Sums.{product_added}
use Rattle.substitution.proofs.add_times.Goals as goal

pub add_product-requires : goal.add_product-requires
add_product-requires c =
    let a = c.args in
    let pre = c.requires in
    let e = c.put_behind in record {
      a_in_bounds = (
        omega (arith, pre.lengths),
        omega (arith, pre.lengths, e.auto),
        pre.lengths.1,
        pre.reduced.0,
        omega (arith, prepared_below (prepared a.m)),
      );
      by_index = (pre.reduced.3, pre.reduced.2, behind_reduced a.m.p e.new.e a.h.now e.ensures.0 e.ensures.1 pre.reduced.1, e.ensures.0);
    }

pub returns : goal.returns
returns c =
    let e = c.put_behind in
    let a = c.args in
    let sum = c.add_product in
    let out = c.remainders in
    product_added a.m.p a.acc.now a.a.now a.h.now e.new.e sum.new.acc out.new.out (omega (arith, out.auto, sum.auto, c.requires.lengths.2)) e.ensures.1
    sum.ensures out.ensures
