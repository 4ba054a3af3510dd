-- `quotients::subtract_product` meets its contract. Assumes nothing.
use Rattle.std.proofs.Common.{arith, rules}
use Rattle.barrett.specs.Modulus.{prepared, prepared_below}
use Rattle.rows.specs.Product.{reduced_fits}
use Rattle.quotients.specs.Division.{filled_reduced, subtracted}
use Rattle.quotients.proofs.subtract_product.Goals as goal

pub add_product-requires : goal.add_product-requires
add_product-requires c =
    let a = c.args in
    let pre = c.requires.p_bound in
    let long = c.requires.q_len_bound in
    let wide = c.widen in record {
      a_in_bounds = (
        omega (arith, wide.auto, long.1),
        omega (arith, wide.auto, long.1, long.3),
        long.0,
        pre.0,
        omega (arith, prepared_below (prepared a.m)),
      );
      by_index = (reduced_fits wide.new.out pre.0 (filled_reduced a.m.p a.a.now wide.new.out pre.1 wide.ensures), pre.2, pre.3, pre.4);
    }

pub remainders-requires : goal.remainders-requires
remainders-requires c =
    record {
      len_bound = omega (arith, c.widen.auto, c.add_product.auto, c.requires.q_len_bound.1, c.requires.q_len_bound.2);
      by_index = c.add_product.ensures.bounded;
    }

pub returns : goal.returns
returns c =
    let a = c.args in
    let wide = c.widen in
    let sum = c.add_product in
    let r = c.remainders in
    subtracted a.m.p a.a.now a.q.now a.n.now wide.new.out sum.new.acc r.new.out (search rules)
    (omega (arith, wide.auto, r.auto, c.requires.q_len_bound.1, c.requires.q_len_bound.2)) wide.ensures sum.ensures r.ensures
