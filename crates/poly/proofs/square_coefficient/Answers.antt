-- `poly::square_coefficient` meets its contract: the span has the terms before the middle one. Assumes nothing.
use Rattle.std.proofs.Common.{arith, rules}
use Rattle.poly.proofs.Sums.{reduced_mono}
use Rattle.poly.proofs.Twins.{alone_le, square_class}
use Rattle.poly.proofs.square_coefficient.Goals as goal

pub span-half-requires : goal.span-half-requires
span-half-requires c =
    let low = c.requires.3 in
    record {
      start_lt_p = search rules;
      from_le_to = search rules;
      reduced = (low, low);
    }

pub overflow_add-half-2 : goal.overflow_add-half-2
overflow_add-half-2 c =
    let at = c.args in
    omega (arith, alone_le at.p at.a.now at.k c.middle.result c.middle.ensures (reduced_mono at.a.now (search rules) c.requires.3))

pub returns : goal.returns
returns c =
    let at = c.args in
    let from = c.saturating_sub-from in
    square_class at.p at.a.now at.k from.result c.max-to.result c.reduce.result c.span-half.result
    c.middle.result
    from.ensures (omega arith) c.middle.ensures c.span-half.ensures.result_value c.reduce.ensures
