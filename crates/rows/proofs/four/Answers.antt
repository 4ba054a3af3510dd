-- `rows::four` meets its contract. Assumes nothing.
use Rattle.std.proofs.Common.{arith, rules}
use Rattle.slices.specs.Stored.{stored_none, stored_more, word_kept}
use Rattle.rows.proofs.four.Goals as goal

pub loop-j-init : goal.loop-j-init
loop-j-init c = stored_none _ _

pub sum_more-requires : goal.sum_more-requires
sum_more-requires c =
    let loop = c.loop-j in
    let j = loop.j in
    let small = c.requires.reduced in
    let factors = c.requires.w_bound in record {
      w_bound = (factors.0, small.0 j, factors.1, small.1 j, factors.2, small.2 j, factors.3, small.3 j);
      d_bound = omega (arith, c.requires.by_index j (search rules), word_kept _ _ _ _ loop.invariant);
    }

pub loop-j-preserved : goal.loop-j-preserved
loop-j-preserved c =
    let loop = c.loop-j in
    let a = c.args in
    stored_more _ a.out.now loop.out loop.j c.sum_more.result (search rules) loop.invariant (omega (
      arith,
      c.sum_more.ensures,
      word_kept _ _ _ _
          loop.invariant,
    ))

pub returns : goal.returns
returns c = λ j l. c.loop-j.invariant.filled j (omega arith)
