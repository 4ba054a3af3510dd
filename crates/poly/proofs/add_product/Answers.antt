-- `poly::add_product` meets its contract. The invariant: the coefficients before k are stored, the words from k on are as they were.
-- Assumes nothing.
use Rattle.std.proofs.Common.{arith, get_or, rules, ◌≡◌}
use Rattle.slices.specs.Stored.{stored_none, stored_more, word_kept}
use Rattle.poly.specs.Stored.{stored_all}
use Rattle.poly.proofs.Laws.{add_product_turn}
use Rattle.poly.proofs.add_product.Goals as goal

pub loop-k-init : goal.loop-k-init
loop-k-init c = stored_none _ _

pub coefficient-requires : goal.coefficient-requires
coefficient-requires c =
    let loop = c.loop-k in
    let e : get_or loop.out loop.k 0 ≡ get_or c.args.out.now loop.k 0 = word_kept _ _ _ _ loop.invariant in
    record {
      start_lt_p = (omega (arith, c.requires.reduced.2 loop.k), search rules, search rules);
      reduced = (c.requires.reduced.0, c.requires.reduced.1);
    }

pub loop-k-preserved : goal.loop-k-preserved
loop-k-preserved c =
    let loop = c.loop-k in
    let at = c.args in
    stored_more _ at.out.now loop.out loop.k c.coefficient.result (search rules) loop.invariant
    (add_product_turn at.p (get_or loop.out loop.k 0) c.coefficient.result at.out.now at.a.now at.b.now loop.k
    (word_kept _ _ _ _ loop.invariant) c.coefficient.ensures)

pub returns : goal.returns
returns c =
    let at = c.args in
    let loop = c.loop-k in
    stored_all at.p _ at.out.now loop.out loop.k (search rules) (search rules) loop.invariant
