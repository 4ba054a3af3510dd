-- `poly::add_scaled` meets its contract. The invariant: the coefficients before k are stored, the words from k on are as they were; past the end
-- of a they stay.
-- Assumes nothing.
use Rattle.std.proofs.Common.{arith, get_or, rules}
use Rattle.slices.specs.Stored.{stored_none, stored_more, word_kept}
use Rattle.poly.specs.Stored.{stored_front}
use Rattle.poly.proofs.Laws.{add_nothing, add_scaled_turn}
use Rattle.poly.proofs.add_scaled.Goals as goal

pub loop-k-init : goal.loop-k-init
loop-k-init c = stored_none _ _

pub loop-k-preserved : goal.loop-k-preserved
loop-k-preserved c =
    let loop = c.loop-k in
    let at = c.args in
    stored_more _ at.out.now loop.out loop.k c.plus_multiple.result (search rules) loop.invariant
    (add_scaled_turn at.p at.c (get_or loop.out loop.k 0) c.plus_multiple.result at.out.now at.a.now loop.k
    (word_kept _ _ _ _ loop.invariant) c.plus_multiple.ensures)

pub returns : goal.returns
returns c =
    let at = c.args in
    let loop = c.loop-k in
    stored_front at.p _ at.out.now loop.out loop.k (search rules) c.requires.1
    (λ j le lt. add_nothing at.p at.c at.out.now at.a.now j (omega arith)) loop.invariant
