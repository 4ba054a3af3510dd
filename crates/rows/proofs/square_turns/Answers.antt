-- `rows::square_turns` meets its contract. Assumes nothing.
use Rattle.std.proofs.Common.{arith, length, refl, rules, ◌+◌}
use Rattle.rows.specs.Square.{added_none, added_more, added_end, added_all, turn_counts, turn_room, turn_below}
use Rattle.rows.proofs.square_turns.Goals as goal

pub loop-i-init : goal.loop-i-init
loop-i-init c =
    let a = c.args in
    (refl, refl, refl, search rules, c.requires.above.0, added_none a.p a.a.now a.acc.now (length a.acc.now) c.requires.above.1)

pub returns-then-acc-i : goal.returns-then-acc-i
returns-then-acc-i c =
    let a = c.args in
    let loop = c.loop-i in
    added_end a.p a.a.now loop.i _ loop.acc loop.invariant.3 (omega arith) loop.invariant.5

pub square_turn-requires : goal.square_turn-requires
square_turn-requires c =
    let a = c.args in
    let loop = c.loop-i in
    let more = turn_counts a.p a.a.now loop.i (length a.a.now) (length a.acc.now) loop.invariant.2 (omega arith) (omega arith) in
    let fits = turn_room a.p a.a.now loop.i _ more c.requires.p_nonzero.3 in record {
      i_in_bounds = (search rules, omega arith, omega arith);
      p_nonzero = (c.requires.p_nonzero.0, c.requires.p_nonzero.1, c.requires.p_nonzero.2);
      above = (
        loop.invariant.4,
        λ k. turn_below a.p a.a.now loop.i k loop.acc c.requires.p_nonzero.0 c.requires.p_nonzero.1 fits loop.invariant.5,
      );
    }

pub loop-i-preserved : goal.loop-i-preserved
loop-i-preserved c =
    let a = c.args in
    let loop = c.loop-i in
    let turn = c.square_turn in (
      search rules,
      search rules,
      omega arith,
      turn_counts a.p a.a.now loop.i (length a.a.now) (length a.acc.now) loop.invariant.2 (omega arith) (omega arith),
      turn.ensures.0,
      added_more a.p a.a.now loop.i loop.acc _ (search rules) loop.invariant.5
          turn.ensures.1,
    )

pub returns : goal.returns
returns c =
    let a = c.args in
    let loop = c.loop-i in
    added_all a.p a.a.now loop.i _ loop.acc loop.invariant.3 (omega arith) loop.invariant.5

pub returns-else-acc-i : goal.returns-else-acc-i
returns-else-acc-i c =
    let a = c.args in
    let loop = c.loop-i in
    let more = turn_counts a.p a.a.now loop.i (length a.a.now) (length a.acc.now) loop.invariant.2 (omega arith) (omega arith) in
    added_all a.p a.a.now (loop.i + 4) _ c.square_turn.new.acc more (omega arith)
    (added_more a.p a.a.now loop.i loop.acc _ (search rules) loop.invariant.5 c.square_turn.ensures.1)
