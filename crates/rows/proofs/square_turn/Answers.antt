-- `rows::square_turn` meets its contract. Assumes nothing.
use Rattle.std.proofs.Common.{List, arith, drop, get_or, length, rules, take, ℕ, ◌+◌, ◌-◌, ◌<◌, ◌^◌, ◌≡◌}
use Rattle.slices.specs.Stored.{part_below}
use Rattle.rows.specs.Rows.{Four, RowsAdded, row_more, of_words, to_words}
use Rattle.rows.specs.Room.{Above, Held, held, held_le, above_more}
use Rattle.rows.specs.Square.{turn_fits, turned}
use Rattle.rows.proofs.square_turn.Goals as goal

-- what e holds with the four words in it
stands : (a e e' : List ℕ) (i w x y z : ℕ) → Above a i e → w ≡ get_or a i 0 → x ≡ get_or a (1 + i) 0 → y ≡ get_or a (2 + i) 0 → z ≡ get_or a (3 + i) 0
    → Four e (i + 3) w x y z e' → Held a i e'
stands a e e' i w x y z above first second third fourth four =
    held a e e' i above (of_words a i w x y z first second third fourth (λ w x y z. Four e (i + 3) w x y z e') four)

pub add_rows-requires : goal.add_rows-requires
add_rows-requires c =
    let a = c.args in
    let room = stands a.a.now a.e.now c.put.new.out a.i _ _ _ _ c.requires.above.0 c.word-w.ensures c.word-x.ensures c.word-y.ensures c.word-z.ensures
    c.put.ensures
    in
    let i = a.i in
    let size = c.min-len.ensures in
    let low = c.requires.p_nonzero.2 in record {
      len_in_bounds = (
        omega (arith, size),
        omega (arith, size),
        part_below c.put.new.out i (length c.put.new.out - i) (2 ^ 32) (search rules)
            (λ j. omega (arith, held_le a.a.now c.put.new.out i (a.p - 1) room (λ u. omega (arith, low u)) j)),
      );
      w_bound = (
        omega (arith, c.word-w.ensures, low i),
        omega (arith, c.word-x.ensures, low (1 + i)),
        omega (arith, c.word-y.ensures, low (2 + i)),
        omega (arith, c.word-z.ensures, low (3 + i)),
      );
      by_index = λ j l.
          to_words a.a.now i _ _ _ _ c.word-w.ensures c.word-x.ensures c.word-y.ensures c.word-z.ensures
          (λ w x y z. row_more (get_or a.acc.now (i + i + j) 0) (take (length c.put.new.out - i) (drop i c.put.new.out)) j w x y z < 2 ^ 64)
          (omega (
            arith,
            turn_fits a.p a.a.now c.put.new.out a.acc.now i c.min-len.result c.requires.i_in_bounds.0 room low
                (get_or a.acc.now (i + i + j) 0) j,
            c.requires.above.1 (i + i + j),
          ));
    }

pub returns : goal.returns
returns c =
    let a = c.args in
    let room = stands a.a.now a.e.now c.put.new.out a.i _ _ _ _ c.requires.above.0 c.word-w.ensures c.word-x.ensures c.word-y.ensures c.word-z.ensures
    c.put.ensures
    in
    let low = c.requires.p_nonzero.2 in
    let size = c.min-len.ensures in (
      above_more a.a.now c.put.new.out c.put-2.new.out a.i room c.put-2.ensures,
      turned a.p a.a.now c.put.new.out a.acc.now a.i c.min-len.result c.requires.i_in_bounds.0 room low c.add_rows.new.acc
          (omega (arith, size)) size
          (of_words a.a.now a.i _ _ _ _ c.word-w.ensures c.word-x.ensures c.word-y.ensures c.word-z.ensures
          (λ w x y z. RowsAdded a.acc.now (take (length c.put.new.out - a.i) (drop a.i c.put.new.out)) (a.i + a.i) c.min-len.result w x y z
          c.add_rows.new.acc) c.add_rows.ensures),
    )
