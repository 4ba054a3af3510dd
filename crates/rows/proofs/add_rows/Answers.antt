-- `rows::add_rows` meets its contract. Assumes nothing.
use Rattle.std.proofs.Common.{arith, drop, length, length-drop, length-take, rules, subst, sym, ◌+◌, ◌-◌, ◌<◌, ◌^◌}
use Rattle.slices.specs.Stored.{part_below}
use Rattle.rows.specs.Rows.{rows_are, rows_added}
use Rattle.rows.proofs.add_rows.Goals as goal

pub four-requires : goal.four-requires
four-requires c =
    let a = c.args in
    let small = c.requires.len_in_bounds.2 in record {
      out_in_bounds = (search rules, search rules, search rules, search rules);
      reduced = (
        part_below a.e.now 3 (length a.e.now - 3) (2 ^ 32) (search rules) small,
        part_below a.e.now 2 (length a.e.now - 2) (2 ^ 32) (search rules) small,
        part_below a.e.now 1 (length a.e.now - 1) (2 ^ 32) (search rules) small,
        small,
      );
      w_bound = c.requires.w_bound;
      by_index = λ j l. subst (λ n. n < 2 ^ 64) (sym (rows_are a.acc.now a.e.now a.at a.len (a.at + a.len - a.at) a.w a.x a.y a.z
          (omega arith)
          (omega arith) j (omega (arith, length-take (a.at + a.len - a.at) (drop a.at a.acc.now))))) (c.requires.by_index j (omega (
            arith,
            length-take (a.at + a.len - a.at) (drop a.at a.acc.now),
          )));
    }

pub returns : goal.returns
returns c =
    let a = c.args in
    let four = c.four in
    rows_added a.acc.now a.e.now a.at a.len (a.at + a.len - a.at) a.w a.x a.y a.z (omega arith) (omega arith) four.new.out
    (omega arith) (omega (arith, length-take (a.at + a.len - a.at) (drop a.at a.acc.now), length-drop a.at a.acc.now)) (λ j l. four.ensures
    j (omega (arith, length-take (a.at + a.len - a.at) (drop a.at a.acc.now), length-drop a.at a.acc.now)))
