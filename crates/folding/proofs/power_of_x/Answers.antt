-- `folding::power_of_x` meets its contract: its room is large enough. Assumes nothing.
use Rattle.std.proofs.Common.{List, arith, length, length-take, length-take-le, replicate, rules, ℕ, ◌*◌, ◌+◌, ◌≤◌}
use Rattle.std.proofs.lemmas.List.{length-replicate}
use Rattle.folding.specs.Table.{table_fits}
use Rattle.folding.proofs.power_of_x.Goals as goal

pub overflow_mul-rows : goal.overflow_mul-rows
overflow_mul-rows c =
    omega (arith, table_fits (length c.args.r.now) (omega arith))

pub slice_bounds-t-end : goal.slice_bounds-t-end
slice_bounds-t-end c =
    search (rules, table_fits (length c.args.r.now) (omega arith))

pub slice_bounds-power_in-end-3 : goal.slice_bounds-power_in-end-3
slice_bounds-power_in-end-3 c =
    simp length-take (omega (arith, table_fits (length c.args.r.now) (omega arith)))

pub power_in-requires : goal.power_in-requires
power_in-requires c =
    let d = length c.args.r.now in
    let t : List ℕ = replicate 270 0 in
    let fits : d * (d + 3) ≤ 270 = table_fits d (omega arith) in record {
      p_bound = c.requires.p_bound;
      r_len = (
        c.requires.r_len,
        simp (length-take, length-replicate) (omega (arith, c.requires)),
        simp (length-take, length-replicate) (omega (arith, c.requires)),
        length-take-le (d * (d + 3)) t (omega (arith, fits)),
        simp (length-take, length-replicate) (omega (arith, c.requires)),
        simp (length-take, length-replicate) (omega (arith, c.requires)),
      );
    }
