-- `folding::square_sums` meets its contract. Assumes nothing.
use Rattle.std.proofs.Common.{arith, length, length-set, rules, set, ◌-◌}
use Rattle.series.specs.Series.{conv}
use Rattle.zmod.specs.Zmod.{Zmod}
use Rattle.zmod.specs.Residues.{poly}
use Rattle.rows.specs.Room.{turns_fit}
use Rattle.folding.specs.Square.{moved_sums, product_sums_mono}
use Rattle.folding.proofs.square_sums.Goals as goal

pub square-requires : goal.square-requires
square-requires c =
    let pre = c.requires.p_nonzero in
    record {
      a_in_bounds = (search rules, search rules);
      p_nonzero = (pre.0, pre.1, pre.2, turns_fit (length c.args.r.now) _ c.args.p pre.1 (omega arith));
    }

pub returns : goal.returns
returns c =
    let a = c.args in
    let p = a.p in
    let f = conv (Zmod p) (poly p a.r.now) (poly p a.r.now) in
    let square = c.square in
    moved_sums p 32 a.bit (length (set a.acc.now 0 0) - a.bit) f a.acc.now square.new.acc c.requires.bit_bound.0 (omega arith)
    (omega (arith, length-set a.acc.now 0 0)) (omega (arith, length-set a.acc.now 0 0))
    (product_sums_mono (omega arith) square.ensures)
