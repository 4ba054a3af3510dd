-- `folding::times_x` meets its contract. Assumes nothing.
use Rattle.std.proofs.Common.{arith, refl}
use Rattle.folding.specs.Table.{times_x_is}
use Rattle.folding.proofs.times_x.Goals as goal

pub add_reduced-requires : goal.add_reduced-requires
add_reduced-requires c =
    let a = c.args in
    let pre = c.requires in record {
      len_bound = (omega (arith, pre.1), pre.2 _);
      reduced = ((c.shift_up.ensures a.m.p pre.2).reduced, pre.3);
    }

pub returns : goal.returns
returns c =
    let a = c.args in
    let pre = c.requires in
    let p = a.m.p in
    let shifted = c.shift_up in
    let added = c.add_reduced in
    times_x_is p _ a.n.now a.r.now shifted.new.r added.new.out pre.0 pre.1 (omega (arith, pre.1)) (omega (arith, pre.1)) refl
    (shifted.ensures p pre.2) added.ensures
