-- `poles::combine` meets its contract: the fronts hold all that is not 0.
-- Assumes nothing.
use Rattle.std.proofs.Common.{arith, drop, length-append, length-drop, length-take, length-take-le, sym, ◌-◌}
use Rattle.zmod.specs.Zmod.{mk}
use Rattle.zmod.specs.Residues.{reduced_take}
use Rattle.barrett.specs.Modulus.{prepared, prepared_positive}
use Rattle.poles.specs.Front.{front_combined}
use Rattle.poles.proofs.combine.Goals as goal

pub slice_bounds-add_multiple-end-2 : goal.slice_bounds-add_multiple-end-2
slice_bounds-add_multiple-end-2 c =
    sym (length-take-le c.args.len c.args.t.now (omega arith))

pub slice_bounds-add_multiple-end-3 : goal.slice_bounds-add_multiple-end-3
slice_bounds-add_multiple-end-3 c =
    sym (length-take-le (c.args.len - c.args.s) c.args.u.now (omega arith))

pub add_multiple-requires : goal.add_multiple-requires
add_multiple-requires c =
    let a = c.args in
    let pos = prepared_positive (prepared a.m) in record {
      lt_p = (
        c.requires.lt_p.0,
        c.requires.lt_p.1,
        c.requires.lt_p.2,
        omega (arith, length-take (a.len - a.s) a.u.now),
        omega (arith, length-take a.len a.t.now, length-take (a.len - a.s) a.u.now),
      );
      reduced = (reduced_take a.t.now pos a.len c.requires.reduced.0, reduced_take a.u.now pos (a.len - a.s) c.requires.reduced.1);
    }

pub shape_of-t : goal.shape_of-t
shape_of-t c =
    omega (
      arith,
      c.add_multiple.auto,
      length-take c.args.len c.args.t.now,
      length-append c.add_multiple.new.a (drop c.args.len c.args.t.now),
      length-drop c.args.len c.args.t.now,
    )

pub returns : goal.returns
returns c =
    let a = c.args in
    let p = a.m.p in
    front_combined p a.t.now a.u.now c.add_multiple.new.a a.len a.s (mk p a.c) (mk p a.y) (mk p a.z) (omega arith)
    (omega arith) (omega arith) c.requires.reduced.0 c.requires.below.0 c.requires.below.1 c.requires.below_2
    (omega (arith, c.add_multiple.auto)) c.add_multiple.ensures
