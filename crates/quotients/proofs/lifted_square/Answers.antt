-- `quotients::lifted_square` meets its contract. Assumes nothing.
use Rattle.std.proofs.Common.{arith, drop, length, length-drop, length-set, length-take, set, ◌-◌, ◌≡◌}
use Rattle.series.specs.Series.{conv}
use Rattle.zmod.specs.Zmod.{Zmod}
use Rattle.zmod.specs.Residues.{poly}
use Rattle.barrett.specs.Modulus.{prepared, prepared_positive, prepared_below}
use Rattle.rows.specs.Room.{turns_fit}
use Rattle.quotients.specs.Lifted.{lifted}
use Rattle.quotients.proofs.lifted_square.Goals as goal

pub square-requires : goal.square-requires
square-requires c =
    let a = c.args in
    let size = length-set a.out.now 0 0 in record {
      reduced = (c.requires.reduced.0, turns_fit _ _ a.m.p (omega (arith, prepared_below (prepared a.m))) (omega (arith, c.requires.reduced.2)));
      acc_len = (
        simp (length-take, length-drop) (omega (arith, size, c.requires.out_nonzero.1)),
        c.requires.out_nonzero.2,
        omega (arith, c.requires.reduced.2),
      );
    }

pub returns : goal.returns
returns c =
    let a = c.args in
    let p = a.m.p in
    let part = c.square.new.out in
    let size = length-set a.out.now 0 0 in
    let long : length part ≡ length (set a.out.now 0 0) - a.bit =
    omega (
      arith,
      c.square.auto,
      length-take (length (set a.out.now 0 0) - a.bit) (drop a.bit (set a.out.now 0 0)),
      length-drop a.bit (set a.out.now 0 0),
    ) in
    lifted p a.bit (length (set a.out.now 0 0) - a.bit) (conv (Zmod p) (poly p a.a.now) (poly p a.a.now)) a.out.now part
    (prepared_positive (prepared c.args.m)) c.requires.reduced.1 c.requires.out_nonzero.0 (omega (arith, size)) long c.square.ensures
