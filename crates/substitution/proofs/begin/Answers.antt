-- `substitution::begin` meets its contract. Assumes nothing.
use Rattle.std.proofs.Common.{arith, drop, length, length-drop, length-take, ◌-◌}
use Rattle.slices.specs.Stored.{part_below}
use Rattle.barrett.specs.Modulus.{prepared, prepared_positive}
use Rattle.substitution.specs.Begin.{horner_begins}
use Rattle.substitution.proofs.begin.Goals as goal

pub multiply_add-requires : goal.multiply_add-requires
multiply_add-requires c =
    let a = c.args in
    let p = a.m.p in
    let pre = c.requires in
    let d = length a.g2.now - 1 in
    let one = length-take (length a.g2.now - d) (drop d a.g2.now) in record {
      reduced = (
        pre.reduced.0,
        (c.copy.ensures p pre.reduced.1).reduced,
        part_below a.g2.now d (length a.g2.now - d) p (prepared_positive (prepared a.m)) pre.reduced.3,
        pre.reduced.2,
        pre.reduced.3 (d - 1),
      );
      lengths = (
        omega (arith, c.copy.auto, one, length-drop d a.g2.now, pre.lengths),
        omega (arith, one, length-drop d a.g2.now, pre.lengths),
        omega (arith, c.copy.auto, pre.lengths),
        omega (arith, c.copy.auto, pre.lengths),
      );
    }

pub returns : goal.returns
returns c =
    let a = c.args in
    let pre = c.requires in
    horner_begins a.m.p a.n.now a.square.now a.g2.now c.copy.new.out c.multiply_add.new.h pre.lengths.0 (omega (arith, pre.lengths.2, c.copy.auto))
    (c.copy.ensures a.m.p pre.reduced.1) c.multiply_add.ensures
