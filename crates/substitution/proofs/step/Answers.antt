-- `substitution::step` meets its contract. Assumes nothing.
use Rattle.std.proofs.Common.{arith, length, length-take-le, ◌+◌}
use lib.Seq.{length_front}
use Rattle.substitution.proofs.step.Goals as goal

pub multiply-requires : goal.multiply-requires
multiply-requires c =
    let a = c.args in
    let pre = c.requires in
    let d = length a.den.now in
    let size_acc = length-take-le d a.acc.now (omega (arith, pre.lengths)) in
    let size_e = length-take-le (d + 3) a.e.now (omega (arith, pre.lengths)) in record {
      reduced = (pre.reduced.0, pre.reduced.2, pre.reduced.4);
      lengths = (pre.lengths.0, omega (arith, pre.lengths), size_acc, omega (arith, size_e));
    }

pub multiply_add-requires : goal.multiply_add-requires
multiply_add-requires c =
    let a = c.args in
    let pre = c.requires in
    let d = length a.den.now in
    let product = c.multiply in
    let same_acc = length_front a.acc.now product.new.acc d (omega (arith, product.auto)) in
    let same_e = length_front a.e.now product.new.e (d + 3) (omega (arith, product.auto)) in record {
      reduced = (pre.reduced.0, pre.reduced.1, pre.reduced.3, product.ensures.reduced, pre.reduced.5);
      lengths = (pre.lengths.1, omega (arith, pre.lengths), omega (arith, same_acc, pre.lengths), omega (arith, same_e, pre.lengths));
    }

pub returns : goal.returns
returns c =
    record { denominator = c.multiply.ensures; numerator = c.multiply_add.ensures }
