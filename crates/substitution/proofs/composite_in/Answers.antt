-- `substitution::composite_in` meets its contract. Assumes nothing.
use Rattle.std.proofs.Common.{arith, length, ◌*◌, ◌+◌, ◌≡◌}
use Rattle.substitution.specs.Sizes.{out_size}
use Rattle.substitution.specs.Composite.{composed}
use Rattle.substitution.proofs.composite_in.Goals as goal

pub returns : goal.returns
returns c =
    let a = c.args in
    let pre = c.requires in
    let p = a.m.p in
    let square = c.square.new.out in
    let twice : length square + 1 ≡ 2 * length a.g1.now = omega (arith, c.square.auto, pre.square_len.0) in
    let size = out_size (length a.g1.now) (length a.g2.now) (length square) (length a.out.now) twice pre.in_bounds.3 in
    composed p a.n.now a.g1.now a.g2.now square c.horner.new.h c.multiply.new.h pre.in_bounds.0 pre.in_bounds.2 twice
    c.square.ensures (omega (arith, size, c.horner.auto, pre.in_bounds.0)) c.horner.ensures c.multiply.ensures
