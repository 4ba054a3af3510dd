-- `checking::same_numerator` meets its contract. Assumes nothing.
use Rattle.std.proofs.Common.{arith, length-take, length-take-le, sym}
use Rattle.checking.proofs.same_numerator.Goals as goal

pub slice_bounds-same_numerator_in-end : goal.slice_bounds-same_numerator_in-end
slice_bounds-same_numerator_in-end c = sym (length-take-le _ _ (omega arith))

pub same_numerator_in-requires : goal.same_numerator_in-requires
same_numerator_in-requires c =
    record {
      holds_g = c.requires.holds_g;
      holds_n = (c.requires.holds_n, simp length-take (omega (arith, c.args.v.ready.degree, c.requires.holds_n.count)));
    }
