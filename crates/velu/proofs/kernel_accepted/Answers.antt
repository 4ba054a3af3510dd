-- `velu::kernel_accepted` meets its contract. Assumes nothing.
use Rattle.std.proofs.Common.{arith, length-take, length-take-le, sym}
use Rattle.velu.proofs.kernel_accepted.Goals as goal

pub slice_bounds-g-end : goal.slice_bounds-g-end
slice_bounds-g-end c = omega (arith, c.half_degree-count.ensures, c.args.v.ready.degree)

pub slice_bounds-kernel_in-end : goal.slice_bounds-kernel_in-end
slice_bounds-kernel_in-end c = sym (length-take-le _ _ (omega (arith, c.half_degree-count.ensures, c.args.v.ready.degree)))

pub kernel_in-requires : goal.kernel_in-requires
kernel_in-requires c =
    record {
      all_yes = c.requires.all_yes;
      g_len = (simp length-take (omega (arith, c.half_degree-count.ensures, c.args.v.ready.degree)), c.requires.room);
    }
