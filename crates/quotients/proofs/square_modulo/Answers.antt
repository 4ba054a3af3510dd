-- `quotients::square_modulo` meets its contract. Assumes nothing.
use Rattle.std.proofs.Common.{arith, length, length-take, suc, ◌+◌, ◌-◌}
use Rattle.series.specs.Series.{conv}
use Rattle.series.specs.Degree.{Below, below_mono, degree_mul}
use Rattle.zmod.specs.Zmod.{Zmod}
use Rattle.zmod.specs.Residues.{poly, poly_below}
use Rattle.modulo.specs.Modulo.{remainder_filled}
use Rattle.quotients.specs.Lifted.{lifted_below}
use Rattle.quotients.proofs.square_modulo.Goals as goal

pub lifted_square-requires : goal.lifted_square-requires
lifted_square-requires c =
    let long = c.requires.g_len_bound in
    record {
      reduced = (c.requires.p_bound.4, c.requires.p_bound.5, omega (arith, c.requires.p_bound.3, long.0));
      out_nonzero = (omega (arith, long.2, long.6), long.3, omega (arith, c.requires.p_bound.3, long.1));
    }

pub slice_bounds-divide-end-2 : goal.slice_bounds-divide-end-2
slice_bounds-divide-end-2 c =
    let square = c.lifted_square in
    simp length-take (omega (arith, square.auto, c.requires.g_len_bound.2, c.requires.g_len_bound.3, c.requires.p_bound.1.some))

pub divide-requires : goal.divide-requires
divide-requires c =
    let a = c.args in
    let square = c.lifted_square in record {
      p_bound = (c.requires.p_bound.0, square.ensures.reduced, c.requires.p_bound.1, c.requires.p_bound.2);
      g_len_bound = (
        omega (arith, c.requires.g_len_bound.0),
        omega (arith, square.auto, c.requires.g_len_bound.2),
        omega (arith, square.auto, c.requires.g_len_bound.2, c.requires.g_len_bound.3, c.requires.p_bound.1.some, length-take (length a.g.now) square.new.acc),
        c.requires.g_len_bound.4,
        c.requires.g_len_bound.5,
        c.requires.p_bound.3,
      );
    }

pub returns : goal.returns
returns c =
    let a = c.args in
    let p = a.m.p in
    let square = c.lifted_square in
    let d = length a.g.now - 1 in
    let few : Below (Zmod p) (suc (d - 1)) (poly p a.r.now) = poly_below p a.r.now (suc (d - 1)) (omega (arith, c.requires.p_bound.3)) in
    let product = degree_mul (Zmod p) (d - 1) (d - 1) (poly p a.r.now) (poly p a.r.now) few few in
    remainder_filled square.ensures
    (below_mono (Zmod p) (a.bit + suc (d - 1 + (d - 1))) _ _
    (omega (arith, c.requires.p_bound.5, c.requires.g_len_bound.2, c.requires.g_len_bound.6, square.auto))
    (lifted_below p a.bit (suc (d - 1 + (d - 1))) (conv (Zmod p) (poly p a.r.now) (poly p a.r.now)) product))
    c.divide.ensures
