-- `sides::right_side` meets its contract. Assumes nothing.
use Rattle.std.proofs.Common.{arith, length, length-take, take, ◌*◌, ◌+◌, ◌-◌}
use Rattle.sides.proofs.SideSteps.{right_steps}
use Rattle.sides.proofs.right_side.Goals as goal

pub returns : goal.returns
returns c =
    let at = c.args in
    let d = length at.g.now - 1 in
    let s = c.square-s in
    let h = c.square-h in
    let t = c.square_and-t in
    let o = c.add_terms in
    right_steps at.v.values at.g.now at.n.now (take (2 * d + 1) s.result) (take (4 * d + 1) h.result) (take (4 * d + 3) t.result)
    o.new.out
    (simp length-take (omega (arith, c.requires.holds_g))) (simp length-take (omega (arith, c.requires.holds_g))) s.ensures h.ensures t.ensures o.ensures
