-- `sides::square_and` meets its contract. Assumes nothing.
use Rattle.std.proofs.Common.{arith, drop, length, length-take, take, ◌≡◌}
use Rattle.sides.proofs.SideSteps.{front_whole, factor_steps}
use Rattle.sides.proofs.square_and.Goals as goal

pub returns : goal.returns
returns c =
    let at = c.args in
    let pre = c.requires in
    let k = at.k in
    let t = c.square-r in
    let e = c.add_scaled in
    let l-t : length (take k t.result) ≡ k = simp length-take (omega (arith, pre)) in
    let l-e : length e.new.out ≡ k = omega (arith, e.auto) in
    front_whole at.p e.new.out (drop k t.result) k l-e
    (factor_steps at.p at.n.now at.h.now (take k t.result) e.new.out at.a
    (omega (arith, pre)) (omega (arith, pre)) (omega arith) t.ensures e.ensures)
