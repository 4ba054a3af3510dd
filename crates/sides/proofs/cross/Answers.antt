-- `sides::cross` meets its contract. Assumes nothing.
use Rattle.std.proofs.Common.{arith, ◌-◌}
use Rattle.rules.specs.Words.{mk_less}
use Rattle.sides.proofs.SideSteps.{cross_steps}
use Rattle.sides.proofs.cross.Goals as goal

pub returns : goal.returns
returns c =
    let at = c.args in
    let pre = c.requires in
    let o = c.product in
    let s = c.scale in
    let e = c.add_product in
    cross_steps at.p at.g.now at.n.now at.dg.now at.dn.now o.new.out s.new.out e.new.out (at.p - 2)
    (mk_less {p = at.p} 2 (omega (arith, pre)) (omega (arith, pre))) (omega (arith, s.auto)) (omega (arith, e.auto)) o.ensures s.ensures e.ensures
