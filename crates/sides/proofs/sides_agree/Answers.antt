-- `sides::sides_agree` meets its contract. Assumes nothing.
use Rattle.std.proofs.Common.{arith}
use Rattle.sides.proofs.ComparedSides.{three}
use Rattle.sides.proofs.sides_agree.Goals as goal

pub returns : goal.returns
returns c =
    let at = c.args in
    let l = c.left_side in
    let r = c.right_side in
    let e = c.equal in
    three at.v.values at.v.ready at.g.now c.requires.holds_g.count c.requires.holds_g.reduced at.n.now l.new.out r.new.out e.result
    c.requires.holds_n.count (omega (arith, c.requires.l_len, l.auto)) (omega (arith, c.requires.l_len, r.auto)) l.ensures r.ensures
    (e.ensures at.v.values.p l.ensures.reduced r.ensures.reduced)
