-- `rules::rule_one` meets its contract. Assumes nothing.
use Rattle.std.proofs.Common.{arith}
use Rattle.rules.proofs.FirstRule.{one_no, one_last}
use Rattle.rules.proofs.rule_one.Goals as goal

pub returns-then-g-d-ne1 : goal.returns-then-g-d-ne1
returns-then-g-d-ne1 c =
    let at = c.args in
    let pre = c.requires in
    one_no at.v.values at.v.ready at.g.now pre.count pre.reduced _ (omega (arith, pre)) c.if-g-d-ne1.true

pub returns : goal.returns
returns c =
    let at = c.args in
    let pre = c.requires in
    one_last at.v.values at.v.ready at.g.now pre.count pre.reduced _ c.minus_twice.result (omega (arith, pre))
    c.if-g-d-ne1.false c.minus_twice.ensures
