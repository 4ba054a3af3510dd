-- `conditions::begins` meets its contract. Assumes nothing.
use Rattle.conditions.proofs.Decided.{first_no, second}
use Rattle.conditions.proofs.begins.Goals as goal

pub returns-then-multiply-subtract : goal.returns-then-multiply-subtract
returns-then-multiply-subtract c =
    let a = c.args in
    first_no a.v.values a.h.now c.multiply.result c.subtract.result c.multiply.ensures
    c.subtract.ensures
    c.if-multiply-subtract.true

pub returns : goal.returns
returns c =
    let a = c.args in
    second a.v.values a.h.now c.multiply.result c.subtract.result c.multiply.ensures c.subtract.ensures
    c.multiply-2.result c.subtract-2.result c.multiply-2.ensures c.subtract-2.ensures
    c.if-multiply-subtract.false
