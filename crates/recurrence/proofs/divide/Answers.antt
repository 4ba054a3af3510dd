-- `recurrence::divide` meets its contract. Assumes nothing.
use Rattle.std.proofs.Common.{get_or, rules}
use Rattle.recurrence.proofs.EquationTurns.{quotient_is}
use Rattle.recurrence.proofs.divide.Goals as goal

pub returns : goal.returns
returns c =
    let a = c.args in
    quotient_is a.p a.k a.y (get_or a.table.now a.k 0) c.multiply.result
    (c.requires.3.inverse a.k (search rules) (search rules)) c.multiply.ensures
