-- `recurrence::next_h` meets its contract. Assumes nothing.
use Rattle.std.proofs.Common.{arith, get_or, ◌-◌}
use Rattle.sheet.specs.Values.{question}
use Rattle.recurrence.proofs.EquationTurns.{h_more}
use Rattle.recurrence.proofs.next_h.Goals as goal

pub returns : goal.returns
returns c =
    let a = c.args in
    let k = a.k in
    h_more a.v.values.p (question a.v.values) a.h.now k (omega arith) (omega arith) (get_or a.table.now (k - 2) 0) c.square_sum-x.result a.y a.z
    c.weighted-w.result c.divide.result (c.requires.inverses.0.inverse (k - 2) (omega arith) (omega arith)) c.square_sum-x.ensures
    c.requires.multiple.0 c.requires.multiple.1 c.weighted-w.ensures c.divide.ensures
