-- `candidate::next_c` meets its contract. Assumes nothing.
use Rattle.std.proofs.Common.{arith, get_or, ◌*◌}
use Rattle.candidate.proofs.EquationTurns.{c_more}
use Rattle.candidate.proofs.next_c.Goals as goal

pub returns : goal.returns
returns c =
    let a = c.args in
    let k = a.k in
    c_more a.v.values.p a.s.now a.c.now k (omega arith) (get_or a.table.now (2 * k) 0) c.negate-t.result c.multiply-u.result
    c.far_sum.result c.weighted.result (omega arith) (c.requires.inverses.0.inverse (2 * k) (omega arith) (omega arith))
    c.negate-t.ensures c.multiply-u.ensures c.far_sum.ensures c.weighted.ensures
