-- `expansion::recurs_at` meets its contract. Assumes nothing.
use Rattle.std.proofs.Common.{arith, get_or, ◌-◌}
use Rattle.sheet.specs.Values.{question}
use Rattle.expansion.proofs.Turns.{recurs_is}
use Rattle.expansion.proofs.recurs_at.Goals as goal

pub returns : goal.returns
returns c =
    let a = c.args in
    let weighted = c.weighted-u in
    recurs_is a.v.values.p (question a.v.values).A (question a.v.values).B a.h.now a.k (omega arith) a.y a.z weighted.result
    (get_or a.squares.now (a.k - 3) 0) c.negate-x.result c.weighted.result (omega arith) c.requires.multiple.0 c.requires.multiple.1
    weighted.ensures (c.requires.h_in_bounds.1 a.k c.requires.le_k.0 c.requires.le_k.1) c.negate-x.ensures c.weighted.ensures
