-- `expansion::square_sum` meets its contract. Assumes nothing.
use Rattle.std.proofs.Common.{arith, ◌-◌}
use Rattle.expansion.specs.Parts.{part_reduced}
use Rattle.expansion.proofs.Turns.{squares}
use Rattle.expansion.proofs.square_sum.Goals as goal

pub square_coefficient-requires : goal.square_coefficient-requires
square_coefficient-requires c =
    let a = c.args in
    (omega arith, omega arith, omega arith, part_reduced a.p a.h.now 1 (a.k - 1 - 1) (omega arith) (λ i l. c.requires.5 i (omega arith)))

pub returns : goal.returns
returns c =
    let a = c.args in
    squares a.p a.h.now a.k c.square_coefficient.result (omega arith) c.square_coefficient.ensures
