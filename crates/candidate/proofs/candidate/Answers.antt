-- `candidate::candidate` meets its contract. Assumes nothing.
use Rattle.std.proofs.Common.{arith, length, length-take, ◌-◌}
use lib.ListN.{get_or-append}
use Rattle.candidate.proofs.Only.{lent}
use Rattle.candidate.proofs.candidate.Goals as goal

pub returns : goal.returns
returns c =
    let a = c.args in
    let made = c.solution in
    lent a.v.values made.new.h made.new.s _ _ made.new.g
    (λ k l. get_or-append made.new.h _ 0 k (omega (arith, made.auto, length-take (length a.g.now - 1) a.h.now, c.requires.table_len, c.requires.v_in_bounds)))
    (λ k l. get_or-append made.new.s _ 0 k (omega (arith, made.auto, length-take (length a.g.now) a.s.now, c.requires.table_len, c.requires.v_in_bounds)))
    made.ensures
