-- `conditions::by_expansion_in` meets its contract. Assumes nothing.
use Rattle.std.proofs.Common.{arith}
use Rattle.conditions.proofs.Decided.{short_known, decided}
use Rattle.conditions.proofs.by_expansion_in.Goals as goal

pub conditions-requires-clause-known_le_degree : goal.conditions-requires-clause-known_le_degree
conditions-requires-clause-known_le_degree c =
    let a = c.args in
    let sums = c.power_sums in
    let h = c.expansion in (
      omega (arith, c.requires.known_bound.0),
      short_known a.v.values a.v.ready a.g.now sums.new.s h.new.h (omega (arith, c.requires.degree_in_bounds, sums.auto))
          (omega (arith, c.requires.h_len, h.auto)) sums.ensures h.ensures a.s.now a.h.now a.known c.requires.known_bound.0 c.requires.known_bound.1,
    )

pub returns : goal.returns
returns c =
    let a = c.args in
    let sums = c.power_sums in
    let h = c.expansion in
    decided a.v.values a.v.ready a.g.now sums.new.s h.new.h (omega (arith, c.requires.degree_in_bounds, sums.auto))
    (omega (arith, c.requires.h_len, h.auto))
    sums.ensures h.ensures c.requires.large c.requires.holds_g.1 c.conditions.result c.conditions.ensures
