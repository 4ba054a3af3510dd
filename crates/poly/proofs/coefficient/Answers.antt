-- `poly::coefficient` meets its contract: the terms outside the span are 0. Assumes nothing.
use Rattle.std.proofs.Common.{arith, rules}
use Rattle.zmod.specs.Zmod.{mk}
use Rattle.poly.proofs.Sums.{coefficient_class}
use Rattle.poly.proofs.coefficient.Goals as goal

pub span-requires : goal.span-requires
span-requires c = record {
  start_lt_p = search rules;
  from_le_to = search rules;
  reduced = c.requires.reduced;
}

pub returns : goal.returns
returns c =
    let at = c.args in
    let from = c.saturating_sub-from in
    coefficient_class at.p at.a.now at.b.now at.k (mk at.p at.start) from.result c.max-to.result c.reduce.result
    c.span.result
    from.ensures (omega arith) c.span.ensures.result_value c.reduce.ensures
