-- `evaluation::tables` meets its contract. Assumes nothing.
use Rattle.std.proofs.Common.{arith, rules}
use Rattle.zmod.specs.Zmod.{mk}
use Rattle.evaluation.proofs.tables.Goals as goal

pub fill_slopes-requires : goal.fill_slopes-requires
fill_slopes-requires c =
    (search rules, search rules, λ i. omega (arith, c.fill_powers.ensures.reduced i))

pub returns : goal.returns
returns c =
    let slopes = c.fill_slopes in
    let at = c.args in
    record {
      powers_are = c.fill_powers.ensures;
      slopes_are = slopes.ensures.by_index at.p (mk at.p at.x) c.fill_powers.ensures;
      powers_low = λ i. omega (arith, c.fill_powers.ensures.reduced i);
      slopes_low = slopes.ensures.low;
    }
