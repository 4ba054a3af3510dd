-- `rows::behind` meets its contract. Assumes nothing.
use Rattle.std.proofs.Common.{arith, sym, ◌∙◌}
use Rattle.rows.specs.Product.{behind_low, behind_high}
use Rattle.rows.proofs.behind.Goals as goal

pub returns-then-k-lt3 : goal.returns-then-k-lt3
returns-then-k-lt3 c =
    sym (behind_low c.args.a.now c.args.k c.if-k-lt3.true)

pub returns-else-k-lt3 : goal.returns-else-k-lt3
returns-else-k-lt3 c =
    c.word.ensures ∙ behind_high c.args.a.now c.args.k (omega (arith, c.if-k-lt3.false))
