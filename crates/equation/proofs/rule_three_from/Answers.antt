-- `equation::rule_three_from` meets its contract. Assumes nothing.
use Rattle.equation.proofs.Words.{of_words}
use Rattle.equation.proofs.rule_three_from.Goals as goal

pub returns-then-v : goal.returns-then-v
returns-then-v c =
    let a = c.args in
    of_words a.v.values a.g.now a.n.now c.by_expansion_in.result c.requires.holds_n.1
    c.by_expansion_in.ensures
