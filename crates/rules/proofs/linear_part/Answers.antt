-- `rules::linear_part` meets its contract. Assumes nothing.
use Rattle.std.proofs.Common.{ap, ◌*◌, ◌+◌, ◌∙◌}
use Rattle.rules.proofs.NumeratorSteps.{back_is, linear_step}
use Rattle.rules.proofs.linear_part.Goals as goal

pub returns-clause-result_value : goal.returns-clause-result_value
returns-clause-result_value c =
    let back = c.back in
    let a = c.args in
    linear_step a.v.values a.v.ready a.square.now a.k c.negate-minus_sigma.result back.result c.combination.result c.negate-minus_sigma.ensures
    (back_is a.v.values.p a.square.now 1 a.k back.result back.ensures.0 back.ensures.1)
    (c.combination.ensures.0 ∙ ap (λ w. a.v.values.degree * back.result + c.negate-minus_sigma.result * w + 0 * 0) c.word.ensures)
