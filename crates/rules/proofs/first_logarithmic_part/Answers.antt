-- `rules::first_logarithmic_part` meets its contract. Assumes nothing.
use Rattle.std.proofs.Common.{ap, ◌*◌, ◌+◌, ◌∙◌}
use Rattle.rules.proofs.NumeratorSteps.{back_is, first_step}
use Rattle.rules.proofs.first_logarithmic_part.Goals as goal

pub returns-clause-result_value : goal.returns-clause-result_value
returns-clause-result_value c =
    let back = c.back in
    let a = c.args in
    first_step a.v.values a.slope.now a.k back.result c.combination.result
    (back_is a.v.values.p a.slope.now 2 a.k back.result back.ensures.0 back.ensures.1)
    (c.combination.ensures.0 ∙ ap (λ w. 3 * back.result + a.v.values.a * w + 0 * 0) c.word.ensures)
