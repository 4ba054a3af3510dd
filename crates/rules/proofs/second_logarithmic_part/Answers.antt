-- `rules::second_logarithmic_part` meets its contract. Assumes nothing.
use Rattle.std.proofs.Common.{ap, ◌*◌, ◌+◌, ◌∙◌}
use Rattle.rules.proofs.NumeratorSteps.{back_is, second_step}
use Rattle.rules.proofs.second_logarithmic_part.Goals as goal

pub returns-clause-result_value : goal.returns-clause-result_value
returns-clause-result_value c =
    let b₁ = c.back-2 in
    let b₃ = c.back in
    let a = c.args in
    let p = a.v.values.p in
    second_step a.v.values a.bend.now a.k b₃.result b₁.result c.combination.result
    (back_is p a.bend.now 3 a.k b₃.result b₃.ensures.0 b₃.ensures.1)
    (back_is p a.bend.now 1 a.k b₁.result b₁.ensures.0 b₁.ensures.1)
    (c.combination.ensures.0 ∙ ap (λ w. 1 * b₃.result + a.v.values.a * b₁.result + a.v.values.b * w) c.word.ensures)
