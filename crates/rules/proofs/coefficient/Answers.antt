-- `rules::coefficient` meets its contract. Assumes nothing.
use Rattle.rules.proofs.NumeratorSteps.{sum_step}
use Rattle.rules.proofs.coefficient.Goals as goal

pub returns : goal.returns
returns c =
    let a = c.args in
    λ g products.
    sum_step a.v.values g a.k c.linear_part-linear.result c.first_logarithmic_part-first.result c.second_logarithmic_part-second.result
    c.reduce.result
    (c.linear_part-linear.ensures.result_value g products.square_is.same)
    (c.first_logarithmic_part-first.ensures.result_value g products.slope_is.same)
    (c.second_logarithmic_part-second.ensures.result_value g products.bend_is.same)
    c.reduce.ensures
