-- `rules::bend_coefficient` meets its contract. Assumes nothing.
use Rattle.std.proofs.Common.{ap₂, ◌*◌, ◌+◌, ◌∙◌}
use Rattle.rules.proofs.NumeratorSteps.{bend_at}
use Rattle.rules.proofs.bend_coefficient.Goals as goal

pub returns : goal.returns
returns c =
    let a = c.args in
    bend_at a.p a.s.now a.t.now a.i c.combination.result c.reduce.result
    (c.combination.ensures.0 ∙ ap₂ (λ y z. 2 * (a.i + 1) * y + 8 * z + 0 * 0) c.word-above.ensures c.word.ensures)
    c.reduce.ensures
