-- `rules::slope_coefficient` meets its contract. Assumes nothing.
use Rattle.std.proofs.Common.{ap}
use Rattle.zmod.specs.Zmod.{mk, plus, minus}
use Rattle.zmod.specs.Residues.{residue_same}
use Rattle.rules.proofs.NumeratorSteps.{slope_at}
use Rattle.rules.proofs.slope_coefficient.Goals as goal

pub returns : goal.returns
returns c =
    let a = c.args in
    slope_at a.p a.s.now a.i c.subtract-less.result c.multiply.result
    (residue_same (ap (λ w. plus a.p (mk a.p 0) (minus a.p (mk a.p w))) c.word.ensures) c.subtract-less.ensures)
    c.multiply.ensures
