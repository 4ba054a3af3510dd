-- `poly::derivative_coefficient` meets its contract. Assumes nothing.
use Rattle.std.proofs.Common.{rules}
use Rattle.zmod.specs.Residues.{residue_same}
use Rattle.poly.proofs.Laws.{∂-word, ∂-past}
use Rattle.poly.proofs.derivative_coefficient.Goals as goal

pub returns-then-k-a : goal.returns-then-k-a
returns-then-k-a c =
    let at = c.args in
    residue_same (∂-word at.p at.a.now at.k) c.multiply.ensures

pub returns-else-k-a : goal.returns-else-k-a
returns-else-k-a c =
    let at = c.args in
    ∂-past at.p at.a.now at.k (search rules) (search rules)
