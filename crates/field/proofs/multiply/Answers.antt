-- `field::multiply` meets its contract. Assumes nothing.
use Rattle.std.proofs.Common.{ap, ◌∙◌}
use Rattle.zmod.specs.Zmod.{mk, mk_mul}
use Rattle.zmod.specs.Residues.{residue_same}
use Rattle.field.proofs.multiply.Goals as goal

pub returns : goal.returns
returns c =
    let at = c.args in
    residue_same (ap (mk at.p) c.product.ensures ∙ mk_mul at.p at.a at.b) c.reduce.ensures
