-- `velu::less_multiple` meets its contract. Assumes nothing.
use Rattle.std.proofs.Common.{ap}
use Rattle.zmod.specs.Zmod.{mk, plus, minus}
use Rattle.zmod.specs.Residues.{residue_same}
use Rattle.velu.proofs.less_multiple.Goals as goal

pub returns : goal.returns
returns c =
    residue_same (ap (λ z. plus c.args.p (mk c.args.p c.args.a) (minus c.args.p z)) c.multiply.ensures.class)
    c.subtract.ensures
