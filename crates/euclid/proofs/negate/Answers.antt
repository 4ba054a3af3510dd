-- `euclid::negate` meets its contract. Assumes nothing.
use Rattle.std.proofs.Common.{subst, sym}
use Rattle.zmod.specs.Zmod.{mk, minus}
use Rattle.zmod.specs.Residues.{Residue}
use Rattle.euclid.proofs.negate.Goals as goal

pub returns : goal.returns
returns c =
    let a = c.args in
    subst (Residue a.p (minus a.p (mk a.p a.x))) (sym c.from.ensures) c.negate.ensures
