-- `expansion::weighted` meets its contract. Assumes nothing.
use Rattle.std.proofs.Common.{ap, ◌∙◌}
use Rattle.zmod.specs.Zmod.{mk, mk_combination}
use Rattle.zmod.specs.Residues.{residue_same}
use Rattle.expansion.proofs.weighted.Goals as goal

pub returns : goal.returns
returns c =
    let a = c.args in
    residue_same (ap (mk a.p) c.combination.ensures.0 ∙ mk_combination a.p a.l a.x a.m a.y a.n a.z) c.reduce.ensures
