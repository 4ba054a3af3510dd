-- `field::reduce` meets its contract: a remainder is below its divisor. Assumes nothing.
use Rattle.zmod.specs.Residues.{residue_mod}
use Rattle.field.proofs.reduce.Goals as goal

pub returns : goal.returns
returns c = rw c.from.ensures (residue_mod c.requires c.args.x)
