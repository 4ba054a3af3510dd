-- `reading::nonsingular` meets its contract.
-- Assumes nothing.
use Rattle.reading.proofs.Singular.{nonzero}
use Rattle.reading.proofs.nonsingular.Goals as goal

pub returns : goal.returns
returns c = nonzero c.discriminant_of.ensures
