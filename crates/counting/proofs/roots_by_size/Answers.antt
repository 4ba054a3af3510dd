-- `counting::roots_by_size` meets its contract. Assumes nothing.
use Rattle.std.proofs.Common.{arith, sym}
use Rattle.counting.specs.Count.{roots_one}
use Rattle.counting.proofs.roots_by_size.Goals as goal

pub returns-then-g-eq2 : goal.returns-then-g-eq2
returns-then-g-eq2 c =
    sym (roots_one c.requires.0 c.requires.1 (omega arith))
