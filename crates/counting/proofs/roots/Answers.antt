-- `counting::roots` meets its contract. Assumes nothing.
use Rattle.std.proofs.Common.{rules}
use Rattle.counting.specs.Count.{roots_few}
use Rattle.counting.proofs.roots.Goals as goal

pub overflow_cast-result : goal.overflow_cast-result
overflow_cast-result c =
    search (rules, roots_few c.requires.0 c.requires.1, c.roots_by_size.ensures, c.requires.3)
