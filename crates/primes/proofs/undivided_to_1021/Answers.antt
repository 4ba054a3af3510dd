-- `primes::undivided_to_1021` meets its contract: the first 171 entries are the odd primes below 1024, the first 17 those below 64, and the inverses stand
-- beside them.
-- Assumes nothing.
use Rattle.std.proofs.Common.{arith, refl, ◌^◌}
use Rattle.trial.specs.Walk.{table, climbs, walk, passes}
use Rattle.trial.specs.Beside.{pairs, beside}
use Rattle.trial.specs.Runs.{run_on_decides}
use Rattle.primes.proofs.undivided_to_1021.Goals as goal

pub by_products-requires : goal.by_products-requires
unfolding climbs walk passes beside
by_products-requires c =
    record {
      le_n = (omega arith, omega arith, omega arith, omega arith);
      pairs = pairs (2 ^ 32) 64 1024 17 _ _ (table 511 1024 _ refl tt tt) (omega arith) tt;
    }

pub returns : goal.returns
unfolding climbs walk passes
returns c =
    run_on_decides c.by_products.ensures (table 511 1024 _ refl tt tt) c.requires.2 (omega arith) (omega arith)
