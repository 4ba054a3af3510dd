-- `primes::undivided_to_61` meets its contract: the first 17 entries are the odd primes below 64.
-- Assumes nothing.
use Rattle.std.proofs.Common.{arith, refl}
use Rattle.trial.specs.Walk.{table, climbs, walk, passes}
use Rattle.trial.specs.Runs.{run_decides}
use Rattle.primes.proofs.undivided_to_61.Goals as goal

pub by_remainders-requires : goal.by_remainders-requires
unfolding climbs walk passes
by_remainders-requires c = (omega arith, omega arith, table 31 64 _ refl tt tt)

pub returns : goal.returns
unfolding climbs walk passes
returns c = run_decides c.by_remainders.ensures (table 31 64 _ refl tt tt) (λ j l. absurd (omega arith))
