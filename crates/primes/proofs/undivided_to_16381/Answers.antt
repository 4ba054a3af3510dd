-- `primes::undivided_to_16381` meets its contract: one test over the whole table, and one of the inverses beside it.
-- Assumes nothing.
use Rattle.std.proofs.Common.{arith, refl}
use Rattle.trial.specs.Walk.{climbs, walk, passes}
use Rattle.trial.specs.Beside.{whole, beside}
use Rattle.primes.proofs.undivided_to_16381.Goals as goal

pub by_blocks-requires : goal.by_blocks-requires
unfolding climbs walk passes beside
by_blocks-requires c = record {
  odd = c.requires;
  whole = whole _ _ refl tt tt (omega arith) (omega arith) tt;
}
