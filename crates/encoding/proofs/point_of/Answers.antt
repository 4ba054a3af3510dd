-- `encoding::point_of` meets its contract. Assumes nothing.
use Rattle.std.proofs.Common.{arith, le-ltb, lt-ltb, ◌^◌}
use Rattle.encoding.proofs.point_of.Goals as goal

pub returns-then-k-eq-INFINITY : goal.returns-then-k-eq-INFINITY
returns-then-k-eq-INFINITY c = rw (le-ltb c.args.k (2 ^ 56) (omega arith))

pub returns : goal.returns
returns c = rw (lt-ltb c.args.k (2 ^ 56) (omega arith))
