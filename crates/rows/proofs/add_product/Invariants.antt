use Rattle.std.proofs.Common.{length, ◌+◌, ◌-◌, ◌<◌, ◌≡◌}
use Rattle.rows.specs.Product.{ProductAdded}
use Rattle.rows.proofs.add_product.Given as goal

abbrev pub invariant-loop-i : goal.invariant-loop-i
invariant-loop-i l = (length l.acc ≡ length l.initial.acc) × (l.i < length l.a + 4) × ProductAdded l.p l.a l.e l.initial.acc l.i l.acc

abbrev pub decreases-loop-i : goal.decreases-loop-i
decreases-loop-i l = length l.a + 4 - l.i
