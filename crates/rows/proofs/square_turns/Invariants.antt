use Rattle.std.proofs.Common.{length, ◌%◌, ◌*◌, ◌-◌, ◌≡◌, ◌≤◌}
use Rattle.rows.specs.Room.{Above, turns}
use Rattle.rows.specs.Square.{Added}
use Rattle.rows.proofs.square_turns.Given as goal

abbrev pub invariant-loop-i : goal.invariant-loop-i
invariant-loop-i l =
    (length l.e ≡ length l.initial.e) × (length l.acc ≡ length l.initial.acc) × (l.i % 4 ≡ 0) × (2 * l.i ≤ 8 * turns (length l.a) (length l.initial.acc))
    × Above l.a l.i l.e × Added l.p l.a l.i l.acc

abbrev pub decreases-loop-i : goal.decreases-loop-i
decreases-loop-i l = length l.a - l.i
