use Rattle.std.proofs.Common.{◌/◌, ◌<◌, ◌^◌}
use Rattle.modulo.proofs.leading_below.Given as goal

abbrev pub invariant-loop-i : goal.invariant-loop-i
invariant-loop-i l = l.p / 2 ^ l.i < l.d
