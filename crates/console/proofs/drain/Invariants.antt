-- The count is that of the bytes so far, modulo 4.
use Rattle.std.proofs.Common.{◌<◌}
use Rattle.console.specs.Bytes.{GivesModulo4}
use Rattle.console.proofs.drain.Given as goal

abbrev pub invariant-loop : goal.invariant-loop
invariant-loop g l = (l.count < 4) × GivesModulo4 (g.R.Read.remaining l.initial.input) (g.R.Read.remaining l.input) l.count
