-- `field::subtract` meets its contract. Assumes nothing.
use Rattle.std.proofs.Common.{rules}
use Rattle.field.proofs.Laws.{subtract_low, subtract_high}
use Rattle.field.proofs.subtract.Goals as goal

pub returns-then-b-a : goal.returns-then-b-a
returns-then-b-a c = subtract_low c.args.p c.args.a c.args.b (search rules) c.if-b-a.true

pub returns-else-b-a : goal.returns-else-b-a
returns-else-b-a c = subtract_high c.args.p c.args.a c.args.b (search rules) c.if-b-a.false
