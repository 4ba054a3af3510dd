-- `field::add` meets its contract. Assumes nothing.
use Rattle.std.proofs.Common.{rules}
use Rattle.field.proofs.Laws.{add_low, add_high}
use Rattle.field.proofs.add.Goals as goal

pub returns-then-s-p : goal.returns-then-s-p
returns-then-s-p c = add_low c.args.p c.args.a c.args.b c.if-s-p.true

pub returns-else-s-p : goal.returns-else-s-p
returns-else-s-p c = add_high c.args.p c.args.a c.args.b (search rules) (search rules) c.if-s-p.false
