-- `field::negate` meets its contract. Assumes nothing.
use Rattle.field.proofs.Laws.{negate_zero, negate_more}
use Rattle.field.proofs.negate.Goals as goal

pub returns-then-a-eq0 : goal.returns-then-a-eq0
returns-then-a-eq0 c = negate_zero c.args.p c.args.a c.requires c.if-a-eq0.true

pub returns-else-a-eq0 : goal.returns-else-a-eq0
returns-else-a-eq0 c = negate_more c.args.p c.args.a c.requires c.if-a-eq0.false
