-- `field::halve` meets its contract. Assumes nothing.
use Rattle.std.proofs.Common.{refl}
use Rattle.field.proofs.Table.{halve_even, halve_odd}
use Rattle.field.proofs.halve.Goals as goal

pub returns-then-y-eq0 : goal.returns-then-y-eq0
returns-then-y-eq0 c =
    halve_even c.args.p c.args.y c.requires.0 c.if-y-eq0.true

pub returns-else-y-eq0 : goal.returns-else-y-eq0
returns-else-y-eq0 c =
    halve_odd c.args.p c.args.y _ c.requires.0 c.requires.1 c.if-y-eq0.false refl
