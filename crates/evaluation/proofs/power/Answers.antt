-- `evaluation::power` meets its contract. Assumes nothing.
use Rattle.std.proofs.Common.{arith, rules, subst, sym, ◌-◌, ◌/◌}
use Rattle.evaluation.proofs.Words.{Power, power_zero, power_one, power_sum}
use Rattle.evaluation.proofs.power.Goals as goal

pub returns-then-i-eq0 : goal.returns-then-i-eq0
returns-then-i-eq0 c =
    subst (λ i. Power c.args.p c.args.x i 1) (sym c.if-i-eq0.true) (power_zero c.args.p c.args.x (search rules))

pub returns-then-i-eq1 : goal.returns-then-i-eq1
returns-then-i-eq1 c =
    subst (λ i. Power c.args.p c.args.x i c.args.x) (sym c.if-i-eq1.true)
    (power_one c.args.p c.args.x (search rules))

pub returns : goal.returns
returns c =
    let i = c.args.i in
    power_sum c.args.p c.args.x i (i / 2) (i - i / 2) (omega arith) (c.requires.filled (i / 2) (omega arith))
    (c.requires.filled (i - i / 2) (omega arith)) c.multiply.ensures
