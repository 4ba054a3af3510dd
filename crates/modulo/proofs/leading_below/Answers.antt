-- `modulo::leading_below` meets its contract. The invariant: the digits from place i up are a number below d. Assumes nothing.
use Rattle.std.proofs.Common.{arith, div-le_self, subst, sym, ◌+◌, ◌-◌, ◌/◌, ◌<◌, ◌^◌, ◌≡◌}
use Rattle.modulo.specs.Power.{topmost}
use Rattle.modulo.proofs.leading_below.Goals as goal

pub overflow_step-i : goal.overflow_step-i
overflow_step-i c = (topmost c.args.p c.requires.1 c.requires.2).1

pub overflow_cast-more : goal.overflow_cast-more
overflow_cast-more c = omega (arith, div-le_self c.args.p (2 ^ (c.loop-i.i - 1)))

pub loop-i-init : goal.loop-i-init
loop-i-init c = omega (arith, (topmost c.args.p c.requires.1 c.requires.2).2)

pub returns-then-d-more : goal.returns-then-d-more
returns-then-d-more c =
    let place : c.loop-i.i - 1 + 1 ≡ c.loop-i.i = omega arith in (
      omega (arith, (topmost c.args.p c.requires.1 c.requires.2).0),
      subst (λ i. c.args.p / 2 ^ i < c.args.d) (sym place) c.loop-i.invariant,
    )

pub returns : goal.returns
returns c =
    let none : c.loop-i.i ≡ 0 = omega arith in
    (omega arith, subst (λ i. c.args.p / 2 ^ i < c.args.d) none c.loop-i.invariant)
