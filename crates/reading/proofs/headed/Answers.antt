-- `reading::headed` meets its contract. The invariant: the kinds before stand where they belong.
-- Assumes nothing.
use Rattle.std.proofs.Common.{ap, arith, not, subst, ◌-◌}
use Rattle.questions.specs.Tests.{says_no, says_yes, refuted}
use Rattle.reading.specs.Leaf.{Stands}
use Rattle.reading.specs.Header.{asked2_stands, stands_asked2}
use Rattle.reading.proofs.InOrder.{in_order}
use Rattle.reading.proofs.headed.Goals as goal

pub loop-kind-init : goal.loop-kind-init
loop-kind-init c = λ j l. absurd (omega (arith, l))

pub returns-then-not-has_kind : goal.returns-then-not-has_kind
returns-then-not-has_kind c = says_no (λ h. refuted c.has_kind.ensures (ap not c.if-not-has_kind.true) (asked2_stands c.args.form c.args.ws.now h _))

pub returns : goal.returns
returns c =
    says_yes (stands_asked2 c.args.form c.args.ws.now λ k from below.
    subst (λ k. Stands c.args.form k c.args.ws.now) (in_order k from below)
    (c.loop-kind.invariant (k - 1) (omega (arith, c.loop-kind-test.false, from, below))))
