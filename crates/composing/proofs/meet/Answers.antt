-- `composing::meet` meets its contract. Assumes nothing.
use Rattle.std.proofs.Common.{eq-eqb, eqb-true}
use Rattle.questions.specs.Tests.{says_no}
use Rattle.composing.proofs.meet.Goals as goal

pub returns-then-v-w : goal.returns-then-v-w
returns-then-v-w c = says_no (λ h. c.if-v-w.true h.p)

pub returns-then-v-w-2 : goal.returns-then-v-w-2
returns-then-v-w-2 c = says_no (λ h. c.if-v-w-2.true h.a)

pub returns : goal.returns
returns c =
    (λ e. record { p = c.if-v-w.false; a = c.if-v-w-2.false; b = eqb-true _ _ e }, λ h. eq-eqb _ _ h.b)
