-- `checking::numerator_and_count` meets its contract.
-- Assumes nothing.
use Rattle.std.proofs.Common.{not, ap, eq-eqb, eqb-true, sym, ◌∙◌}
use Rattle.promises.specs.Countable.{roots_ask, counted_on_sheet}
use Rattle.questions.specs.Tests.{says_no, refuted, shown}
use Rattle.checking.proofs.numerator_and_count.Goals as goal

pub returns-then-not-same_numerator : goal.returns-then-not-same_numerator
returns-then-not-same_numerator c =
    says_no (λ h. refuted c.same_numerator.ensures (ap not c.if-not-same_numerator.true) h.0)

pub roots-requires : goal.roots-requires
roots-requires c =
    let a = c.args in
    roots_ask a.v.values a.v.ready a.g.now c.requires.holds_g c.requires.holds_n.1 a.v.modulus (record { same = a.v.over })

pub returns : goal.returns
returns c =
    let a = c.args in
    let count =
    counted_on_sheet a.v.values a.v.ready a.g.now c.requires.holds_g c.requires.holds_n.1 a.v.modulus (record { same = a.v.over })
    c.roots.result c.roots.ensures in
    let numerator = shown c.same_numerator.ensures (ap not c.if-not-same_numerator.false) in (
      λ t. (numerator, sym (eqb-true c.roots.result a.abscissas t) ∙ count),
      λ h. eq-eqb c.roots.result a.abscissas (count ∙ sym h.1),
    )
