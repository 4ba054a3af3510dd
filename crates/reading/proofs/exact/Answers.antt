-- `reading::exact` meets its contract.
-- Assumes nothing.
use Rattle.std.proofs.Common.{ap, arith, is_some, ◌↔◌, ◌∙◌, ◌≡◌}
use Rattle.sheet.specs.Asked.{Asked6}
use Rattle.sheet.specs.Lengths.{last}
use Rattle.sheet.specs.Places.{end_placed, end_small}
use Rattle.questions.specs.Tests.{says_no}
use Rattle.reading.proofs.Down.{Rest, end_last, rest}
use Rattle.reading.proofs.exact.Goals.{After-unwrap-end}
use Rattle.reading.proofs.exact.Goals as goal

pub unwrap-end-requires : goal.unwrap-end-requires
unwrap-end-requires c = ap is_some (c.place.ensures ∙ end_placed c.args.form c.half_degree-d.result)

end_at : (c : After-unwrap-end) → c.unwrap-end.result ≡ last c.args.form c.half_degree-d.result
end_at c = end_last c.args.form c.args.ws.now c.requires.0 c.half_degree-d.ensures.0 c.place.ensures c.unwrap-end.ensures

-- question 6 by the words from the header to the end
asked : (c : After-unwrap-end) → Asked6 c.args.form c.args.ws.now ↔ Rest c.args.form c.args.ws.now c.args.v.p c.half_degree-d.result c.unwrap-end.result
asked c = rest c.args.form c.args.ws.now c.requires.0 c.half_degree-d.ensures.0 c.place.ensures c.unwrap-end.ensures

pub overflow_add-end : goal.overflow_add-end
overflow_add-end c = omega (arith, end_at c, end_small c.half_degree-d.result c.args.form, c.half_degree-d.ensures.1)

pub returns-then-ws-end : goal.returns-then-ws-end
returns-then-ws-end c =
    let six = asked (goal.at.returns-then-ws-end c).After-unwrap-end in
    says_no (λ a. omega (arith, c.if-ws-end.true, (six.0 a).count))

pub returns-then-ws-end-2 : goal.returns-then-ws-end-2
returns-then-ws-end-2 c =
    let six = asked (goal.at.returns-then-ws-end-2 c).After-unwrap-end in
    says_no (λ a. omega (arith, c.if-ws-end-2.true, (six.0 a).end_word))

pub sections-requires : goal.sections-requires
sections-requires c =
    let end = end_at (goal.at.sections-requires c).After-unwrap-end in
    (omega (arith, c.half_degree-d.ensures, c.requires.1), end, omega (arith, c.if-ws-end.false), c.requires.2, c.requires.3)

pub returns : goal.returns
returns c =
    let six = asked (goal.at.returns c).After-unwrap-end in (
      λ t. six.1 (record { count = omega (arith, c.if-ws-end.false); end_word = omega (arith, c.if-ws-end-2.false); sections = c.sections.ensures.0 t }),
      λ a. c.sections.ensures.1 (six.0 a).sections,
    )
