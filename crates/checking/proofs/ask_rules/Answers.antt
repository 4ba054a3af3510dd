-- `checking::ask_rules` meets its contract. Assumes nothing.
use Rattle.std.proofs.Common.{not, ap}
use Rattle.questions.specs.Numbered.{first_no}
use Rattle.questions.specs.Tests.{refuted, shown}
use Rattle.promises.specs.Asked.{rules_ask}
use Rattle.checking.proofs.ask_rules.Goals as goal

pub returns-then-not-rule_one : goal.returns-then-not-rule_one
returns-then-not-rule_one c =
    let a = c.args in
    let asks = rules_ask a.v.values a.g.now a.n.now a.abscissas in
    first_no asks 8 tt tt (refuted c.rule_one.ensures (ap not c.if-not-rule_one.true))

pub numerator_and_count-requires : goal.numerator_and_count-requires
numerator_and_count-requires c =
    let eight = shown c.rule_one.ensures (ap not c.if-not-rule_one.false) in
    record {
      holds_g = c.requires.holds_g;
      holds_n = (c.requires.holds_n, eight);
    }

pub returns-then-not-numerator_and_count : goal.returns-then-not-numerator_and_count
returns-then-not-numerator_and_count c =
    let a = c.args in
    let eight = shown c.rule_one.ensures (ap not c.if-not-rule_one.false) in
    first_no (rules_ask a.v.values a.g.now a.n.now a.abscissas) 9 tt (eight, tt)
    (refuted c.numerator_and_count.ensures (ap not c.if-not-numerator_and_count.true))

pub rule_three-requires : goal.rule_three-requires
rule_three-requires c =
    let eight = shown c.rule_one.ensures (ap not c.if-not-rule_one.false) in
    let nine = shown c.numerator_and_count.ensures (ap not c.if-not-numerator_and_count.false) in
    record {
      holds_g = (c.requires.holds_g, eight);
      holds_n = (c.requires.holds_n, nine.0);
    }

pub returns-then-not-rule_three : goal.returns-then-not-rule_three
returns-then-not-rule_three c =
    let a = c.args in
    let eight = shown c.rule_one.ensures (ap not c.if-not-rule_one.false) in
    let nine = shown c.numerator_and_count.ensures (ap not c.if-not-numerator_and_count.false) in
    first_no (rules_ask a.v.values a.g.now a.n.now a.abscissas) 10 tt (eight, (nine, tt)) (refuted c.rule_three.ensures (ap not c.if-not-rule_three.true))

pub returns : goal.returns
returns c =
    let eight = shown c.rule_one.ensures (ap not c.if-not-rule_one.false) in
    let nine = shown c.numerator_and_count.ensures (ap not c.if-not-numerator_and_count.false) in
    ((eight, (nine, (shown c.rule_three.ensures (ap not c.if-not-rule_three.false), tt))), tt)
