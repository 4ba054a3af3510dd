-- `composing::compose_passed` meets its contract. Assumes nothing.
use Rattle.std.proofs.Common.{not, ap, refl}
use Rattle.questions.specs.Tests.{refuted, shown}
use Rattle.composing.proofs.Sheets.{unmet, disallowed, joined_read, answered_read}
use Rattle.composing.proofs.compose_passed.Goals as goal

pub returns-then-not-meet : goal.returns-then-not-meet
returns-then-not-meet c =
    let a = c.args in
    let yes = c.requires.all_yes in
    let yes₂ = c.requires.all_yes_2 in (
      unmet a.first.now a.second.now a.answer.now c.requires.room yes.0 yes₂.0 a.v.values a.w.values yes.1 yes₂.1
          (refuted c.meet.ensures (ap not c.if-not-meet.true)),
      refl,
    )

pub returns-then-not-product_allowed : goal.returns-then-not-product_allowed
returns-then-not-product_allowed c =
    let a = c.args in
    let yes = c.requires.all_yes in
    let yes₂ = c.requires.all_yes_2 in (
      disallowed a.first.now a.second.now a.answer.now c.requires.room yes.0 yes₂.0 a.v.values a.w.values yes.1 yes₂.1
          (shown c.meet.ensures (ap not c.if-not-meet.false)) (refuted c.product_allowed.ensures (ap not c.if-not-product_allowed.true)),
      refl,
    )

pub compose_joined-requires : goal.compose_joined-requires
compose_joined-requires c =
    let a = c.args in
    let yes = c.requires.all_yes in
    let yes₂ = c.requires.all_yes_2 in
    record {
      joined = joined_read a.first.now a.second.now a.answer.now c.requires.room yes.0 yes₂.0 a.v.values a.w.values yes.1 yes₂.1
          (shown c.meet.ensures (ap not c.if-not-meet.false)) (shown c.product_allowed.ensures (ap not c.if-not-product_allowed.false))
          a.g1.now a.n1.now a.g2.now c.requires.g1_value.0 c.requires.g1_value.1 c.requires.g1_value.2;
      room = c.requires.room;
    }

pub returns : goal.returns
returns c =
    let a = c.args in
    let yes = c.requires.all_yes in
    let yes₂ = c.requires.all_yes_2 in
    answered_read a.first.now a.second.now a.answer.now c.requires.room yes.0 yes₂.0 a.v.values a.w.values yes.1 yes₂.1
    (shown c.meet.ensures (ap not c.if-not-meet.false)) (shown c.product_allowed.ensures (ap not c.if-not-product_allowed.false))
    a.g1.now a.n1.now a.g2.now c.requires.g1_value.0 c.requires.g1_value.1 c.requires.g1_value.2
    _ c.compose_joined.result c.compose_joined.ensures
