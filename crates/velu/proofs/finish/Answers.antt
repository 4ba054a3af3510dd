-- `velu::finish` meets its contract. Assumes nothing.
use Rattle.std.proofs.Common.{not, ap, arith, inl, inr, refl, subst, sym}
use Rattle.zmod.specs.Zmod.{Zmod}
use Rattle.zmod.specs.Residues.{poly}
use Rattle.isogeny.specs.Rules.{R1}
use Rattle.questions.specs.Tests.{refuted, shown}
use Rattle.sheet.specs.Values.{question}
use Rattle.sheet.specs.Ready.{HoldsG}
use Rattle.certifying.specs.Certified.{Certified}
use Rattle.velu.proofs.Codomains.{facts_of, is_leading, not_leading}
use Rattle.velu.proofs.finish.Goals as goal

pub returns-then-g-top-ne1 : goal.returns-then-g-top-ne1
returns-then-g-top-ne1 c =
    let a = c.args in
    (inl (refl, not_leading a.v.values a.v.ready a.g.now c.requires.holds_g c.if-g-top-ne1.true), refl)

pub nonsingular-requires : goal.nonsingular-requires
nonsingular-requires c =
    let a = c.args in
    let known = facts_of a.v.values a.v.ready a.g.now c.requires.holds_g c.if-g-top-ne1.false c.completed-w.ensures in
    (omega (arith, known.ready.prime), omega (arith, known.ready.prime))

pub returns-then-not-nonsingular : goal.returns-then-not-nonsingular
returns-then-not-nonsingular c =
    let a = c.args in
    let led = is_leading a.v.values a.v.ready a.g.now c.requires.holds_g c.if-g-top-ne1.false in
    let known = facts_of a.v.values a.v.ready a.g.now c.requires.holds_g c.if-g-top-ne1.false c.completed-w.ensures in
    (inr (led, inl (refl, λ pass. refuted c.nonsingular.ensures (ap not c.if-not-nonsingular.true) (known.curve pass))), refl)

pub new-requires : goal.new-requires
new-requires c =
    let a = c.args in
    (facts_of a.v.values a.v.ready a.g.now c.requires.holds_g c.if-g-top-ne1.false c.completed-w.ensures).ready

pub certify-requires : goal.certify-requires
certify-requires c =
    let a = c.args in
    let known = facts_of a.v.values a.v.ready a.g.now c.requires.holds_g c.if-g-top-ne1.false c.completed-w.ensures in
    record {
      holds_g = subst (λ w. HoldsG w a.g.now × R1 (Zmod w.p) (question w) (poly w.p a.g.now)) (sym c.new.ensures) (known.g_words, known.r1);
      room = c.requires.room;
    }

pub returns : goal.returns
returns c =
    let a = c.args in
    let known = facts_of a.v.values a.v.ready a.g.now c.requires.holds_g c.if-g-top-ne1.false c.completed-w.ensures in
    known.finished a.answer.now c.certify.new.answer c.certify.result (shown c.nonsingular.ensures (ap not c.if-not-nonsingular.false))
    (subst (λ w. Certified w a.g.now a.answer.now c.certify.new.answer c.certify.result) c.new.ensures c.certify.ensures)
