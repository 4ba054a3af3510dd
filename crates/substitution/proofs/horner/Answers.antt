-- `substitution::horner` meets its contract. The invariant: h and den have what the topmost t + 1 coefficients of g₂ make. Assumes nothing.
use Rattle.std.proofs.Common.{arith, get_or, length, length-take-le, refl, subst, sym, ◌*◌, ◌+◌, ◌-◌, ◌∙◌, ◌≤◌}
use lib.Seq.{length_front}
use Rattle.zmod.specs.Zmod.{Zmod, mk}
use Rattle.zmod.specs.Residues.{poly, poly_at, poly_past, poly_below, Residues}
use Rattle.barrett.specs.Modulus.{prepared, prepared_positive}
use Rattle.composition.specs.Substitution.{homogenize}
use Rattle.substitution.specs.Horner.{dropped}
use Rattle.substitution.specs.Turns.{turn_fits, turns_start, turns_more, turns_all}
use Rattle.substitution.proofs.horner.Goals as goal

pub loop-t-init : goal.loop-t-init
loop-t-init c =
    let a = c.args in
    let p = a.m.p in
    let pre = c.requires.lengths in
    let begin = c.begin in (
      refl,
      refl,
      refl,
      refl,
      turns_start p (poly p a.n.now) (poly p a.square.now) (poly p a.g2.now) (length a.square.now) (length a.g2.now - 1) pre.0
          (poly_below p a.n.now _ (omega (arith, pre.1))) (poly_past p a.square.now) begin.new.h c.copy.new.out
          (subst (λ k. Residues p (homogenize (Zmod p) (poly p a.n.now) (poly p a.square.now) 1 (dropped (Zmod p) k (poly p a.g2.now))) begin.new.h)
          (omega arith) begin.ensures)
          (c.copy.ensures p c.requires.reduced.2),
    )

pub loop-t-preserved : goal.loop-t-preserved
loop-t-preserved c =
    let a = c.args in
    let p = a.m.p in
    let pre = c.requires.lengths in
    let loop = c.loop-t in
    let inv = loop.invariant in
    let step = c.step in
    let l = length a.square.now in
    let k = (loop.t + 1) * l + 1 in
    let d = (loop.t + 1) * (l - 1) + 1 in
    let room = turn_fits l (length a.g2.now - 1) loop.t pre.0 c.loop-t-test.true in
    let long_h : k ≤ length loop.h = omega (arith, room, pre.3, inv.0, c.begin.auto) in
    let long_den : d ≤ length loop.den = omega (arith, room, pre.3, pre.5, inv.1, c.copy.auto) in (
      length_front loop.h step.new.h k (omega (arith, step.auto)) ∙ inv.0,
      length_front loop.den step.new.den d (omega (arith, step.auto)) ∙ inv.1,
      length_front loop.e step.new.e (k + 3) (omega (arith, step.auto)) ∙ inv.2,
      length_front loop.acc step.new.acc k (omega (arith, step.auto)) ∙ inv.3,
      turns_more p (poly p a.n.now) (poly p a.square.now) (poly p a.g2.now) l (length a.g2.now - 1) pre.0 (poly_below p a.n.now _ (omega (arith, pre.1)))
          (poly_past p a.square.now) loop.t k d loop.h loop.den step.new.h step.new.den (mk p (get_or a.g2.now (length a.g2.now - 1 - 1 - loop.t) 0))
          (prepared_positive (prepared a.m)) c.loop-t-test.true refl refl long_h long_den (omega (arith, step.auto, length-take-le k loop.h long_h))
          (omega (arith, step.auto, length-take-le d loop.den long_den)) (sym (poly_at p a.g2.now _)) inv.4 step.ensures.denominator step.ensures.numerator,
    )

pub returns : goal.returns
returns c =
    let a = c.args in
    let p = a.m.p in
    let pre = c.requires.lengths in
    let loop = c.loop-t in
    turns_all p (poly p a.n.now) (poly p a.square.now) (poly p a.g2.now) (length a.square.now) (length a.g2.now - 1) pre.0
    (poly_below p a.n.now _ (omega (arith, pre.1))) (poly_past p a.square.now) loop.t loop.h loop.den (omega arith) loop.invariant.4
