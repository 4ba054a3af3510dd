-- `quotients::prepare` meets its contract. Assumes nothing.
use Rattle.std.proofs.Common.{arith, subst}
use Rattle.zmod.specs.Zmod.{Zmod}
use Rattle.zmod.specs.Residues.{poly}
use Rattle.quotients.specs.Quotient.{InverseTo}
use Rattle.quotients.specs.Division.{backwards_reduced, backwards_one, made_ready}
use Rattle.quotients.proofs.prepare.Goals as goal

pub invert-requires : goal.invert-requires
invert-requires c =
    let a = c.args in
    let pre = c.requires in
    let top = c.reverse in (
      pre.0,
      pre.1,
      backwards_reduced pre.2.reduced top.ensures,
      backwards_one a.p a.g.now top.new.out pre.0 pre.2
          top.ensures,
      omega (arith, pre.5, pre.2.some),
      omega (arith, pre.5, pre.3),
    )

pub put_behind-requires : goal.put_behind-requires
put_behind-requires c =
    omega (arith, c.requires.5, c.requires.6, c.invert.auto)

pub negated-requires : goal.negated-requires
negated-requires c =
    (omega (arith, c.requires.5, c.invert.auto), c.requires.2.reduced)

pub put_behind-requires-2 : goal.put_behind-requires-2
put_behind-requires-2 c =
    omega (arith, c.requires.5, c.requires.7, c.invert.auto, c.negated.auto)

pub returns : goal.returns
returns c =
    let a = c.args in
    let pre = c.requires in
    let p = a.p in
    let top = c.reverse in
    let q = c.invert in
    let t = c.put_behind in
    let q' = c.negated in
    let n = c.put_behind-2 in
    made_ready p a.g.now top.new.out q.new.t q'.new.out t.new.e n.new.e pre.2 top.ensures
    (subst (λ k. InverseTo (Zmod p) k (poly p top.new.out) (poly p q.new.t)) pre.5 q.ensures.1) q.ensures.0 q'.ensures
    (omega (arith, pre.5, q.auto, q'.auto)) (omega (arith, pre.6, t.auto)) (omega (arith, pre.7, n.auto)) t.ensures.0 t.ensures.1
    n.ensures.0 n.ensures.1
