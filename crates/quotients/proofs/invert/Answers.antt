-- `quotients::invert` meets its contract. The invariant: the words before k are those of the inverse, and zeros follow. Assumes nothing.
use Rattle.std.proofs.Common.{ap, arith, length, length-set, refl, rules, subst, sym, ◌∙◌}
use Rattle.ring.specs.Ring
use Rattle.zmod.specs.Zmod.{Zmod, mk}
use Rattle.zmod.specs.Residues.{poly, poly_at, residue_same}
use Rattle.quotients.specs.Quotient.{Inverted, inverted_first, inverted_more}
use Rattle.quotients.proofs.invert.Goals as goal

pub loop-k-init : goal.loop-k-init
loop-k-init c =
    let a = c.args in
    let pre = c.requires in
    let p = a.p in (
      refl,
      subst (Inverted p (poly p a.c.now) 1) (sym c.put_one.ensures)
          (inverted_first p (poly p a.c.now) (poly_at p a.c.now 0 ∙ ap (mk p) pre.3) (length a.t.now) pre.0 pre.4),
    )

pub coefficient-s-requires : goal.coefficient-s-requires
coefficient-s-requires c =
    let pre = c.requires in
    let loop = c.loop-k in
    record {
      start_lt_p = (omega (arith, pre.0), pre.1, omega (arith, pre.5, loop.invariant.0, c.put_one.auto, c.loop-k-test));
      reduced = (pre.2, loop.invariant.1.reduced);
    }

pub negate-requires : goal.negate-requires
negate-requires c =
    c.coefficient-s.ensures.below

pub loop-k-preserved : goal.loop-k-preserved
loop-k-preserved c =
    let a = c.args in
    let p = a.p in
    let loop = c.loop-k in (
      simp length-set loop.invariant.0,
      inverted_more p (poly p a.c.now) (poly_at p a.c.now 0 ∙ ap (mk p) c.requires.3) loop.k c.negate.result
          c.coefficient-s.result loop.t
          (omega arith) (search rules) loop.invariant.1 (residue_same (Ring.zero-add (Zmod p) _) c.coefficient-s.ensures)
          c.negate.ensures,
    )

pub shape_of-t : goal.shape_of-t
shape_of-t c =
    omega (arith, c.loop-k.invariant.0, c.put_one.auto)

pub returns : goal.returns
returns c =
    let loop = c.loop-k in
    (loop.invariant.1.reduced, λ k l. loop.invariant.1.inverse k (omega (arith, loop.invariant.0, c.put_one.auto)))
