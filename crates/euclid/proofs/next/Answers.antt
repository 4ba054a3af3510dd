-- `euclid::next` meets its contract. The invariant: a is a unit times what it was modulo b, and has k coefficients at most.
-- Assumes nothing.
use Rattle.std.proofs.Common.{arith, drop, length, length-append, length-drop, length-take-le, refl, rules, subst, sym, take, ◌-◌, ◌≡◌}
use Rattle.zmod.specs.Residues.{poly, reduced_take}
use Rattle.barrett.specs.Modulus.{prepared, prepared_positive}
use Rattle.euclid.specs.Words.{trimmed_below}
use Rattle.euclid.specs.Pseudo.{PseudoRemainder, pseudo_self, pseudo_below, pseudo_trimmed, pseudo_further}
use Rattle.euclid.proofs.next.Goals.{After-trimmed, then-k-n, else-k-n}
use Rattle.euclid.proofs.next.Goals as goal

pub loop-k-init : goal.loop-k-init
loop-k-init c =
    (refl, refl, search rules, pseudo_self _ c.args.a.now c.requires.2)

pub slice_bounds-cancel_two-end-in-loop-k : goal.slice_bounds-cancel_two-end-in-loop-k
slice_bounds-cancel_two-end-in-loop-k c =
    let loop = c.loop-k in
    sym (length-take-le loop.k loop.a (search rules))

pub cancel_two-requires : goal.cancel_two-requires
cancel_two-requires c =
    let loop = c.loop-k in
    let pre = c.requires in
    let size : length (take loop.k loop.a) ≡ loop.k = length-take-le loop.k loop.a (search rules) in
    (pre.0, pre.1, reduced_take loop.a (prepared_positive (prepared c.args.m)) loop.k loop.invariant.3.reduced, search (rules, size))

pub overflow_sub-k : goal.overflow_sub-k
overflow_sub-k c =
    search (rules, c.requires.1.some)

pub loop-k-smaller : goal.loop-k-smaller
loop-k-smaller c =
    search (rules, c.requires.1.some)

pub loop-k-preserved : goal.loop-k-preserved
loop-k-preserved c =
    let loop = c.loop-k in
    let step = c.cancel_two in
    let size = length-take-le loop.k loop.a (search rules) in
    let long : length step.new.a ≡ loop.k = omega (arith, step.auto, size) in (
      loop.invariant.0,
      omega (arith, long, length-append step.new.a (drop loop.k loop.a), length-drop loop.k loop.a, loop.invariant.1, loop.invariant.2),
      omega (arith, loop.invariant.2),
      pseudo_further loop.invariant.3 long (pseudo_below (omega (arith, size)) step.ensures),
    )

pub slice_bounds-cancel_one-end-then-k-n : goal.slice_bounds-cancel_one-end-then-k-n
slice_bounds-cancel_one-end-then-k-n c =
    let loop = c.loop-k in
    sym (length-take-le loop.k loop.a (search rules))

pub cancel_one-requires : goal.cancel_one-requires
cancel_one-requires c =
    let loop = c.loop-k in
    let pre = c.requires in
    let size : length (take loop.k loop.a) ≡ loop.k = length-take-le loop.k loop.a (search rules) in
    (pre.0, pre.1, reduced_take loop.a (prepared_positive (prepared c.args.m)) loop.k loop.invariant.3.reduced, search (rules, size))

-- after the last step a has fewer coefficients than b
divided : (c : After-trimmed)
    → let a = c.args in
    let p = a.m.p in
    (length c.if-k-n.a ≡ length a.a.now) × PseudoRemainder p (length a.b.now - 1) (poly p a.b.now) (poly p a.a.now) c.if-k-n.a
divided c =
    let loop = c.loop-k in
    let a = c.args in
    let p = a.m.p in
    let size = length-take-le loop.k loop.a (search rules) in
    elim c.if-k-n.branch [
      | then-k-n w ↦
          let step = w.cancel_one in
          let long : length step.new.a ≡ loop.k = omega (arith, step.auto, size) in
          subst (λ l. (length l ≡ length a.a.now) × PseudoRemainder p (length a.b.now - 1) (poly p a.b.now) (poly p a.a.now) l) (sym w.a-is) (
            omega (arith, long, length-append step.new.a (drop loop.k loop.a), length-drop loop.k loop.a, loop.invariant.1, loop.invariant.2),
            pseudo_further loop.invariant.3 long (pseudo_below (omega (arith, size, w.if-k-n.true, loop.invariant.0)) step.ensures),
          )
      | else-k-n w ↦
          subst (λ l. (length l ≡ length a.a.now) × PseudoRemainder p (length a.b.now - 1) (poly p a.b.now) (poly p a.a.now) l) (sym w.a-is) (
            loop.invariant.1,
            pseudo_below (omega (arith, w.if-k-n.false, loop.invariant.0)) loop.invariant.3,
          )
    ]

pub shape_of-a : goal.shape_of-a
shape_of-a c = (divided c).0

pub returns : goal.returns
returns c =
    let pre = c.requires in
    let left = (divided c).1 in
    let trimmed = c.trimmed.ensures in
    (omega (arith, pre.1.some, trimmed_below _ trimmed left.reduced left.below), trimmed, pseudo_trimmed trimmed left)
