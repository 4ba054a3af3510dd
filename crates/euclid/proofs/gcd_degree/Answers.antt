-- `euclid::gcd_degree` meets its contract. The invariant: the greatest common divisors of the words that are left are some of those before the loop.
-- Assumes nothing.
use Rattle.std.proofs.Common.{List, ap, arith, drop, length, refl, rules, subst, sym, take, ℕ, ◌++◌, ◌∙◌, ◌≡◌}
use Rattle.std.proofs.Common.{length-append, length-drop, length-take, length-take-le}
use lib.Seq.{take-length, take-append-le}
use Rattle.euclid.specs.Words.{Leads, trimmed_leads}
use Rattle.euclid.specs.Euclid.{pseudo_degree, reached_first, reached_end, reached_between, reached_next}
use Rattle.euclid.proofs.gcd_degree.Goals as goal

-- a front that was lent comes back as long as it was
back_length : (n : ℕ) (a front : List ℕ) → length front ≡ length (take n a) → length (front ++ drop n a) ≡ length a
back_length n a front same = omega (arith, same, length-append front (drop n a), length-take n a, length-drop n a)

pub loop-y-init : goal.loop-y-init
loop-y-init c =
    let a = c.args.a.now in
    let next = c.next-y.ensures in (
      refl,
      refl,
      search rules,
      next.1.fits,
      rw (take-length a) (reached_first c.requires.1 next.1 next.2),
    )

pub slice_bounds-next-end-in-loop-y : goal.slice_bounds-next-end-in-loop-y
slice_bounds-next-end-in-loop-y c =
    sym (length-take-le c.loop-y.x c.loop-y.a (omega arith))

pub slice_bounds-next-end-in-loop-y-3 : goal.slice_bounds-next-end-in-loop-y-3
slice_bounds-next-end-in-loop-y-3 c =
    sym (length-take-le c.loop-y.y c.loop-y.b (omega arith))

pub next-x-requires : goal.next-x-requires
next-x-requires c =
    let pre = c.requires in
    let reached = c.loop-y.invariant.4 in
    (pre.0, reached.right (omega (arith, length-take c.loop-y.y c.loop-y.b, c.loop-y-test)), reached.left.reduced)

pub shape_of-a-then-x-eq0 : goal.shape_of-a-then-x-eq0
shape_of-a-then-x-eq0 c =
    omega (arith, back_length c.loop-y.x c.loop-y.a c.next-x.new.a c.next-x.auto.a, c.loop-y.invariant.0)

pub shape_of-b-then-x-eq0 : goal.shape_of-b-then-x-eq0
shape_of-b-then-x-eq0 c =
    omega (arith, c.loop-y.invariant.1, c.next-y.auto)

pub returns-then-x-eq0 : goal.returns-then-x-eq0
returns-then-x-eq0 c =
    let next = c.next-x.ensures in
    pseudo_degree c.next-y.ensures.2
    (rw (length-take-le c.loop-y.y c.loop-y.b (omega arith)) at
    (reached_between c.loop-y.invariant.4 next.1 next.2 c.requires.0 (omega (arith, length-take c.loop-y.y c.loop-y.b, c.loop-y-test)) c.if-x-eq0.true))

pub slice_bounds-next-end-in-loop-y-5 : goal.slice_bounds-next-end-in-loop-y-5
slice_bounds-next-end-in-loop-y-5 c =
    sym (length-take-le c.loop-y.y c.loop-y.b (omega arith))

pub slice_bounds-next-end-in-loop-y-6 : goal.slice_bounds-next-end-in-loop-y-6
slice_bounds-next-end-in-loop-y-6 c =
    omega (arith, c.next-x.ensures.1.fits, length-append c.next-x.new.a (drop c.loop-y.x c.loop-y.a))

pub slice_bounds-next-end-in-loop-y-7 : goal.slice_bounds-next-end-in-loop-y-7
slice_bounds-next-end-in-loop-y-7 c =
    let next = c.next-x in
    let fits = next.ensures.1.fits in
    sym (ap length (take-append-le next.result next.new.a _ fits) ∙ length-take-le next.result next.new.a fits)

pub next-y-requires-in-loop-y : goal.next-y-requires-in-loop-y
next-y-requires-in-loop-y c =
    let pre = c.requires in
    let next = c.next-x.ensures in
    let back = take-append-le c.next-x.result c.next-x.new.a _ next.1.fits in (
      pre.0,
      subst (Leads _) (sym back) (trimmed_leads _ next.1 next.2.reduced (omega (arith, c.if-x-eq0.false))),
      c.loop-y.invariant.4.reduced,
    )

pub loop-y-smaller : goal.loop-y-smaller
loop-y-smaller c =
    let next = c.next-x in
    omega (
      arith,
      c.next-y-in-loop-y.ensures.0,
      ap length (take-append-le next.result next.new.a (drop c.loop-y.x c.loop-y.a) next.ensures.1.fits),
      length-take next.result next.new.a,
      next.ensures.0,
      length-take c.loop-y.y c.loop-y.b,
    )

pub loop-y-preserved : goal.loop-y-preserved
loop-y-preserved c =
    let loop = c.loop-y in
    let first = c.next-x in
    let second = c.next-y-in-loop-y in
    let back-a = take-append-le first.result first.new.a (drop loop.x loop.a) first.ensures.1.fits in
    let back-b = take-append-le second.result second.new.a (drop loop.y loop.b) second.ensures.1.fits in (
      omega (arith, back_length loop.x loop.a first.new.a first.auto.a, loop.invariant.0),
      omega (arith, back_length loop.y loop.b second.new.a second.auto.a, loop.invariant.1),
      omega (arith, first.ensures.1.fits, first.auto, length-take c.loop-y.x c.loop-y.a, loop.invariant.2),
      omega (arith, second.ensures.1.fits, second.auto, length-take c.loop-y.y c.loop-y.b, loop.invariant.3),
      rw (back-a, back-b) (reached_next loop.invariant.4 first.ensures.1 first.ensures.2 (omega (arith, c.if-x-eq0.false)) second.ensures.1
          (rw back-a at second.ensures.2)),
    )

pub overflow_sub-result-2 : goal.overflow_sub-result-2
overflow_sub-result-2 c =
    omega (arith, c.loop-y.invariant.4.left.some, length-take c.loop-y.x c.loop-y.a)

pub shape_of-a : goal.shape_of-a
shape_of-a c =
    omega (arith, c.loop-y.invariant.0)

pub shape_of-b : goal.shape_of-b
shape_of-b c =
    omega (arith, c.loop-y.invariant.1, c.next-y.auto)

pub returns : goal.returns
returns c =
    pseudo_degree c.next-y.ensures.2
    (rw (length-take-le c.loop-y.x c.loop-y.a (omega arith)) at
    (reached_end c.requires.0 c.loop-y.invariant.4 (omega (arith, length-take c.loop-y.y c.loop-y.b, c.loop-y-test))))
