-- `recurrence::expansion_of_curves` meets its contract. The invariant: the words before k solve their equations, and y and z are the multiples of −A and −B
-- for k.
-- Assumes nothing.
use Rattle.std.proofs.Common.{arith, length, length-set, min, refl, set, subst, sym, ◌*◌, ◌+◌, ◌-◌, ◌<◌, ◌≡◌}
use Rattle.zmod.specs.Zmod.{Zmod, minus}
use Rattle.sheet.specs.Values.{question}
use Rattle.recurrence.specs.Equations.{HAt}
use Rattle.expansion.specs.Multiple.{none, once, both}
use Rattle.expansion.specs.Equations.{Solved}
use Rattle.expansion.specs.Stores.{solved_more}
use Rattle.recurrence.proofs.Causal.{h_causal}
use Rattle.recurrence.proofs.expansion_of_curves.Goals as goal

pub loop-k-init : goal.loop-k-init
loop-k-init c =
    let v = c.args.v.values in
    let p = v.p in
    let A = minus p (question v).A in
    let words = c.begin_h in (
      refl,
      subst (λ n. Solved p (HAt (Zmod p) (question v)) words.new.h (min 3 n)) (sym words.auto.h) words.ensures,
      both A 2 1 3 refl c.minus_twice-a.ensures (once A c.negate.ensures) c.add-y.ensures,
      none (minus p (question v).B) (omega arith),
    )

pub loop-k-preserved : goal.loop-k-preserved
loop-k-preserved c =
    let v = c.args.v.values in
    let p = v.p in
    let q = question v in
    let E = HAt (Zmod p) q in
    let loop = c.loop-k in
    let k = loop.k in
    let r = c.next_h in
    let inside : k < length loop.h = omega arith in
    let here : min k (length loop.h) ≡ k = omega arith in
    let after : k + 1 ≡ min (k + 1) (length (set loop.h k r.result)) = omega (arith, length-set loop.h k r.result) in (
      simp length-set loop.invariant.0,
      subst (Solved p E (set loop.h k r.result)) after
          (solved_more p E (h_causal (Zmod p) q) loop.h k r.result inside (subst (Solved p E loop.h) here loop.invariant.1) r.ensures),
      both (minus p q.A) (2 * k - 3) 2 (2 * (k + 1) - 3) (omega arith) loop.invariant.2 c.minus_twice-a.ensures c.add-y-in-loop-k.ensures,
      both (minus p q.B) (2 * k - 6) 2 (2 * (k + 1) - 6) (omega arith) loop.invariant.3 c.minus_twice-b.ensures c.add-z.ensures,
    )

pub returns : goal.returns
returns c =
    let a = c.args in
    let p = a.v.values.p in
    let loop = c.loop-k in
    let end : min loop.k (length loop.h) ≡ length a.h.now = omega (arith, c.begin_h.auto.h) in
    subst (Solved p (HAt (Zmod p) (question a.v.values)) loop.h) end loop.invariant.1
