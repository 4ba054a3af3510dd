-- `candidate::fill_s` meets its contract. The invariant: the words up to i solve their equations, and y and z are the multiples of −A and −B for i.
-- Assumes nothing.
use Rattle.std.proofs.Common.{arith, length, length-set, refl, ◌*◌, ◌+◌, ◌-◌, ◌<◌}
use Rattle.zmod.specs.Zmod.{Zmod, minus}
use Rattle.zmod.specs.Residues.{poly}
use Rattle.sheet.specs.Values.{question}
use Rattle.candidate.specs.Equations.{SAt}
use Rattle.expansion.specs.Multiple.{none, once, both}
use Rattle.expansion.specs.Stores.{solved_more}
use Rattle.candidate.proofs.Causal.{s_causal}
use Rattle.candidate.proofs.fill_s.Goals as goal

pub loop-i-init : goal.loop-i-init
loop-i-init c =
    let a = c.args in
    let v = a.v.values in
    let p = v.p in (
      refl,
      c.begin_s.ensures (poly p a.h.now),
      once (minus p (question v).A) c.negate-y.ensures,
      none (minus p (question v).B) (omega arith),
    )

pub loop-i-preserved : goal.loop-i-preserved
loop-i-preserved c =
    let args = c.args in
    let p = args.v.values.p in
    let q = question args.v.values in
    let h = poly p args.h.now in
    let loop = c.loop-i in
    let i = loop.i in
    let inside : i + 1 < length loop.s = omega (arith, c.requires.h_len, c.begin_s.auto.s) in (
      simp length-set loop.invariant.0,
      solved_more p (SAt (Zmod p) q h) (s_causal (Zmod p) q h) loop.s (i + 1) c.next_s.result inside loop.invariant.1 c.next_s.ensures,
      both (minus p q.A) (2 * i - 1) 2 (2 * (i + 1) - 1) (omega arith) loop.invariant.2 c.minus_twice-a.ensures c.add-y.ensures,
      both (minus p q.B) (2 * i - 2) 2 (2 * (i + 1) - 2) (omega arith) loop.invariant.3 c.minus_twice-b.ensures c.add-z.ensures,
    )
