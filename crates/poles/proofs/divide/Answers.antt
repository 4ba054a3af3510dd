-- `poles::divide` meets its contract. The invariant: t belongs to what is left of its remainder, which begins with w at i.
-- Assumes nothing.
use Rattle.std.proofs.Common.{ap, arith, refl, rules, ◌+◌, ◌-◌, ◌≡◌}
use Rattle.zmod.specs.Prime.{prime_pos}
use Rattle.zmod.specs.Residues.{residue_same}
use Rattle.barrett.specs.Modulus.{prepared, prepared_below}
use Rattle.poles.specs.Words.{remainder}
use Rattle.poles.specs.Steps.{left_start, left_next, left_end}
use Rattle.poles.proofs.divide.Goals as goal

pub overflow_sub-n : goal.overflow_sub-n
overflow_sub-n c = omega (arith, c.requires.prime.1.words)

pub overflow_sub-len : goal.overflow_sub-len
overflow_sub-len c = omega (arith, c.requires.prime.1.words, c.requires.prime.1.most)

pub loop-i-init : goal.loop-i-init
loop-i-init c =
    let a = c.args in (
      search rules,
      refl,
      c.requires.reduced.1,
      c.requires.below.0,
      search rules,
      λ P high pos. left_start a.m.p a.h.now a.t.now a.u.now a.row.degree a.below.degree a.below.top P high pos a.row.top,
    )

pub cancel-requires : goal.cancel-requires
cancel-requires c =
    let inv = c.loop-i.invariant in
    let size = c.requires.prime.1 in
    record {
      lt_p = (
        c.requires.prime.6,
        inv.4,
        omega (arith, size.words, size.least, c.requires.prime.2.most, c.loop-i-test),
        omega (arith, inv.1, size.words, size.room, size.least),
        omega (arith, size.words, size.least, c.requires.prime.2.words, c.requires.prime.2.room),
      );
      reduced = (inv.2, c.requires.reduced.2);
      below = (inv.3, λ i g. c.requires.below.1 i (omega (arith, inv.0, c.loop-i-test)));
    }

pub coefficient-w-requires : goal.coefficient-w-requires
coefficient-w-requires c =
    let inv = c.loop-i.invariant in
    let size = c.requires.prime.1 in
    record {
      p_nonzero = (
        prime_pos c.requires.prime.0,
        omega (arith, prepared_below (prepared c.args.m)),
        omega (arith, inv.1, size.words, size.room, size.least, c.cancel.auto),
        omega (arith, size.words, size.few, size.least),
        omega (arith, size.words, size.most),
        omega (arith, size.words, size.least, c.loop-i-test),
      );
      reduced = (c.cancel.ensures.0, c.requires.reduced.0, c.cancel.ensures.1);
    }

pub loop-i-preserved : goal.loop-i-preserved
loop-i-preserved c =
    let a = c.args in
    let p = a.m.p in
    let inv = c.loop-i.invariant in
    let size = c.requires.prime.2 in
    let i = c.loop-i.i in
    let place : i - 1 + 1 - a.below.degree ≡ i - a.below.degree = omega (arith, c.loop-i-test) in (
      omega (arith, c.loop-i-test),
      omega (arith, inv.1, c.cancel.auto),
      c.cancel.ensures.0,
      c.cancel.ensures.1,
      c.coefficient-w.ensures.below,
      λ P high pos.
          left_next p a.h.now a.t.now a.u.now a.row.degree a.below.degree a.below.top P high pos a.row.top i c.loop-i.t c.cancel.new.t c.loop-i.w
          (inv.5 P high pos) inv.0 (omega arith) (rw place at c.cancel.ensures.2) c.coefficient-w.result (omega (arith, c.loop-i-test))
          (residue_same (ap (remainder p a.h.now c.cancel.new.t) (omega (arith, size.words, size.most, c.loop-i-test))) c.coefficient-w.ensures),
    )

pub cancel-requires-2 : goal.cancel-requires-2
cancel-requires-2 c =
    let inv = c.loop-i.invariant in
    let size = c.requires.prime.1 in
    record {
      lt_p = (
        c.requires.prime.6,
        inv.4,
        omega (arith, size.words, size.most),
        omega (arith, inv.1, size.words, size.room, size.least),
        omega (arith, size.words, size.least, c.requires.prime.2.words, c.requires.prime.2.room),
      );
      reduced = (inv.2, c.requires.reduced.2);
      below = (inv.3, λ i g. c.requires.below.1 i (omega (arith, inv.0, c.loop-i-test)));
    }

pub returns : goal.returns
returns c =
    let a = c.args in
    let p = a.m.p in
    let inv = c.loop-i.invariant in
    let end : c.loop-i.i ≡ a.below.degree = omega (arith, inv.0, c.loop-i-test) in
    let none : c.loop-i.i - a.below.degree ≡ 0 = omega (arith, end) in (
      c.cancel-2.ensures.0,
      left_end p a.h.now a.t.now a.u.now a.row.degree a.below.degree a.below.top c.requires.prime.0 c.requires.highest c.requires.prime.5 a.row.top
          c.loop-i.i c.loop-i.t c.cancel-2.new.t c.loop-i.w (inv.5 c.requires.prime.0 c.requires.highest c.requires.prime.5) inv.0 (omega arith)
          (rw none c.cancel-2.ensures.2) end,
    )
