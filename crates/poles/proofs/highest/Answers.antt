-- `poles::highest` meets its contract. The invariant: the coefficients from i on are 0.
-- Assumes nothing.
use Rattle.std.proofs.Common.{ap, arith, subst, sym, ℕ, ◌-◌, ◌<◌, ◌∙◌, ◌≡◌, ◌≤◌}
use native.Mathlib.Decide.{dec_lt}
use Rattle.zmod.specs.Zmod.{mk}
use Rattle.zmod.specs.Residues.{Residue, residue_same}
use Rattle.poles.specs.Words.{remainder}
use Rattle.poles.proofs.highest.Goals as goal

-- what holds above i and at i holds from i on
from_one_less : (P : ℕ → Type 0) (i k : ℕ) → P i → ((j : ℕ) → i < j → j < k → P j) → (j : ℕ) → i ≤ j → j < k → P j
from_one_less P i k here above j l g = go (dec_lt i j)
  where
    go : Dec (i < j) → P j
    go (yes m) = above j m g
    go (no m) = let e : i ≡ j = omega arith in subst P e here

pub overflow_sub-n : goal.overflow_sub-n
overflow_sub-n c = omega (arith, c.requires.p_nonzero.2.words)

pub overflow_sub-len : goal.overflow_sub-len
overflow_sub-len c = omega (arith, c.requires.p_nonzero.2.words, c.requires.p_nonzero.2.most)

pub loop-i-init : goal.loop-i-init
loop-i-init c = (omega (arith, c.requires.p_nonzero.2.words, c.requires.p_nonzero.2.least), λ j l g. absurd (omega arith))

pub overflow_sub-n-in-loop-i : goal.overflow_sub-n-in-loop-i
overflow_sub-n-in-loop-i c = omega (arith, c.requires.p_nonzero.2.words, c.requires.p_nonzero.2.most)

pub coefficient-c-requires : goal.coefficient-c-requires
coefficient-c-requires c =
    let size = c.requires.p_nonzero.2 in record {
      p_nonzero = (
        c.requires.p_nonzero.0,
        c.requires.p_nonzero.1,
        omega (arith, size.words, size.room, size.least),
        omega (arith, size.words, size.few, size.least),
        omega (arith, size.words, size.most),
        omega (arith, c.loop-i.invariant.0, size.words, size.least, c.loop-i-test),
      );
      reduced = (c.requires.reduced.1, c.requires.reduced.0, c.requires.reduced.2);
    }

pub returns-then-c-ne0 : goal.returns-then-c-ne0
returns-then-c-ne0 c =
    let a = c.args in
    let size = c.requires.p_nonzero.2 in
    let inv = c.loop-i.invariant in (
      omega (arith, c.if-c-ne0.true),
      record {
        least = omega (arith, inv.0, c.loop-i-test);
        inside = λ pos. omega (arith, c.loop-i-test);
        class = λ pos. residue_same (ap (remainder a.p a.h.now a.u.now) (omega (arith, size.words, size.most))) c.coefficient-c.ensures;
        gap = λ i l g. inv.1 i (omega (arith, c.loop-i-test)) g;
        none = λ e. absurd (omega (arith, c.if-c-ne0.true, e));
      },
    )

pub loop-i-preserved : goal.loop-i-preserved
loop-i-preserved c =
    let a = c.args in
    let size = c.requires.p_nonzero.2 in
    let inv = c.loop-i.invariant in
    let i = c.loop-i.i - 1 in
    let null : c.coefficient-c.result ≡ 0 = omega (arith, c.if-c-ne0.false) in
    let found : Residue a.p (remainder a.p a.h.now a.u.now i) c.coefficient-c.result =
    residue_same (ap (remainder a.p a.h.now a.u.now) (omega (arith, size.words, size.most))) c.coefficient-c.ensures
    in
    let zero = sym found.class ∙ ap (mk a.p) null in (
      omega (arith, inv.0, c.loop-i-test),
      from_one_less (λ j. remainder a.p a.h.now a.u.now j ≡ mk a.p 0) i a.k zero (λ j l g. inv.1 j (omega (arith, c.loop-i-test)) g),
    )

pub returns : goal.returns
returns c =
    let inv = c.loop-i.invariant in
    record {
      least = omega arith;
      inside = λ pos. absurd (omega arith);
      class = λ pos. absurd (omega arith);
      gap = λ i l g. inv.1 i (omega (arith, c.loop-i-test)) g;
      none = λ e i l g. inv.1 i (omega (arith, c.loop-i-test)) g;
    }
