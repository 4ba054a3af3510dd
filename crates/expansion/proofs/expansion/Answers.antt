-- `expansion::expansion` meets its contract. The invariant: the words before i are residues of the coefficients, and y and z are the multiples of A and B
-- for i. Assumes nothing.
use Rattle.std.proofs.Common.{List, arith, refl, get_or, get_or-set_other, length, length-set, max, set, subst, sym, ℕ, ◌*◌, ◌+◌, ◌-◌, ◌<◌, ◌≡◌}
use native.Mathlib.Decide.{dec_lt}
use Rattle.sheet.specs.declared.Values.{Values}
use Rattle.slices.specs.Filling.{Filled, filled_none, filled_more}
use Rattle.sheet.specs.Values.{question}
use Rattle.isogeny.specs.Expansion.{expansion}
use Rattle.zmod.specs.Residues.{poly, residues_filled, residue_self}
use Rattle.zmod.specs.Zmod.{Zmod}
use Rattle.expansion.specs.Multiple.{both, twice, multiple}
use Rattle.expansion.proofs.expansion.Invariants.{F}
use Rattle.expansion.proofs.expansion.Goals as goal

-- the first word, and those that are known
begun : (v : Values) (s h : List ℕ) (known i : ℕ) → i ≡ max known 1 → Filled (F v s) (set h 0 0) 1
    → ((k : ℕ) → k < known → F v s k (get_or h k 0)) → Filled (F v s) (set h 0 0) i
begun v s h known i e first told k l = go (dec_lt k 1)
  where
    go : Dec (k < 1) → F v s k (get_or (set h 0 0) k 0)
    go (yes m) = first k m
    go (no m) = subst (F v s k) (sym (get_or-set_other h 0 k 0 0 (omega arith))) (told k (omega (arith, e)))

pub loop-i-init : goal.loop-i-init
loop-i-init c =
    let a = c.args in
    let v = a.v.values in
    let i = c.max-first.result in
    let first = filled_more (F v a.s.now) a.h.now 0 0 c.requires.h_nonzero.0 (filled_none (F v a.s.now) a.h.now)
    (residue_self 0 (omega arith)) in (
      refl,
      begun v a.s.now a.h.now a.known i c.max-first.ensures first c.requires.by_index,
      multiple (2 * i - 1) v.a c.multiply-y.result c.multiply-y.ensures,
      multiple (2 * i - 2) v.b c.multiply-z.result c.multiply-z.ensures,
    )

pub loop-i-preserved : goal.loop-i-preserved
loop-i-preserved c =
    let loop = c.loop-i in
    let a = c.args in
    let v = a.v.values in
    let r = c.expansion_at in
    let inside : loop.i < length loop.h = omega arith in (
      simp length-set (simp length-set at loop.invariant.0),
      filled_more (F v a.s.now) loop.h loop.i r.result inside loop.invariant.1 r.ensures,
      both (question v).A (2 * loop.i - 1) 2 (2 * (loop.i + 1) - 1) (omega arith) loop.invariant.2 (twice (question v).A c.add-a.ensures)
          c.add-y.ensures,
      both (question v).B (2 * loop.i - 2) 2 (2 * (loop.i + 1) - 2) (omega arith) loop.invariant.3 (twice (question v).B c.add-b.ensures)
          c.add-z.ensures,
    )

pub returns : goal.returns
returns c =
    let loop = c.loop-i in
    let a = c.args in
    residues_filled {a = expansion (Zmod a.v.values.p) (question a.v.values).A (question a.v.values).B (poly a.v.values.p a.s.now)} (omega arith)
    (λ j l. loop.invariant.1 j (omega (arith, loop.invariant.0)))
