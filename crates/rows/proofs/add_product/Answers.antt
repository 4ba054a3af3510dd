-- `rows::add_product` meets its contract. The invariant: acc has the products with the words of a before i. Assumes nothing.
use Rattle.std.proofs.Common.{List, arith, get_or, length, rules, ℕ, ◌*◌, ◌+◌, ◌-◌, ◌<◌, ◌^◌, ◌≡◌, ◌≤◌}
use native.Mathlib.Nat as N
use Rattle.rows.specs.Rows.{row_more, RowsAdded, of_words, to_words}
use Rattle.rows.specs.Product.{ProductAdded, ThreeZeros, added_none, turn_fits, added_more, added_all}
use Rattle.zmod.specs.Residues.{Reduced}
use Rattle.rows.proofs.add_product.Goals as goal

-- 256 products fit: one in the sum, and 255 added
all_fit : (p x s n : ℕ) → p ≤ 2 ^ 28 → x ≤ (p - 1) * (p - 1) → n ≤ 255 → s ≤ x + n * ((p - 1) * (p - 1)) → s < 2 ^ 64
all_fit p x s n small low few le =
    let square : (p - 1) * (p - 1) ≤ 72057593501057025 = N.mul-le-mul {n₁ = p - 1} {m₁ = p - 1} {n₂ = 268435455} {m₂ = 268435455} (omega arith) (omega arith) in
    let total : n * ((p - 1) * (p - 1)) ≤ 255 * 72057593501057025 = N.mul-le-mul {n₁ = n} {m₁ = (p - 1) * (p - 1)} {n₂ = 255} {m₂ = 72057593501057025} few
    square in
    omega arith

-- one turn, with the words as they were read
turn : (p : ℕ) (a e acc₀ : List ℕ) → Reduced p a → Reduced p e → ThreeZeros e → (i : ℕ) (acc acc' : List ℕ) (w x y z : ℕ) → ProductAdded p a e acc₀ i acc
    → w ≡ get_or a i 0 → x ≡ get_or a (1 + i) 0 → y ≡ get_or a (2 + i) 0 → z ≡ get_or a (3 + i) 0 → length acc' ≡ length acc → length acc + 3 ≤ length e
    → i ≤ length acc → RowsAdded acc e i (length acc - i) w x y z acc' → ProductAdded p a e acc₀ (i + 4) acc'
turn p a e acc₀ low_a low_e zeros i acc acc' w x y z h first second third fourth same long here rows =
    added_more p a e acc₀ low_a low_e i acc h acc' same long here zeros
    (of_words a i w x y z first second third fourth (λ w x y z. RowsAdded acc e i (length acc - i) w x y z acc') rows)

pub loop-i-init : goal.loop-i-init
loop-i-init c =
    let a = c.args in
    (search rules, omega arith, added_none a.p a.a.now a.e.now a.acc.now)

pub overflow_sub-len : goal.overflow_sub-len
overflow_sub-len c =
    search (rules, c.loop-i.invariant.0)

pub add_rows-requires : goal.add_rows-requires
add_rows-requires c =
    let a = c.args in
    let loop = c.loop-i in
    let inv = loop.invariant in record {
      len_in_bounds = (
        omega (arith, inv.0, c.requires.a_in_bounds.0),
        omega (arith, inv.0, c.requires.a_in_bounds.1),
        λ j. omega (arith, c.requires.by_index.2 j, c.requires.a_in_bounds.4),
      );
      w_bound = (
        omega (arith, c.word-w.ensures, c.requires.by_index.1 loop.i, c.requires.a_in_bounds.4),
        omega (arith, c.word-x.ensures, c.requires.by_index.1 (1 + loop.i), c.requires.a_in_bounds.4),
        omega (arith, c.word-y.ensures, c.requires.by_index.1 (2 + loop.i), c.requires.a_in_bounds.4),
        omega (arith, c.word-z.ensures, c.requires.by_index.1 (3 + loop.i), c.requires.a_in_bounds.4),
      );
      by_index = λ j l. to_words a.a.now loop.i _ _ _ _ c.word-w.ensures c.word-x.ensures c.word-y.ensures c.word-z.ensures
          (λ w x y z. row_more (get_or loop.acc (loop.i + j) 0) a.e.now j w x y z < 2 ^ 64)
          (all_fit a.p (get_or a.acc.now (loop.i + j) 0) _ (loop.i + 4) c.requires.a_in_bounds.4 (c.requires.by_index.0 (loop.i + j))
          (omega (arith, c.requires.a_in_bounds.2))
          (turn_fits a.p a.a.now a.e.now a.acc.now c.requires.by_index.1 c.requires.by_index.2 loop.i loop.acc inv.2 (loop.i + j) j));
    }

pub loop-i-preserved : goal.loop-i-preserved
loop-i-preserved c =
    let a = c.args in
    let loop = c.loop-i in
    let inv = loop.invariant in (
      omega (arith, inv.0, c.add_rows.auto),
      omega arith,
      turn a.p a.a.now a.e.now a.acc.now c.requires.by_index.1 c.requires.by_index.2 c.requires.by_index.3 loop.i loop.acc _ _ _ _ _ inv.2
          c.word-w.ensures c.word-x.ensures c.word-y.ensures c.word-z.ensures (search rules) (omega (arith, inv.0, c.requires.a_in_bounds.1))
          (omega (arith, inv.0, c.requires.a_in_bounds.0)) c.add_rows.ensures,
    )

pub returns : goal.returns
returns c =
    let a = c.args in
    let loop = c.loop-i in
    added_all a.p a.a.now a.e.now a.acc.now c.requires.by_index.1 c.requires.by_index.2 loop.i loop.acc loop.invariant.2 (search rules)
    (omega (arith, loop.invariant.1, c.requires.a_in_bounds.2)) c.requires.a_in_bounds.3 c.requires.a_in_bounds.4 c.requires.by_index.0

pub returns-2 : goal.returns-2
returns-2 c =
    let a = c.args in
    let loop = c.loop-i in
    let inv = loop.invariant in
    let added = turn a.p a.a.now a.e.now a.acc.now c.requires.by_index.1 c.requires.by_index.2 c.requires.by_index.3 loop.i loop.acc c.add_rows.new.acc
    _ _ _ _ inv.2 c.word-w.ensures c.word-x.ensures c.word-y.ensures c.word-z.ensures (search rules) (omega (arith, inv.0, c.requires.a_in_bounds.1))
    (omega (arith, inv.0, c.requires.a_in_bounds.0)) c.add_rows.ensures
    in
    added_all a.p a.a.now a.e.now a.acc.now c.requires.by_index.1 c.requires.by_index.2 (loop.i + 4) c.add_rows.new.acc added (omega arith)
    (omega (arith, c.requires.a_in_bounds.2)) c.requires.a_in_bounds.3 c.requires.a_in_bounds.4 c.requires.by_index.0
