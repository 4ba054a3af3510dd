-- `power_sums::sums_rows` meets its contract. Assumes nothing.
use Rattle.std.proofs.Common.{List, arith, drop, get_or, length, min, rules, take, ℕ, ◌*◌, ◌+◌, ◌-◌, ◌<◌, ◌∙◌, ◌≡◌, ◌≤◌}
use Rattle.slices.specs.Stored.{part_below}
use Rattle.rows.specs.Rows.{row_le, added_le}
use Rattle.expansion.specs.Equations.{ReducedTo}
use Rattle.power_sums.specs.Four.{tail_at}
use Rattle.power_sums.specs.Sums.{most_due, same_rows, due_rows}
use Rattle.power_sums.proofs.sums_rows.Goals as goal

grown : (i a b : ℕ) → 1 ≤ i → a ≤ most_due i → b ≤ a + 4 * (268435455 * 268435455) → b ≤ most_due (i + 4)
grown i a b l h m = omega arith

-- what lies past the rows is past d
past : (d skip room from len t : ℕ) → len ≡ min (d - skip) (room - from) → from + len < room → len ≤ t → d ≤ skip + t
past d skip room from len t e l m = omega arith

-- the words that are read back
words : (s : List ℕ) (p i w x y z : ℕ) → ReducedTo p s (i + 4) → w ≡ get_or s i 0 → x ≡ get_or s (1 + i) 0 → y ≡ get_or s (2 + i) 0
    → z ≡ get_or s (3 + i) 0 → (w < p) × (x < p) × (y < p) × (z < p)
words s p i w x y z low ew ex ey ez = (
  omega (arith, low i (omega arith)),
  omega (arith, low (1 + i) (omega arith)),
  omega (arith, low (2 + i) (omega arith)),
  omega (arith, low (3 + i) (omega arith)),
)

pub add_rows-requires-clause-by_index : goal.add_rows-requires-clause-by_index
add_rows-requires-clause-by_index c =
    let a = c.args in
    let skip = a.from - (a.i + 4) in
    let n = length a.e.now - skip in
    let below = part_below a.e.now skip n a.p c.requires.p_nonzero.0 c.requires.p_nonzero.2 in
    let low = words a.s.now a.p a.i _ _ _ _ c.requires.p_nonzero.4 c.word.ensures c.word-2.ensures c.word-3.ensures c.word-4.ensures in
    λ j l. omega (
      arith,
      c.requires.by_index (a.from + j),
      row_le 268435455 268435455 (get_or a.acc.now (a.from + j) 0) (take n (drop skip a.e.now)) j c.word.result c.word-2.result c.word-3.result
          c.word-4.result (omega (arith, low.0)) (omega (arith, low.1)) (omega (arith, low.2)) (omega (arith, low.3)) (λ u. omega (arith, below u)),
    )

pub returns-clause-by_index_2 : goal.returns-clause-by_index_2
returns-clause-by_index_2 c =
    let a = c.args in
    let skip = a.from - (a.i + 4) in
    let n = length a.e.now - skip in
    let below = part_below a.e.now skip n a.p c.requires.p_nonzero.0 c.requires.p_nonzero.2 in
    let low = words a.s.now a.p a.i _ _ _ _ c.requires.p_nonzero.4 c.word.ensures c.word-2.ensures c.word-3.ensures c.word-4.ensures in
    let added = c.add_rows in
    λ k. grown a.i (get_or a.acc.now k 0) (get_or added.new.acc k 0) c.requires.le_i.0 (c.requires.by_index k)
    (added_le 268435455 268435455 a.acc.now (take n (drop skip a.e.now)) a.from c.min-len.result _ _ _ _ added.new.acc added.ensures
    (omega (arith, low.0)) (omega (arith, low.1)) (omega (arith, low.2)) (omega (arith, low.3)) (λ u. omega (arith, below u)) k)

pub returns-clause-due : goal.returns-clause-due
returns-clause-due c =
    let a = c.args in
    let skip = a.from - (a.i + 4) in
    let e' = take (length a.e.now - skip) (drop skip a.e.now) in
    let added = c.add_rows in
    let rows = same_rows a.acc.now e' added.new.acc a.from c.min-len.result _ _ _ _ _ _ _ _
    c.word.ensures c.word-2.ensures c.word-3.ensures c.word-4.ensures added.ensures in
    λ g negated. due_rows a.p a.d g a.e.now e' a.acc.now added.new.acc a.s.now a.i a.from c.min-len.result
    (omega arith) (omega arith) negated (tail_at a.e.now skip) rows
    (λ l t m. tail_at a.e.now skip t
    ∙ c.requires.p_nonzero.3 (skip + t) (past a.d skip (length a.acc.now) a.from _ t c.min-len.ensures l m))
    (search rules)
