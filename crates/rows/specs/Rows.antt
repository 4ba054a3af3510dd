-- What adding four rows makes of the sums, as numbers.
-- Assumes nothing.
use Rattle.std.specs.Prelude.{◌≡◌, refl, ◌≢◌, List, ◌++◌, ℕ, ◌+◌, ◌*◌, ◌-◌, ◌≤◌, ◌<◌, length, get_or, set, take, drop}
use Rattle.std.proofs.Common.{sym, ◌∙◌, ap, ap₂, subst, not-suc-le-zero, mul-le-mul, arith, length-set, get_or-set_same, get_or-set_other}
use Rattle.std.proofs.Math.Decide.{dec_lt}
use Rattle.slices.specs.Filling.{Filled, filled_more, kept_more}
use Rattle.slices.specs.Stored.{part_at, back_before, back_inside, back_after}

-- word j of out and of each of four rows, times w, x, y and z
abbrev pub four_more : List ℕ → List ℕ → List ℕ → List ℕ → List ℕ → ℕ → ℕ → ℕ → ℕ → ℕ → ℕ
four_more out a b c d w x y z j = get_or out j 0 + w * get_or a j 0 + x * get_or b j 0 + y * get_or c j 0 + z * get_or d j 0

-- a sum s and the words of e that stand before j + 4
abbrev pub row_more : ℕ → List ℕ → ℕ → ℕ → ℕ → ℕ → ℕ → ℕ
row_more s e j w x y z = s + w * get_or e (3 + j) 0 + x * get_or e (2 + j) 0 + y * get_or e (1 + j) 0 + z * get_or e j 0

-- acc is acc₀, with the rows added to `len` words from `at` on
pub record RowsAdded (acc₀ e : List ℕ) (at len w x y z : ℕ) (acc : List ℕ) : Type 0 where
  pub inside : (j : ℕ) → j < len → get_or acc (at + j) 0 ≡ row_more (get_or acc₀ (at + j) 0) e j w x y z
  pub before : (k : ℕ) → k < at → get_or acc k 0 ≡ get_or acc₀ k 0
  pub after : (k : ℕ) → at + len ≤ k → get_or acc k 0 ≡ get_or acc₀ k 0

-- no factor above q and no word of a row above f
pub row_le : (q f s : ℕ) (e : List ℕ) (j w x y z : ℕ) → w ≤ q → x ≤ q → y ≤ q → z ≤ q → ((u : ℕ) → get_or e u 0 ≤ f) → row_more s e j w x y z ≤ s + 4 * (q * f)
row_le q f s e j w x y z hw hx hy hz small =
    omega (
      arith,
      mul-le-mul {n₁ = w} {m₁ = get_or e (3 + j) 0} hw (small (3 + j)),
      mul-le-mul {n₁ = x} {m₁ = get_or e (2 + j) 0} hx (small (2 + j)),
      mul-le-mul {n₁ = y} {m₁ = get_or e (1 + j) 0} hy (small (1 + j)),
      mul-le-mul {n₁ = z} {m₁ = get_or e j 0} hz (small j),
    )

pub added_le : (q f : ℕ) (acc₀ e : List ℕ) (at len w x y z : ℕ) (acc : List ℕ) → RowsAdded acc₀ e at len w x y z acc
    → w ≤ q → x ≤ q → y ≤ q → z ≤ q → ((u : ℕ) → get_or e u 0 ≤ f) → (k : ℕ) → get_or acc k 0 ≤ get_or acc₀ k 0 + 4 * (q * f)
added_le q f acc₀ e at len w x y z acc h hw hx hy hz small k = go (dec_lt k at) (dec_lt k (at + len))
  where
    go : Dec (k < at) → Dec (k < at + len) → get_or acc k 0 ≤ get_or acc₀ k 0 + 4 * (q * f)
    go (yes l) _ = omega (arith, h.before k l)
    go (no l) (no m) = omega (arith, h.after k (omega arith))
    go (no l) (yes m) =
        let e' : at + (k - at) ≡ k = omega arith in
        subst (λ t. get_or acc t 0 ≤ get_or acc₀ t 0 + 4 * (q * f)) e'
        (omega (arith, h.inside (k - at) (omega arith), row_le q f (get_or acc₀ (at + (k - at)) 0) e (k - at) w x y z hw hx hy hz small))

-- the four rows as parts of e, and the sums as a part of acc, m words of it
module _ (acc e : List ℕ) (at len m w x y z : ℕ) (whole : m ≡ len) (long : len + 3 ≤ length e) where
  abbrev pub rows_at : ℕ → ℕ
  rows_at = four_more (take m (drop at acc)) (take (length e - 3) (drop 3 e)) (take (length e - 2) (drop 2 e)) (take (length e - 1) (drop 1 e)) e w x y z

  pub rows_are : (j : ℕ) → j < len → rows_at j ≡ row_more (get_or acc (at + j) 0) e j w x y z
  rows_are j l =
      let s : get_or (take m (drop at acc)) j 0 ≡ get_or acc (at + j) 0 = part_at acc at m j (omega arith) in
      let first : get_or (take (length e - 3) (drop 3 e)) j 0 ≡ get_or e (3 + j) 0 = part_at e 3 (length e - 3) j (omega arith) in
      let second : get_or (take (length e - 2) (drop 2 e)) j 0 ≡ get_or e (2 + j) 0 = part_at e 2 (length e - 2) j (omega arith) in
      let third : get_or (take (length e - 1) (drop 1 e)) j 0 ≡ get_or e (1 + j) 0 = part_at e 1 (length e - 1) j (omega arith) in
      ap (λ n. n + z * get_or e j 0) (ap₂ ◌+◌ (ap₂ ◌+◌ (ap₂ ◌+◌ s (ap (◌*◌ w) first)) (ap (◌*◌ x) second)) (ap (◌*◌ y) third))

  pub rows_added : (part : List ℕ) → at + len ≤ length acc → length part ≡ m → Filled (λ j v. v ≡ rows_at j) part m
      → RowsAdded acc e at len w x y z (take at acc ++ (part ++ drop m (drop at acc)))
  rows_added part inside size all = record {
    inside = λ j l. back_inside acc part at m (omega arith) size j (omega arith) ∙ all j (omega arith) ∙ rows_are j l;
    before = λ k l. back_before acc part at m (omega arith) size k l;
    after = λ k l. back_after acc part at m (omega arith) size k (omega arith);
  }

-- xs is xs₀ with four words put in from `at` on
pub record Four (xs₀ : List ℕ) (at w x y z : ℕ) (xs : List ℕ) : Type 0 where
  pub first : get_or xs at 0 ≡ w
  pub second : get_or xs (at + 1) 0 ≡ x
  pub third : get_or xs (at + 2) 0 ≡ y
  pub fourth : get_or xs (at + 3) 0 ≡ z
  pub before : (k : ℕ) → k < at → get_or xs k 0 ≡ get_or xs₀ k 0
  pub after : (k : ℕ) → at + 4 ≤ k → get_or xs k 0 ≡ get_or xs₀ k 0

pub put_four : (xs : List ℕ) (at w x y z : ℕ) → at + 4 ≤ length xs → Four xs at w x y z (set (set (set (set xs at w) (at + 1) x) (at + 2) y) (at + 3) z)
put_four xs at w x y z inside = record {
  first = other w₃ (at + 3) at z (omega arith) ∙ other w₂ (at + 2) at y (omega arith) ∙ other w₁ (at + 1) at x (omega arith) ∙ get_or-set_same xs at w 0 (omega
      arith);
  second = other w₃ (at + 3) (at + 1) z (omega arith) ∙ other w₂ (at + 2) (at + 1) y (omega arith)
      ∙ get_or-set_same w₁ (at + 1) x 0 (omega (arith, length-set xs at w));
  third = other w₃ (at + 3) (at + 2) z (omega arith) ∙ get_or-set_same w₂ (at + 2) y 0 (omega (arith, length-set xs at w, length-set w₁ (at + 1) x));
  fourth = get_or-set_same w₃ (at + 3) z 0 (omega (arith, length-set xs at w, length-set w₁ (at + 1) x, length-set w₂ (at + 2) y));
  before = λ k l. outside k (omega arith) (omega arith) (omega arith) (omega arith);
  after = λ k l. outside k (omega arith) (omega arith) (omega arith) (omega arith);
}
  where
    w₁ : List ℕ
    w₁ = set xs at w

    w₂ : List ℕ
    w₂ = set w₁ (at + 1) x

    w₃ : List ℕ
    w₃ = set w₂ (at + 2) y

    other : (ys : List ℕ) (i j v : ℕ) → j ≢ i → get_or (set ys i v) j 0 ≡ get_or ys j 0
    other ys i j v ne = get_or-set_other ys i j v 0 ne

    outside : (k : ℕ) → k ≢ at → k ≢ at + 1 → k ≢ at + 2 → k ≢ at + 3 → get_or (set w₃ (at + 3) z) k 0 ≡ get_or xs k 0
    outside k a b c d = other w₃ (at + 3) k z d ∙ other w₂ (at + 2) k y c ∙ other w₁ (at + 1) k x b ∙ other xs at k w a

-- the words before k are twice those of a, the others those of xs₀
pub record Twice (a xs₀ xs : List ℕ) (k : ℕ) : Type 0 where
  pub doubled : (j : ℕ) → j < k → get_or xs j 0 ≡ 2 * get_or a j 0
  pub kept : (j : ℕ) → k ≤ j → get_or xs j 0 ≡ get_or xs₀ j 0

pub twice_none : (a xs : List ℕ) → Twice a xs xs 0
twice_none a xs = record { doubled = λ j l. absurd (not-suc-le-zero l); kept = λ j l. refl }

pub twice_more : (a xs₀ xs : List ℕ) (k v : ℕ) → k < length xs → v ≡ 2 * get_or a k 0 → Twice a xs₀ xs k → Twice a xs₀ (set xs k v) (k + 1)
twice_more a xs₀ xs k v inside e h = record {
  doubled = filled_more (λ j w. w ≡ 2 * get_or a j 0) xs k v inside h.doubled e;
  kept = kept_more xs₀ xs k v h.kept;
}

-- four words, read one by one: what holds of them
module _ (a : List ℕ) (i w x y z : ℕ) (first : w ≡ get_or a i 0) (second : x ≡ get_or a (1 + i) 0) (third : y ≡ get_or a (2 + i) 0) (fourth : z ≡ get_or a (3 + i) 0)
    (P : ℕ → ℕ → ℕ → ℕ → Type 0) where
  same : P w x y z ≡ P (get_or a i 0) (get_or a (1 + i) 0) (get_or a (2 + i) 0) (get_or a (3 + i) 0)
  same = ap₂ (λ t u. P t u y z) first second ∙ ap₂ (λ t u. P (get_or a i 0) (get_or a (1 + i) 0) t u) third fourth

  pub of_words : P w x y z → P (get_or a i 0) (get_or a (1 + i) 0) (get_or a (2 + i) 0) (get_or a (3 + i) 0)
  of_words h = subst (λ T. T) same h

  pub to_words : P (get_or a i 0) (get_or a (1 + i) 0) (get_or a (2 + i) 0) (get_or a (3 + i) 0) → P w x y z
  to_words h = subst (λ T. T) (sym same) h
