-- Slices that loops fill, and parts of slices. The invariant of a loop that goes through a slice from the front and stores one word a turn: `Stored P xs₀ xs
-- k` where the words before k have the
-- property P of their place, and those from k on are still the words of xs₀.
-- Assumes nothing.
use Rattle.std.specs.Prelude.{◌≡◌, refl, List, ◌++◌, ℕ, ◌+◌, ◌-◌, ◌≤◌, ◌<◌, length, get_or, set, take, drop}
use Rattle.std.proofs.Common.{sym, ◌∙◌, ap, arith, length-set, length-take, length-take-le, get_or-take, get_or-drop, get_or-append-add}
use Rattle.std.proofs.Math.Decide.{dec_lt}
use Rattle.std.proofs.Math.ListN.{get_or-append, get_or-eq_default}
use Rattle.slices.specs.Filling.{Filled, Kept, filled_none, filled_more, kept_all, kept_more}

pub record Stored (P : ℕ → ℕ → Type 0) (xs₀ xs : List ℕ) (k : ℕ) : Type 0 where
  pub same_length : length xs ≡ length xs₀
  pub within : k ≤ length xs
  pub filled : Filled P xs k
  pub kept : Kept xs₀ xs k

pub stored_none : (P : ℕ → ℕ → Type 0) (xs : List ℕ) → Stored P xs xs 0
stored_none P xs = record { same_length = refl; within = omega arith; filled = filled_none P xs; kept = kept_all xs }

pub stored_more : (P : ℕ → ℕ → Type 0) (xs₀ xs : List ℕ) (k v : ℕ) → k < length xs → Stored P xs₀ xs k → P k v → Stored P xs₀ (set xs k v) (k + 1)
stored_more P xs₀ xs k v inside h here = record {
  same_length = length-set xs k v ∙ h.same_length;
  within = omega (arith, length-set xs k v);
  filled = filled_more P xs k v inside h.filled here;
  kept = kept_more xs₀ xs k v h.kept;
}

-- the word that the next turn overwrites is still there
pub word_kept : (P : ℕ → ℕ → Type 0) (xs₀ xs : List ℕ) (k : ℕ) → Stored P xs₀ xs k → get_or xs k 0 ≡ get_or xs₀ k 0
word_kept P xs₀ xs k h = h.kept k (omega arith)

-- ── parts

-- a part of a slice: n words from a on
module _ (xs : List ℕ) (a n : ℕ) where
  pub part_at : (j : ℕ) → j < n → get_or (take n (drop a xs)) j 0 ≡ get_or xs (a + j) 0
  part_at j l = get_or-take n (drop a xs) j 0 l ∙ get_or-drop a xs j 0

  pub part_below : (b : ℕ) → 0 < b → ((j : ℕ) → get_or xs j 0 < b) → (j : ℕ) → get_or (take n (drop a xs)) j 0 < b
  part_below b pos h j = go (dec_lt j n)
    where
      go : Dec (j < n) → get_or (take n (drop a xs)) j 0 < b
      go (yes l) = omega (arith, part_at j l, h (a + j))
      go (no l) =
          let z : get_or (take n (drop a xs)) j 0 ≡ 0 = get_or-eq_default (take n (drop a xs)) 0 (omega (arith, length-take n (drop a xs))) in
          omega arith

-- all words of a part that was lent and came back: `part` in the place of `len` words from `at` on
module _ (xs part : List ℕ) (at len : ℕ) (inside : at + len ≤ length xs) (long : length part ≡ len) where
  abbrev back : List ℕ
  back = take at xs ++ (part ++ drop len (drop at xs))

  pub back_before : (k : ℕ) → k < at → get_or back k 0 ≡ get_or xs k 0
  back_before k l = get_or-append (take at xs) _ 0 k (omega (arith, length-take-le at xs (omega arith))) ∙ get_or-take at xs k 0 l

  rest : (j : ℕ) → get_or back (at + j) 0 ≡ get_or (part ++ drop len (drop at xs)) j 0
  rest j = ap (λ n. get_or back (n + j) 0) (sym (length-take-le at xs (omega arith))) ∙ get_or-append-add (take at xs) _ j 0

  pub back_inside : (j : ℕ) → j < len → get_or back (at + j) 0 ≡ get_or part j 0
  back_inside j l = rest j ∙ get_or-append part _ 0 j (omega arith)

  pub back_after : (k : ℕ) → at + len ≤ k → get_or back k 0 ≡ get_or xs k 0
  back_after k l =
      let e : at + (len + (k - (at + len))) ≡ k = omega arith in
      ap (λ n. get_or back n 0) (sym e) ∙ rest (len + (k - (at + len)))
      ∙ ap (λ n. get_or (part ++ drop len (drop at xs)) (n + (k - (at + len))) 0) (sym long) ∙ get_or-append-add part _ (k - (at + len)) 0
      ∙ get_or-drop len (drop at xs) (k - (at + len)) 0 ∙ get_or-drop at xs (len + (k - (at + len))) 0 ∙ ap (λ n. get_or xs n 0) e
