-- How the other factor lies in its room, behind three zeros, while a square is added up, and how many turns that takes.
-- Assumes nothing.
use Rattle.std.specs.Prelude.{◌≡◌, List, ◌++◌, ℕ, ◌+◌, ◌*◌, ◌-◌, ◌/◌, ◌^◌, ◌≤◌, ◌<◌, min, length, get_or, take, drop, replicate}
use Rattle.std.proofs.Common.{sym, ◌∙◌, ap, subst, mul-le-mul, arith}
use Rattle.std.proofs.Math.Decide.{dec_lt}
use Rattle.std.proofs.lemmas.List.{get_or-replicate, length-replicate}
use Rattle.std.proofs.Math.ListN.{get_or-eq_default}
use Rattle.slices.specs.Stored.{part_at, back_before, back_inside, back_after}
use Rattle.rows.specs.Rows.{Four, Twice}

-- twice the words of a from i on; zeros before
pub record Above (a : List ℕ) (i : ℕ) (e : List ℕ) : Type 0 where
  pub low : (j : ℕ) → j < i + 3 → get_or e j 0 ≡ 0
  pub high : (j : ℕ) → i ≤ j → get_or e (3 + j) 0 ≡ 2 * get_or a j 0

-- the same, with the four words from i on once
pub record Held (a : List ℕ) (i : ℕ) (e : List ℕ) : Type 0 where
  pub low : (j : ℕ) → j < i + 3 → get_or e j 0 ≡ 0
  pub once : (j : ℕ) → i ≤ j → j < 4 + i → get_or e (3 + j) 0 ≡ get_or a j 0
  pub twice : (j : ℕ) → 4 + i ≤ j → get_or e (3 + j) 0 ≡ 2 * get_or a j 0

-- the places i to i + 3
pub each : (i : ℕ) (P : ℕ → Type 0) → P i → P (1 + i) → P (2 + i) → P (3 + i) → (j : ℕ) → i ≤ j → j < 4 + i → P j
each i P a b c d j lo hi = go (dec_lt j (1 + i)) (dec_lt j (2 + i)) (dec_lt j (3 + i))
  where
    go : Dec (j < 1 + i) → Dec (j < 2 + i) → Dec (j < 3 + i) → P j
    go (yes l) _ _ = subst P (omega arith) a
    go (no k) (yes l) _ = subst P (omega arith) b
    go (no k) (no m) (yes l) = subst P (omega arith) c
    go (no k) (no m) (no l) = subst P (omega arith) d

pub held : (a e e' : List ℕ) (i : ℕ) → Above a i e → Four e (i + 3) (get_or a i 0) (get_or a (1 + i) 0) (get_or a (2 + i) 0) (get_or a (3 + i) 0) e' → Held a i e'
held a e e' i h f = record {
  low = λ j l. f.before j l ∙ h.low j l;
  once =
      each i (λ j. get_or e' (3 + j) 0 ≡ get_or a j 0) (ap (λ t. get_or e' t 0) (omega arith) ∙ f.first) (ap (λ t. get_or e' t 0) (omega arith) ∙ f.second)
      (ap (λ t. get_or e' t 0) (omega arith) ∙ f.third) (ap (λ t. get_or e' t 0) (omega arith) ∙ f.fourth);
  twice = λ j l. f.after (3 + j) (omega arith) ∙ h.high j (omega arith);
}

pub above_more : (a e e' : List ℕ) (i : ℕ) → Held a i e → Four e (i + 3) 0 0 0 0 e' → Above a (i + 4) e'
above_more a e e' i h f = record {
  low = λ j l. go j l (dec_lt j (i + 3));
  high = λ j l. f.after (3 + j) (omega arith) ∙ h.twice j (omega arith);
}
  where
    go : (j : ℕ) → j < i + 4 + 3 → Dec (j < i + 3) → get_or e' j 0 ≡ 0
    go j l (yes m) = f.before j m ∙ h.low j m
    go j l (no m) =
        each (i + 3) (λ j. get_or e' j 0 ≡ 0) f.first (ap (λ t. get_or e' t 0) (omega arith) ∙ f.second) (ap (λ t. get_or e' t 0) (omega arith) ∙ f.third)
        (ap (λ t. get_or e' t 0) (omega arith) ∙ f.fourth) j (omega arith) (omega arith)

-- past a's end there is nothing
pub held_past : (a e : List ℕ) (i : ℕ) → Held a i e → i ≤ length a → (u : ℕ) → length a + 3 ≤ u → get_or e u 0 ≡ 0
held_past a e i h le u l = go (dec_lt (u - 3) (4 + i))
  where
    at : get_or e u 0 ≡ get_or e (3 + (u - 3)) 0
    at = ap (λ t. get_or e t 0) (omega arith)

    none : get_or a (u - 3) 0 ≡ 0
    none = get_or-eq_default a 0 (omega arith)

    go : Dec (u - 3 < 4 + i) → get_or e u 0 ≡ 0
    go (yes m) = at ∙ h.once (u - 3) (omega arith) m ∙ none
    go (no m) = at ∙ h.twice (u - 3) (omega arith) ∙ ap (λ t. 2 * t) none

-- no word is above twice the largest
pub held_le : (a e : List ℕ) (i q : ℕ) → Held a i e → ((j : ℕ) → get_or a j 0 ≤ q) → (u : ℕ) → get_or e u 0 ≤ 2 * q
held_le a e i q h le u = go (dec_lt u (i + 3)) (dec_lt (u - 3) (4 + i))
  where
    at : 3 ≤ u → get_or e u 0 ≡ get_or e (3 + (u - 3)) 0
    at l = ap (λ t. get_or e t 0) (omega arith)

    go : Dec (u < i + 3) → Dec (u - 3 < 4 + i) → get_or e u 0 ≤ 2 * q
    go (yes l) _ = omega (arith, h.low u l)
    go (no l) (yes m) = omega (arith, at (omega arith), h.once (u - 3) (omega arith) m, le (u - 3))
    go (no l) (no m) = omega (arith, at (omega arith), h.twice (u - 3) (omega arith), le (u - 3))

-- the room before the first turn: cleared, and a doubled behind three zeros
abbrev pub blank : ℕ → List ℕ
blank n = replicate {A = ℕ} n 0

pub zero_at : (n j : ℕ) → get_or (blank n) j 0 ≡ 0
zero_at n j = go (dec_lt j n)
  where
    go : Dec (j < n) → get_or (blank n) j 0 ≡ 0
    go (yes l) = get_or-replicate n j 0 0 l
    go (no l) = get_or-eq_default (blank n) 0 (omega (arith, length-replicate {A = ℕ} n 0))

pub above_none : (a z part : List ℕ) (n m : ℕ) → z ≡ blank n → length a + 3 ≤ n → m ≡ n - 3 → length part ≡ m → Twice a (take m (drop 3 z)) part (length a)
    → Above a 0 (take 3 z ++ (part ++ drop m (drop 3 z)))
above_none a z part n m e le rest size h = subst (λ l. Above a 0 (take 3 l ++ (part ++ drop m (drop 3 l)))) (sym e) (record {
  low = λ j l. back_before (blank n) part 3 m inside size j l ∙ zero_at n j;
  high = λ j l. go j (dec_lt j m) (dec_lt j (length a));
})
  where
    inside : 3 + m ≤ length (blank n)
    inside = omega (arith, length-replicate {A = ℕ} n 0)

    kept : (j : ℕ) → length a ≤ j → get_or part j 0 ≡ get_or (take m (drop 3 (blank n))) j 0
    kept j l = h.kept j l ∙ ap (λ l. get_or (take m (drop 3 l)) j 0) e

    go : (j : ℕ) → Dec (j < m) → Dec (j < length a) → get_or (take 3 (blank n) ++ (part ++ drop m (drop 3 (blank n)))) (3 + j) 0 ≡ 2 * get_or a j 0
    go j (yes l) (yes k) = back_inside (blank n) part 3 m inside size j l ∙ h.doubled j k
    go j (yes l) (no k) =
        back_inside (blank n) part 3 m inside size j l ∙ kept j (omega arith) ∙ part_at (blank n) 3 m j l ∙ zero_at n (3 + j)
        ∙ sym (ap (λ t. 2 * t) (get_or-eq_default a 0 (omega arith)))
    go j (no l) _ =
        back_after (blank n) part 3 m inside size (3 + j) (omega arith) ∙ zero_at n (3 + j)
        ∙ sym (ap (λ t. 2 * t) (get_or-eq_default a 0 (omega arith)))

-- four words a turn, as long as the square of what is left reaches one of the m sums
abbrev pub turns : ℕ → ℕ → ℕ
turns n m = (min n ((m + 1) / 2) + 3) / 4

-- 32 turns are 256 products, which is what the largest p allows
pub turns_fit : (n m p : ℕ) → p ≤ 2 ^ 28 → turns n m ≤ 32 → 8 * turns n m * p ≤ 2 ^ 36
turns_fit n m p small few = mul-le-mul {n₁ = 8 * turns n m} {m₁ = p} {n₂ = 256} {m₂ = 268435456} (omega arith) (omega arith)
