-- The power sums by rows: what is still due at k once the words before i are known, and four words more.
-- Assumes nothing.
use Rattle.std.specs.Prelude.{◌≡◌, List, length, get_or, set}
use Rattle.std.proofs.Math.Path.{refl, ap}
use Rattle.std.proofs.Common.{sym, ◌∙◌, ap₂, subst, arith}
use Prim.Native.Nat.{ℕ, zero, suc, ◌+◌, ◌*◌, ◌-◌, ◌^◌, ◌≤◌, ◌<◌, min}
use Rattle.std.proofs.Math.Nat as N
use Rattle.std.proofs.Math.Decide.{dec_lt}
use Rattle.std.proofs.lemmas.List.{length-replicate}
use Rattle.std.proofs.Math.ListN.{get_or-eq_default}
use Rattle.ring.specs.Ring
use Rattle.ring.specs.Ring.{CRing, cast}
use Rattle.ring.specs.Identity.{solve2, solve4}
use Rattle.ring.specs.Identity.Ex.{:0, ◌:+◌, ◌:*◌, :-◌}
use Rattle.series.specs.Series.{Seq, sum, sum_suc, sum_same}
use Rattle.series.specs.Reversal.{rev, rev_sub, rev_past}
use Rattle.zmod.specs.Zmod.{Zmod, mk, plus, times, minus, mk_add, mk_mul, cast_mk}
use Rattle.zmod.specs.Residues.{Residue, poly, poly_at}
use Rattle.isogeny.specs.Expansion.{sum_to, newton_step, power_sums_of}
use Rattle.slices.specs.Stored.{Stored}
use Rattle.rows.specs.Room.{blank, zero_at}
use Rattle.rows.specs.Rows.{row_more, RowsAdded, Four}
use Rattle.expansion.specs.Equations.{Solved}
use Rattle.isogeny.proofs.Sums.{newton_local, sums_obey}
use Rattle.expansion.specs.Stores.{Causal, stored_at, solved_none, solved_more}

module _ (R : CRing) where
  open R use {add as ◌⊕◌, mul as ◌⊗◌, neg}

  infixl 65 ◌⊕◌
  infixl 70 ◌⊗◌
  -- s obeys Newton's identities, solved for s_k
  abbrev pub Newton : ℕ → Seq R → Seq R → ℕ → Type 0
  Newton d g s k = s k ≡ newton_step R d g k s

  -- a definition by cases
  pub newton_step_at : (d : ℕ) (g s : Seq R) (k : ℕ) → 1 ≤ k
      → newton_step R d g k s ≡ neg (cast R (2 * k) ⊗ rev R d g k) ⊕ neg (sum_to R (λ i. s i ⊗ rev R d g (k - i)) (k - 1))
  unfolding newton_step
  newton_step_at d g s zero l = absurd (omega arith)
  newton_step_at d g s (suc j) l =
      ap (λ n. neg (cast R (2 * suc j) ⊗ rev R d g (suc j)) ⊕ neg (sum R (λ i. s (suc i) ⊗ rev R d g (suc j - suc i)) n)) (omega arith)

  pub newton_step_zero : (d : ℕ) (g s : Seq R) → newton_step R d g 0 s ≡ cast R (2 * d)
  unfolding newton_step
  newton_step_zero d g s = refl

module _ (R : CRing) (d : ℕ) (g : Seq R) where
  open R use {Car, 𝟘, add as ◌⊕◌, mul as ◌⊗◌, neg}

  infixl 65 ◌⊕◌
  infixl 70 ◌⊗◌
  -- −2k c_k − (the sum of s_j c_(k − j), j from 1 to i − 1), where c is g reversed
  abbrev pub due : Seq R → ℕ → ℕ → Car
  due s k i = neg (cast R (2 * k) ⊗ rev R d g k) ⊕ neg (sum_to R (λ j. s j ⊗ rev R d g (k - j)) (i - 1))

  pub due_next : (s : Seq R) (k i : ℕ) → 1 ≤ i → due s k (1 + i) ≡ due s k i ⊕ s i ⊗ neg (rev R d g (k - i))
  due_next s k i l =
      ap (λ n. neg (cast R (2 * k) ⊗ rev R d g k) ⊕ neg (sum R (λ j. s (suc j) ⊗ rev R d g (k - suc j)) n)) e
      ∙ ap (λ x. neg (cast R (2 * k) ⊗ rev R d g k) ⊕ neg x) (sum_suc R (λ j. s (suc j) ⊗ rev R d g (k - suc j)) (i - 1)
      ∙ ap (λ j. sum R (λ j. s (suc j) ⊗ rev R d g (k - suc j)) (i - 1) ⊕ s j ⊗ rev R d g (k - j)) e')
      ∙ solve4 R (λ a b x y. :- a :+ :- (b :+ x :* y)) (λ a b x y. :- a :+ :- b :+ x :* :- y) tt _ _ _ _
    where
      e : 1 + i - 1 ≡ suc (i - 1)
      e = omega arith

      e' : suc (i - 1) ≡ i
      e' = omega arith

  pub due_same : (s t : Seq R) (k i : ℕ) → ((j : ℕ) → j < i → s j ≡ t j) → due s k i ≡ due t k i
  due_same s t k i h =
      ap (λ x. neg (cast R (2 * k) ⊗ rev R d g k) ⊕ neg x) (sum_same R _ _ (i - 1) (λ j l. ap (λ x. x ⊗ rev R d g (k - suc j)) (h (suc j) (omega arith))))

  pub due_all : (s : Seq R) (k : ℕ) → 1 ≤ k → due s k k ≡ newton_step R d g k s
  due_all s k l = sym (newton_step_at R d g s k l)

-- ── words

module _ (p d : ℕ) (g : Seq (Zmod p)) where
  -- e holds −c₁, −c₂, ..
  abbrev pub Negated : List ℕ → Type 0
  Negated e = (t : ℕ) → mk p (get_or e t 0) ≡ minus p (rev (Zmod p) d g (1 + t))

  -- from `from` on acc holds what is due once the words before i are known
  abbrev pub Due : List ℕ → List ℕ → ℕ → ℕ → Type 0
  Due acc s from i = (k : ℕ) → from ≤ k → k < length acc → mk p (get_or acc k 0) ≡ due (Zmod p) d g (poly p s) k i

  -- four words of s from i on, and what is due at k before them
  module _ (e s : List ℕ) (i w x y z : ℕ) (from : 1 ≤ i) (n : Negated e)
      (first : poly p s i ≡ mk p w) (second : poly p s (1 + i) ≡ mk p x) (third : poly p s (2 + i) ≡ mk p y) (fourth : poly p s (3 + i) ≡ mk p z)
      (k a : ℕ) (here : mk p a ≡ due (Zmod p) d g (poly p s) k i) where
    abbrev S : Seq (Zmod p)
    S = poly p s

    -- one of them, times its −c
    step : (j u t : ℕ) → 1 ≤ j → S j ≡ mk p u → 1 + t ≡ k - j → (b : ℕ) → mk p b ≡ due (Zmod p) d g S k j
        → (m : ℕ) → 1 + j ≡ m → mk p (b + u * get_or e t 0) ≡ due (Zmod p) d g S k m
    step j u t l es et b eb m em =
        mk_add p b (u * get_or e t 0)
        ∙ ap₂ (plus p) eb
        (mk_mul p u (get_or e t 0) ∙ ap₂ (times p) (sym es) (n t ∙ ap (λ m. minus p (rev (Zmod p) d g m)) et))
        ∙ sym (due_next (Zmod p) d g S k j l) ∙ ap (due (Zmod p) d g S k) em

    pub one : (t₀ : ℕ) → 1 + t₀ ≡ k - i → mk p (a + w * get_or e t₀ 0) ≡ due (Zmod p) d g S k (1 + i)
    one t₀ e₀ = step i w t₀ from first e₀ a here (1 + i) refl

    pub two : (t₁ t₀ : ℕ) → 1 + t₁ ≡ k - i → 2 + t₀ ≡ k - i → mk p (a + w * get_or e t₁ 0 + x * get_or e t₀ 0) ≡ due (Zmod p) d g S k (2 + i)
    two t₁ t₀ e₁ e₀ = step (1 + i) x t₀ (omega arith) second (omega arith) _ (one t₁ e₁) (2 + i) (omega arith)

    pub three : (t₂ t₁ t₀ : ℕ) → 1 + t₂ ≡ k - i → 2 + t₁ ≡ k - i → 3 + t₀ ≡ k - i
        → mk p (a + w * get_or e t₂ 0 + x * get_or e t₁ 0 + y * get_or e t₀ 0) ≡ due (Zmod p) d g S k (3 + i)
    three t₂ t₁ t₀ e₂ e₁ e₀ = step (2 + i) y t₀ (omega arith) third (omega arith) _ (two t₂ t₁ e₂ e₁) (3 + i) (omega arith)

    pub four : (t : ℕ) → 4 + t ≡ k - i → mk p (row_more a e t w x y z) ≡ due (Zmod p) d g S k (i + 4)
    four t e₀ = step (3 + i) z t (omega arith) fourth (omega arith) _ (three (3 + t) (2 + t) (1 + t) (omega arith) (omega arith) (omega arith)) (i + 4)
        (omega arith)

  -- four words are computed
  module _ (e acc s s' : List ℕ) (i w x y z : ℕ) (from : 1 ≤ i) (room : i + 4 ≤ length acc) (n : Negated e) (h : Due acc s i i) (f : Four s i w x y z s') where
    abbrev T : Seq (Zmod p)
    T = poly p s'

    before : (j : ℕ) → j < i → poly p s j ≡ T j
    before j l = poly_at p s j ∙ ap (mk p) (sym (f.before j l)) ∙ sym (poly_at p s' j)

    -- what is due, with the new words
    pub due_now : Due acc s' i i
    due_now k l m = h k l m ∙ due_same (Zmod p) d g (poly p s) T k i before

    at₀ : T i ≡ mk p w
    at₀ = poly_at p s' i ∙ ap (mk p) f.first

    at₁ : T (1 + i) ≡ mk p x
    at₁ = poly_at p s' (1 + i) ∙ ap (λ j. mk p (get_or s' j 0)) (omega arith) ∙ ap (mk p) f.second

    at₂ : T (2 + i) ≡ mk p y
    at₂ = poly_at p s' (2 + i) ∙ ap (λ j. mk p (get_or s' j 0)) (omega arith) ∙ ap (mk p) f.third

    at₃ : T (3 + i) ≡ mk p z
    at₃ = poly_at p s' (3 + i) ∙ ap (λ j. mk p (get_or s' j 0)) (omega arith) ∙ ap (mk p) f.fourth

    -- from the sums that the four words are the residues of
    pub newton₀ : mk p (get_or acc i 0) ≡ mk p w → Newton (Zmod p) d g T i
    newton₀ r = at₀ ∙ sym r ∙ due_now i (omega arith) (omega arith) ∙ due_all (Zmod p) d g T i from

    pub newton₁ : mk p (get_or acc (1 + i) 0 + w * get_or e 0 0) ≡ mk p x → Newton (Zmod p) d g T (1 + i)
    newton₁ r =
        at₁ ∙ sym r ∙ one e s' i w x y z from n at₀ at₁ at₂ at₃ (1 + i) _ (due_now (1 + i) (omega arith) (omega arith)) 0 (omega arith)
        ∙ due_all (Zmod p) d g T (1 + i) (omega arith)

    pub newton₂ : mk p (get_or acc (2 + i) 0 + w * get_or e 1 0 + x * get_or e 0 0) ≡ mk p y → Newton (Zmod p) d g T (2 + i)
    newton₂ r =
        at₂ ∙ sym r ∙ two e s' i w x y z from n at₀ at₁ at₂ at₃ (2 + i) _ (due_now (2 + i) (omega arith) (omega arith)) 1 0 (omega arith) (omega arith)
        ∙ due_all (Zmod p) d g T (2 + i) (omega arith)

    pub newton₃ : mk p (get_or acc (3 + i) 0 + w * get_or e 2 0 + x * get_or e 1 0 + y * get_or e 0 0) ≡ mk p z → Newton (Zmod p) d g T (3 + i)
    newton₃ r =
        at₃ ∙ sym r
        ∙ three e s' i w x y z from n at₀ at₁ at₂ at₃ (3 + i) _ (due_now (3 + i) (omega arith) (omega arith)) 2 1 0 (omega arith) (omega arith) (omega arith)
        ∙ due_all (Zmod p) d g T (3 + i) (omega arith)

  -- the rows of four words that are known take what is due four places on, for the sums from `from` on; e' is e from where these rows begin
  module _ (e e' acc acc' s : List ℕ) (i from len : ℕ) (first : 1 ≤ i) (above : i + 4 ≤ from) (n : Negated e)
      (part : (t : ℕ) → get_or e' t 0 ≡ get_or e (from - (i + 4) + t) 0)
      (added : RowsAdded acc e' from len (get_or s i 0) (get_or s (1 + i) 0) (get_or s (2 + i) 0) (get_or s (3 + i) 0) acc')
      (past : from + len < length acc → (t : ℕ) → len ≤ t → get_or e' t 0 ≡ 0) (size : length acc' ≡ length acc) where
    abbrev word : ℕ → ℕ
    word j = get_or s j 0

    row : (k : ℕ) → from ≤ k → k < length acc → Dec (k < from + len)
        → get_or acc' k 0 ≡ row_more (get_or acc k 0) e' (k - from) (word i) (word (1 + i)) (word (2 + i)) (word (3 + i))
    row k l m (yes h) =
        let at : from + (k - from) ≡ k = omega arith in
        ap (λ t. get_or acc' t 0) (sym at) ∙ added.inside (k - from) (omega arith)
        ∙ ap (λ t. row_more (get_or acc t 0) e' (k - from) (word i) (word (1 + i)) (word (2 + i)) (word (3 + i))) at
    row k l m (no h) =
        added.after k (omega arith)
        ∙ sym (ap₂ (λ a b. get_or acc k 0 + word i * a + word (1 + i) * b + word (2 + i) * get_or e' (1 + (k - from)) 0 + word (3 + i) * get_or e' (k - from) 0)
        (none (3 + (k - from)) (omega arith)) (none (2 + (k - from)) (omega arith))
        ∙ ap₂ (λ a b. get_or acc k 0 + word i * 0 + word (1 + i) * 0 + word (2 + i) * a + word (3 + i) * b) (none (1 + (k - from)) (omega arith))
        (none (k - from) (omega arith))
        ∙ omega (arith, N.mul-zero (word i), N.mul-zero (word (1 + i)), N.mul-zero (word (2 + i)), N.mul-zero (word (3 + i))))
      where
        none : (t : ℕ) → k - from ≤ t → get_or e' t 0 ≡ 0
        none t le = past (omega arith) t (omega arith)

    pub due_rows : Due acc s from i → Due acc' s from (i + 4)
    due_rows h k l m =
        ap (mk p) (row k l (omega arith) (dec_lt k (from + len)) ∙ shifted)
        ∙ four e s i (word i) (word (1 + i)) (word (2 + i)) (word (3 + i)) first n (poly_at p s i) (poly_at p s (1 + i)) (poly_at p s (2 + i))
        (poly_at p s (3 + i)) k _ (h k l (omega arith)) (k - (i + 4)) (omega arith)
      where
        at : (u : ℕ) → get_or e' (u + (k - from)) 0 ≡ get_or e (u + (k - (i + 4))) 0
        at u = part (u + (k - from)) ∙ ap (λ t. get_or e t 0) (omega arith)

        shifted : row_more (get_or acc k 0) e' (k - from) (word i) (word (1 + i)) (word (2 + i)) (word (3 + i))
            ≡ row_more (get_or acc k 0) e (k - (i + 4)) (word i) (word (1 + i)) (word (2 + i)) (word (3 + i))
        shifted =
            ap₂ (λ a b. get_or acc k 0 + word i * a + word (1 + i) * b + word (2 + i) * get_or e' (1 + (k - from)) 0 + word (3 + i) * get_or e' (k - from) 0)
            (at 3) (at 2)
            ∙ ap₂ (λ a b. get_or acc k 0 + word i * get_or e (3 + (k - (i + 4))) 0 + word (1 + i) * get_or e (2 + (k - (i + 4))) 0 + word (2 + i) * a + word
            (3 + i) * b)
            (at 1) (part (k - from) ∙ ap (λ t. get_or e t 0) (omega arith))

  -- the words before i obey Newton's identities, and acc has what is due from i on
  pub record Known (acc s : List ℕ) (i : ℕ) : Type 0 where
    pub solved : Solved p (Newton (Zmod p) d g) s i
    pub due_from : Due acc s i i

-- rows whose factors are known by their words
pub same_rows : (acc e acc' : List ℕ) (at len w x y z w' x' y' z' : ℕ) → w' ≡ w → x' ≡ x → y' ≡ y → z' ≡ z → RowsAdded acc e at len w' x' y' z' acc'
    → RowsAdded acc e at len w x y z acc'
same_rows acc e acc' at len w x y z w' x' y' z' ew ex ey ez =
    subst (λ T. T) (ap₂ (λ t u. RowsAdded acc e at len t u y' z' acc') ew ex ∙ ap₂ (λ t u. RowsAdded acc e at len w x t u acc') ey ez)

-- the largest sum at i: 2k c_k, and a product for each word from 1 on
abbrev pub most_due : ℕ → ℕ
most_due i = 2 ^ 36 + (i - 1) * 72057593501057025

-- ── the room before the first turn

pub record Backwards (p : ℕ) (g e : List ℕ) : Type 0 where
  pub words : (t : ℕ) → t + 1 < length g → Residue p (minus p (mk p (get_or g (length g - 1 - 1 - t) 0))) (get_or e t 0)
  pub past : (t : ℕ) → length g ≤ t + 1 → get_or e t 0 ≡ 0

abbrev pub Weights : List ℕ → List ℕ → Type 0
Weights e acc = (k : ℕ) → k < length acc → get_or acc k 0 ≡ 2 * k * get_or e (k - 1) 0

-- a loop that has gone as far as d, or to the end
pub weights_all : (e acc₀ acc : List ℕ) (d n k : ℕ) → min (d + 1) n ≤ k → Stored (λ j v. v ≡ 2 * j * get_or e (j - 1) 0) acc₀ acc k → acc₀ ≡ blank n
    → ((t : ℕ) → d ≤ t → get_or e t 0 ≡ 0) → Weights e acc
weights_all e acc₀ acc d n k end h cleared past j inside = go (dec_lt j k)
  where
    go : Dec (j < k) → get_or acc j 0 ≡ 2 * j * get_or e (j - 1) 0
    go (yes l) = h.filled j l
    go (no l) =
        h.kept j (omega arith) ∙ ap (λ xs. get_or xs j 0) cleared ∙ zero_at n j
        ∙ sym (ap (λ t. 2 * j * t) (past (j - 1) (omega (arith, h.same_length, ap length cleared, length-replicate {A = ℕ} n 0))) ∙ N.mul-zero (2 * j))

-- Newton's identity at k reads the sequence up to k
pub newton_causal : (p d : ℕ) (g : Seq (Zmod p)) → Causal p (Newton (Zmod p) d g)
newton_causal p d g k a b e x = sym (e k (omega arith)) ∙ x ∙ newton_local (Zmod p) d g k a b (λ i l. e i (omega arith))

-- words that are known already obey them
pub front_solved : (p d : ℕ) (g : Seq (Zmod p)) (s : List ℕ) (n : ℕ) → ((k : ℕ) → k < n → Residue p (power_sums_of (Zmod p) d g k) (get_or s k 0))
    → Solved p (Newton (Zmod p) d g) s n
front_solved p d g s n h = record {
  reduced = λ k l. (h k l).below;
  equations = λ k l.
      poly_at p s k ∙ (h k l).class ∙ sums_obey (Zmod p) d g k
      ∙ newton_local (Zmod p) d g k (power_sums_of (Zmod p) d g) (poly p s) (λ i m. sym (poly_at p s i ∙ (h i (omega arith)).class));
}

-- no sum is larger than 254 residues
pub weights_low : (e acc : List ℕ) (d : ℕ) → d ≤ 127 → Weights e acc → ((t : ℕ) → get_or e t 0 < 2 ^ 28) → ((t : ℕ) → d ≤ t → get_or e t 0 ≡ 0) → (k : ℕ)
    → get_or acc k 0 ≤ most_due 1
weights_low e acc d small h low past k = go (dec_lt k (length acc)) (dec_lt k (d + 1))
  where
    go : Dec (k < length acc) → Dec (k < d + 1) → get_or acc k 0 ≤ most_due 1
    go (no l) _ = let z : get_or acc k 0 ≡ 0 = get_or-eq_default acc 0 (omega arith) in omega arith
    go (yes l) (yes m) =
        omega (arith, h k l, N.mul-le-mul {n₁ = 2 * k} {m₁ = get_or e (k - 1) 0} {n₂ = 254} {m₂ = 268435456} (omega arith) (omega (arith, low (k - 1))))
    go (yes l) (no m) = omega (arith, h k l ∙ ap (λ t. 2 * k * t) (past (k - 1) (omega arith)) ∙ N.mul-zero (2 * k))

-- g backwards
module _ (p d : ℕ) (g e : List ℕ) (pos : 0 < p) (size : length g ≡ d + 1) (h : Backwards p g e) where
  pub backwards_reduced : (t : ℕ) → get_or e t 0 < p
  backwards_reduced t = go (dec_lt t d)
    where
      go : Dec (t < d) → get_or e t 0 < p
      go (yes l) = (h.words t (omega arith)).below
      go (no l) = omega (arith, h.past t (omega arith))

  pub backwards_negated : Negated p d (poly p g) e
  backwards_negated t = go (dec_lt t d)
    where
      go : Dec (t < d) → mk p (get_or e t 0) ≡ minus p (rev (Zmod p) d (poly p g) (1 + t))
      go (yes l) =
          (h.words t (omega arith)).class
          ∙ ap (minus p) (sym (rev_sub (Zmod p) d (1 + t) (poly p g) (omega arith) ∙ poly_at p g (d - (1 + t)) ∙ ap (λ n. mk p (get_or g n 0)) (omega arith)))
      go (no l) =
          ap (mk p) (h.past t (omega arith)) ∙ sym (ap (minus p) (rev_past (Zmod p) d (1 + t) (poly p g) (omega arith)) ∙ Ring.neg-zero (Zmod p))

-- s₀, and what is due before the first turn
pub known_first : (p d : ℕ) (g : Seq (Zmod p)) (e acc s : List ℕ) (r : ℕ) → 1 ≤ length s → Negated p d g e → Weights e acc → Residue p (mk p (2 * d)) r
    → Known p d g acc (set s 0 r) 1
unfolding sum
known_first p d g e acc s r long n h first = record {
  solved = solved_more p (Newton (Zmod p) d g) (newton_causal p d g) s 0 r long (solved_none p (Newton (Zmod p) d g) s) (record {
    below = first.below;
    equation = stored_at p s 0 r long ∙ first.class ∙ sym (cast_mk p (2 * d)) ∙ sym (newton_step_zero (Zmod p) d g (poly p (set s 0 r)));
  });
  due_from = λ k l m.
      let at : 1 + (k - 1) ≡ k = omega arith in
      ap (mk p) (h k m) ∙ mk_mul p (2 * k) (get_or e (k - 1) 0)
      ∙ ap₂ (times p) (sym (cast_mk p (2 * k))) (n (k - 1) ∙ ap (λ j. minus p (rev (Zmod p) d g j)) at)
      ∙ solve2 (Zmod p) (λ a b. a :* :- b) (λ a b. :- (a :* b) :+ :- :0) tt (cast (Zmod p) (2 * k)) (rev (Zmod p) d g k);
}
