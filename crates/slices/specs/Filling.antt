-- Loops that go through a slice from the front and store one word a turn. `Filled P xs k`: each word before k has the property P of its place;
-- `Kept xs₀ xs k`: the words from k on are those of xs₀. Past its end a list reads 0.
-- Assumes nothing.
use Rattle.std.specs.Prelude.{◌≡◌, refl, List, [], ◌∷◌, ℕ, zero, suc, ◌+◌, ◌≤◌, ◌<◌, length, get_or, set}
use Rattle.std.proofs.Common.{sym, ◌∙◌, ap, subst, not-suc-le-zero, le_of_suc-le-suc, arith, ext_get_or, get_or-set_same, get_or-set_other}
use Rattle.std.proofs.Math.Decide.{dec_lt}

abbrev pub Filled : (ℕ → ℕ → Type 0) → List ℕ → ℕ → Type 0
Filled P xs k = (j : ℕ) → j < k → P j (get_or xs j 0)

abbrev pub Kept : List ℕ → List ℕ → ℕ → Type 0
Kept xs₀ xs k = (j : ℕ) → k ≤ j → get_or xs j 0 ≡ get_or xs₀ j 0

pub filled_none : (P : ℕ → ℕ → Type 0) (xs : List ℕ) → Filled P xs 0
filled_none P xs j lt = absurd (not-suc-le-zero lt)

pub filled_more : (P : ℕ → ℕ → Type 0) (xs : List ℕ) (k v : ℕ) → k < length xs → Filled P xs k → P k v → Filled P (set xs k v) (k + 1)
filled_more P xs k v inside before here j lt = go (dec_lt j k)
  where
    go : Dec (j < k) → P j (get_or (set xs k v) j 0)
    go (yes h) = subst (P j) (sym (get_or-set_other xs k j v 0 (omega arith))) (before j h)
    go (no h) =
        let e : k ≡ j = omega arith in
        subst (λ m. P m (get_or (set xs k v) m 0)) e (subst (P k) (sym (get_or-set_same xs k v 0 inside)) here)

pub kept_all : (xs : List ℕ) → Kept xs xs 0
kept_all xs j le = refl

pub kept_more : (xs₀ xs : List ℕ) (k v : ℕ) → Kept xs₀ xs k → Kept xs₀ (set xs k v) (k + 1)
kept_more xs₀ xs k v kept j le = get_or-set_other xs k j v 0 (omega arith) ∙ kept j (omega arith)

-- ── the list of f 0 .. f (n − 1)

unfoldable pub tab : ℕ → (ℕ → ℕ) → List ℕ
tab zero f = []
tab (suc n) f = f 0 ∷ tab n (λ k. f (suc k))

pub length_tab : (n : ℕ) (f : ℕ → ℕ) → length (tab n f) ≡ n
unfolding tab
length_tab zero f = refl
length_tab (suc n) f = ap suc (length_tab n (λ k. f (suc k)))

pub get_d_tab : (n : ℕ) (f : ℕ → ℕ) (i : ℕ) → i < n → get_or (tab n f) i 0 ≡ f i
unfolding tab
get_d_tab zero f i h = absurd (not-suc-le-zero h)
get_d_tab (suc n) f zero h = refl
get_d_tab (suc n) f (suc i) h = get_d_tab n (λ k. f (suc k)) i (le_of_suc-le-suc h)

-- a list that is filled to its end with the values of f
pub filled_tab : (f : ℕ → ℕ) (xs : List ℕ) (n : ℕ) → length xs ≡ n → Filled (λ j v. v ≡ f j) xs n → xs ≡ tab n f
filled_tab f xs n len all =
    ext_get_or 0 xs (tab n f) (len ∙ sym (length_tab n f)) (λ i lt. all i (omega arith) ∙ sym (get_d_tab n f i (omega arith)))
