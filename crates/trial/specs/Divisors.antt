-- Proper divisors, and what a run of trials says of them.
-- Assumes nothing.
use Rattle.std.specs.Prelude.{◌≡◌, ◌⊎◌, List, ℕ, suc, ◌%◌, ◌<◌, get_or}
use Rattle.std.specs.Int.{◌∣◌}
use Rattle.zmod.specs.Prime.{Prime}

abbrev pub Odd : ℕ → Type 0
Odd n = n % 2 ≡ 1

-- q divides n and is not n itself
abbrev pub Proper : ℕ → ℕ → Type 0
Proper q n = (q ∣ n) × (q < n)

-- no prime between a and b is a proper divisor of n
abbrev pub Undivided : ℕ → ℕ → ℕ → Type 0
Undivided a b n = (q : ℕ) → Prime q → a < q → q < b → Proper q n → ⊥

-- r is 1 where A holds, and 0 where not
abbrev pub Told : Type 0 → ℕ → Type 0
Told A r = (A × (r ≡ 1)) ⊎ ((A → ⊥) × (r ≡ 0))

-- of the numbers at the places from i up to e − 1, r are proper divisors of n
pub data Found (n : ℕ) (qs : List ℕ) (i : ℕ) : ℕ → ℕ → Type 0 where
  none : Found n qs i i 0
  hit : {e r : ℕ} → Found n qs i e r → Proper (get_or qs e 0) n → Found n qs i (suc e) (suc r)
  miss : {e r : ℕ} → Found n qs i e r → (Proper (get_or qs e 0) n → ⊥) → Found n qs i (suc e) r
