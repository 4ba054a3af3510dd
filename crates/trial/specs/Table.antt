-- What the constant tables hold: a list of primes, and inverses beside its entries.
-- Assumes nothing.
use Rattle.std.specs.Prelude.{◌≡◌, List, ℕ, ◌*◌, ◌%◌, ◌^◌, ◌≤◌, ◌<◌, length, get_or}
use Rattle.zmod.specs.Prime.{Prime}

-- the primes between a and b, all of them and nothing else, in rising order
pub record PrimesBetween (a b : ℕ) (qs : List ℕ) : Type 0 where
  pub prime : (k : ℕ) → k < length qs → Prime (get_or qs k 0)
  pub above : (k : ℕ) → k < length qs → a < get_or qs k 0
  pub below : (k : ℕ) → k < length qs → get_or qs k 0 < b
  pub rising : (j k : ℕ) → j < k → k < length qs → get_or qs j 0 < get_or qs k 0
  pub complete : (q : ℕ) → Prime q → a < q → q < b → (k : ℕ) × (k < length qs) × (get_or qs k 0 ≡ q)

-- q is between a and b, and i is its inverse modulo W
pub record Pair (W a b q i : ℕ) : Type 0 where
  pub above : a < q
  pub below : q < b
  pub inverse : (q * i) % W ≡ 1

-- at every place from `from` on, entry and inverse are such a pair
pub record Pairs (W a b from : ℕ) (qs is : List ℕ) : Type 0 where
  pub as_long : length is ≡ length qs
  pub pair : (k : ℕ) → from ≤ k → k < length qs → Pair W a b (get_or qs k 0) (get_or is k 0)

-- the two tables whole: every odd prime below 2^14, the first 171 of them below 2^10, and beside all later ones their inverses modulo 2^16
pub record Whole (qs is : List ℕ) : Type 0 where
  pub size : length qs ≡ 1899
  pub primes : PrimesBetween 2 16384 qs
  pub first : get_or qs 170 0 < 1024
  pub pairs : Pairs (2 ^ 16) 1024 16384 171 qs is
