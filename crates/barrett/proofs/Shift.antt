-- The shift of `modulus`: it brings the topmost digit of a number of at most 28 bits to bit 27.
-- Assumes nothing.
use mathlib.Core.Path.{◌≡◌, sym, ◌∙◌, ap}
use Prim.Native.Nat.{ℕ, suc, ◌+◌, ◌-◌, ◌*◌, ◌^◌, ◌<◌, ◌≤◌}
use native.Mathlib.Nat as N
use native.Mathlib.Decide.{dec_lt}
use native.Mathlib.Omega.{arith}
use lib.Count.{count_leading_zeros, leading_top}
use lib.Pow.{pow_mono, pow-add, shl_lt}

module _ (p : ℕ) (pos : 0 < p) (fits : p < 2 ^ 28) where
  abbrev pub zeros : ℕ
  zeros = count_leading_zeros 32 p

  abbrev pub shift : ℕ
  shift = zeros - 4

  top : (j : ℕ) × (zeros + suc j ≡ 32) × (2 ^ j ≤ p) × (p < 2 ^ suc j)
  top = leading_top 32 p pos (omega arith)

  -- the place of the digit
  abbrev j : ℕ
  j = top.0

  top_below : j < 28
  top_below = go (dec_lt j 28)
    where
      go : Dec (j < 28) → j < 28
      go (yes h) = h
      go (no h) = let large : 2 ^ 28 ≤ 2 ^ j = pow_mono {i = 28} {j = j} (omega arith) in omega (arith, top.2)

  pub zeros_least : 4 ≤ zeros
  zeros_least = omega (arith, top_below, top.1)

  pub shift_below : shift < 28
  shift_below = omega (arith, top.1)

  pub shifted_least : 2 ^ 27 ≤ p * 2 ^ shift
  shifted_least =
      let place : j + shift ≡ 27 = omega (arith, top_below, top.1) in
      let e : 2 ^ j * 2 ^ shift ≡ 2 ^ 27 = sym (pow-add 2 j shift) ∙ ap (λ n. 2 ^ n) place in
      omega (arith, N.mul-le-mul_right (2 ^ shift) top.2)

  pub shifted_most : p * 2 ^ shift < 2 ^ 28
  shifted_most =
      let place : suc j + shift ≡ 28 = omega (arith, top_below, top.1) in
      let e : 2 ^ (suc j + shift) ≡ 2 ^ 28 = ap (λ n. 2 ^ n) place in
      omega (arith, shl_lt (suc j) shift top.3)
