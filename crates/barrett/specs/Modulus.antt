-- `Prepared m`: the fields of m are what remainders by its p are found with. p shifted by `shift` has exactly 28 bits, so p is neither 0 nor too large.
-- Assumes nothing.
use Rattle.std.specs.Prelude.{◌≡◌, ℕ, ◌-◌, ◌*◌, ◌/◌, ◌%◌, ◌^◌, ◌<◌, ◌≤◌}
use Rattle.std.proofs.Common.{◌∙◌, ap, arith, pow_pos, pow_mono}
use Rattle.std.proofs.Math.Nat as N
use Rattle.std.proofs.Math.Decide.{dec_lt}
use Rattle.barrett.specs.declared.prepared.Modulus.{Modulus}

pub record Prepared (m : Modulus) : Type 0 where
  pub shifted : m.big ≡ m.p * 2 ^ m.shift
  pub at_least : 2 ^ 27 ≤ m.big
  pub below : m.big < 2 ^ 28
  pub folded : m.fold ≡ 2 ^ 36 % m.big
  pub inverted : m.inverse ≡ (2 ^ 59 - 1) / m.big

-- every modulus does: its ghost fields say so
pub prepared : (m : Modulus) → Prepared m
prepared m =
    record { shifted = m.shifted; at_least = m.at_least; below = m.below; folded = m.folded; inverted = m.inverted }

-- what the bounds of a number of 28 bits say of its factors
module _ (p s : ℕ) (lo : 2 ^ 27 ≤ p * 2 ^ s) (hi : p * 2 ^ s < 2 ^ 28) where
  factor_positive : 0 < p
  factor_positive = go (dec_lt 0 p)
    where
      go : Dec (0 < p) → 0 < p
      go (yes h) = h
      go (no h) = let z : p * 2 ^ s ≡ 0 = ap (λ n. n * 2 ^ s) (omega arith) ∙ N.zero-mul (2 ^ s) in omega arith

  factor_below : p < 2 ^ 28
  factor_below = omega (arith, N.le-mul_of_pos_right p (pow_pos s))

  exponent_below : s < 28
  exponent_below = go (dec_lt s 28)
    where
      go : Dec (s < 28) → s < 28
      go (yes h) = h
      go (no h) =
          let large : 2 ^ 28 ≤ 2 ^ s = pow_mono {i = 28} {j = s} (omega arith) in
          omega (arith, N.mul-le-mul_right (2 ^ s) factor_positive, N.one-mul (2 ^ s))

module _ {m : Modulus} (h : Prepared m) where
  pub prepared_positive : 0 < m.p
  prepared_positive = factor_positive m.p m.shift (omega arith) (omega arith)

  pub prepared_below : m.p < 2 ^ 28
  prepared_below = factor_below m.p m.shift (omega arith) (omega arith)

  pub prepared_shift : m.shift < 28
  prepared_shift = exponent_below m.p m.shift (omega arith) (omega arith)
