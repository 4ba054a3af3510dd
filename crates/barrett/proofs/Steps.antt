-- The arithmetic of one remainder, a section for each of its steps: fold, the quotient by multiplication, the last subtraction, the shift back.
-- Assumes nothing.
use mathlib.Core.Path.{◌≡◌, sym, ◌∙◌, ap, subst}
use Prim.Native.Nat.{ℕ, ◌+◌, ◌-◌, ◌*◌, ◌/◌, ◌%◌, ◌^◌, ◌<◌, ◌≤◌}
use native.Mathlib.Nat as N
use native.Mathlib.Decide.{dec_lt}
use native.Mathlib.Omega.{arith}
use lib.Arith.{digits_mod}
use lib.Pow.{pow_pos}
use Rattle.zmod.specs.Remainder.{mul_mod_right}
use Rattle.zmod.specs.Zmod.{mk}
use Rattle.zmod.specs.Residues.{Residue, residue_mod}
use Rattle.barrett.specs.declared.prepared.Modulus.{Modulus}
use Rattle.barrett.specs.Modulus.{Prepared, prepared_positive, prepared_below}

-- 2^36 may be replaced by its remainder
module _ {m : Modulus} (h : Prepared m) (x : ℕ) where
  abbrev high : ℕ
  high = x / 2 ^ 36

  abbrev rest : ℕ
  rest = x % 2 ^ 36

  pub fold_same : (high * m.fold + rest) % m.big ≡ x % m.big
  fold_same =
      ap (λ n. (high * n + rest) % m.big) h.folded ∙ sym (N.mod-add-mod (high * (2 ^ 36 % m.big)) m.big rest)
      ∙ ap (λ n. (n + rest) % m.big) (mul_mod_right high (2 ^ 36) m.big) ∙ N.mod-add-mod (high * 2 ^ 36) m.big rest
      ∙ ap (λ n. n % m.big) (N.div-add-mod' x (2 ^ 36))

  pub fold_word : m.fold < 2 ^ 28
  fold_word = omega (arith, h.folded, N.mod-lt (2 ^ 36) {m = m.big} (omega arith))

  pub fold_below : x < 2 ^ 64 → high * m.fold ≤ 2 ^ 56
  fold_below fits = N.mul-le-mul {n₁ = high} {m₁ = m.fold} {n₂ = 2 ^ 28} {m₂ = 2 ^ 28} (omega arith) (omega (arith, fold_word))

-- what rounding down leaves of the inverse
module _ {m : Modulus} (h : Prepared m) where
  inverse_le : m.inverse * m.big < 2 ^ 59
  inverse_le = omega (arith, ap (λ n. n * m.big) h.inverted, N.div-mul-le_self (2 ^ 59 - 1) m.big)

  inverse_ge : 2 ^ 59 ≤ m.inverse * m.big + m.big
  inverse_ge = omega (arith, ap (λ n. n * m.big) h.inverted, N.lt-div-mul-add {a = 2 ^ 59 - 1} {b = m.big} (omega arith))

  pub inverse_word : m.inverse < 2 ^ 32
  inverse_word = omega (arith, h.inverted, (N.div-lt_iff_lt-mul {k = m.big} {x = 2 ^ 59 - 1} {y = 2 ^ 32} (omega arith)).1 (omega arith))

-- the quotient by multiplication, for y of 58 bits
module _ {m : Modulus} (h : Prepared m) (y : ℕ) (fits : y < 2 ^ 58) where
  abbrev u : ℕ
  u = y / 2 ^ 26

  abbrev i : ℕ
  i = m.inverse

  abbrev big : ℕ
  big = m.big

  abbrev pub quotient : ℕ
  quotient = u * i / 2 ^ 33

  -- it is not too large
  pub quotient_le : quotient * big ≤ y
  quotient_le =
      let a : quotient * 2 ^ 33 * big ≤ u * i * big = N.mul-le-mul_right big (N.div-mul-le_self (u * i) (2 ^ 33)) in
      let b : quotient * 2 ^ 33 * big ≡ quotient * big * 2 ^ 33 = N.mul_right_comm quotient (2 ^ 33) big in
      let c : u * (i * big) ≤ u * 2 ^ 59 = N.mul-le-mul_left u (omega (arith, inverse_le h)) in
      omega (arith, N.mul_assoc u i big)

  -- and too small by one at most: at most half of P is lost in the digits that u leaves out, less than half in those that i leaves out, and less than P
  -- in the last shift
  pub quotient_ge : y < quotient * big + 2 * big
  quotient_ge =
      let a : u * i * big ≤ (quotient * 2 ^ 33 + (2 ^ 33 - 1)) * big = N.mul-le-mul_right big (omega arith) in
      let b : quotient * 2 ^ 33 * big ≡ quotient * big * 2 ^ 33 = N.mul_right_comm quotient (2 ^ 33) big in
      let c : u * 2 ^ 59 ≤ u * (i * big + big) = N.mul-le-mul_left u (inverse_ge h) in
      let d : u * big ≤ (2 ^ 32 - 1) * big = N.mul-le-mul_right big (omega arith) in
      omega (arith, N.add-mul (quotient * 2 ^ 33) (2 ^ 33 - 1) big, N.mul_assoc u i big, N.mul-add u (i * big) big)

  pub quotient_same : (y - quotient * big) % big ≡ y % big
  quotient_same = sym (N.mul-add-mod_self_right quotient big (y - quotient * big)) ∙ ap (λ n. n % big) (N.add-sub_of_le quotient_le)

-- a number below 2 P, less P where it is not below P
module _ (big r : ℕ) (word : big < 2 ^ 28) (fits : r < 2 * big) where
  abbrev carry : ℕ
  carry = (r + 2 ^ 32 - big) / 2 ^ 32

  cases : Dec (r < big) → (carry * big ≤ r) × (r - carry * big ≡ r % big)
  cases (yes h) =
      let none : carry * big ≡ 0 = ap (λ n. n * big) (omega arith) ∙ N.zero-mul big in
      (omega arith, omega (arith, N.mod-eq_of_lt h))
  cases (no h) =
      let one : carry * big ≡ big = ap (λ n. n * big) (omega arith) ∙ N.one-mul big in
      (omega arith, ap (λ n. r - n) one ∙ sym (N.mod-eq-sub-mod {n = r} {m = big} (omega arith) ∙ N.mod-eq_of_lt (omega arith)))

  pub carry_le : carry * big ≤ r
  carry_le = (cases (dec_lt r big)).0

  pub carry_rest : r - carry * big ≡ r % big
  carry_rest = (cases (dec_lt r big)).1

-- shifting number and modulus shifts the remainder
shifted_mod : (x p s : ℕ) → 0 < p → x * 2 ^ s % (p * 2 ^ s) / 2 ^ s ≡ x % p
shifted_mod x p s pos = ap (λ n. n / 2 ^ s) whole ∙ N.mul-div_cancel (x % p) (pow_pos s)
  where
    split : x * 2 ^ s ≡ x / p * (p * 2 ^ s) + x % p * 2 ^ s
    split =
        ap (λ n. n * 2 ^ s) (sym (N.div-add-mod' x p)) ∙ N.add-mul (x / p * p) (x % p) (2 ^ s)
        ∙ ap (λ n. n + x % p * 2 ^ s) (N.mul_assoc (x / p) p (2 ^ s))

    whole : x * 2 ^ s % (p * 2 ^ s) ≡ x % p * 2 ^ s
    whole = ap (λ n. n % (p * 2 ^ s)) split ∙ digits_mod (x / p) (N.mul-lt-mul_of_pos_right (N.mod-lt x pos) (pow_pos s))

module _ {m : Modulus} (h : Prepared m) (x : ℕ) where
  abbrev s : ℕ
  s = m.shift

  shifted_below : (w : ℕ) → x < w * m.p → x * 2 ^ s < w * 2 ^ 28
  shifted_below w fits =
      let a : x * 2 ^ s < w * m.p * 2 ^ s = N.mul-lt-mul_of_pos_right fits (pow_pos s) in
      let b : w * m.big ≡ w * (m.p * 2 ^ s) = ap (λ n. w * n) h.shifted in
      omega (arith, N.mul_assoc w m.p (2 ^ s), N.mul-le-mul_left w (N.le_of_lt h.below))

  -- what needs no fold
  pub shifted_short : x < 2 ^ 30 * m.p → x * 2 ^ s % 2 ^ 64 < 2 ^ 58
  shifted_short fits =
      let low : x * 2 ^ s < 2 ^ 58 = shifted_below (2 ^ 30) fits in
      let small : x * 2 ^ s < 2 ^ 64 = omega arith in
      omega (arith, N.mod-eq_of_lt small)

  -- the last step: the remainder by P is shifted back
  module _ (fits : x < 2 ^ 36 * m.p) (y : ℕ) (is : y ≡ x * 2 ^ s % 2 ^ 64 % m.big) where
    shifted_back : y / 2 ^ s ≡ x % m.p
    shifted_back =
        ap (λ n. n / 2 ^ s) is ∙ ap (λ n. n % m.big / 2 ^ s) (N.mod-eq_of_lt (shifted_below (2 ^ 36) fits))
        ∙ ap (λ n. x * 2 ^ s % n / 2 ^ s) h.shifted ∙ shifted_mod x m.p s (prepared_positive h)

    pub shifted_word : y / 2 ^ s < 2 ^ 28
    shifted_word = omega (arith, shifted_back, prepared_below h, N.mod-lt x (prepared_positive h))

    pub shifted_residue : Residue m.p (mk m.p x) (y / 2 ^ s)
    shifted_residue = subst (Residue m.p (mk m.p x)) (sym shifted_back) (residue_mod (prepared_positive h) x)
