-- Sums that take their remainder later: `Sums p f xs` says that the words of xs are in the classes of the first coefficients of f, and below 2^36 p, as far
-- as remainders over whole arrays go; `ProductSums c p f xs`, that they are in these classes and no larger than c products of residues, so that more can be
-- added.
-- Assumes nothing.
use Rattle.std.specs.Prelude.{◌≡◌, List, ℕ, ◌*◌, ◌-◌, ◌^◌, ◌≤◌, ◌<◌, length, get_or}
use Rattle.std.proofs.Math.Nat as N
use Rattle.std.proofs.Common.{arith}
use Rattle.series.specs.Series.{Seq}
use Rattle.zmod.specs.Zmod.{Zmod}
use Rattle.zmod.specs.Residues.{poly, Residues, residues_upto}

pub record Sums (p : ℕ) (f : Seq (Zmod p)) (xs : List ℕ) : Type 0 where
  pub bounded : (k : ℕ) → get_or xs k 0 < 2 ^ 36 * p
  pub classes : (k : ℕ) → k < length xs → poly p xs k ≡ f k

-- their remainders are f's residues
pub sums_residues : {p : ℕ} {f : Seq (Zmod p)} {xs ys : List ℕ} → length ys ≤ length xs → Sums p f xs → Residues p (poly p xs) ys → Residues p f ys
sums_residues le h = residues_upto (λ i l. h.classes i (omega arith))

pub record ProductSums (c p : ℕ) (f : Seq (Zmod p)) (xs : List ℕ) : Type 0 where
  pub few : (k : ℕ) → get_or xs k 0 ≤ c * ((p - 1) * (p - 1))
  pub classes : (k : ℕ) → k < length xs → poly p xs k ≡ f k

-- the sum of c products of residues
pub products_low : (c p x : ℕ) → 0 < p → c * p ≤ 2 ^ 36 → x ≤ c * ((p - 1) * (p - 1)) → x < 2 ^ 36 * p
products_low c p x pos fits le =
    let once : c * (p - 1) ≤ 2 ^ 36 = N.le_trans (N.mul-le-mul_left c (omega arith)) fits in
    omega (arith, N.mul-le-mul_right (p - 1) once, N.mul_assoc c (p - 1) (p - 1))

pub product_sums : {c p : ℕ} {f : Seq (Zmod p)} {xs : List ℕ} → 0 < p → c * p ≤ 2 ^ 36 → ProductSums c p f xs → Sums p f xs
product_sums {c} {p} {f} {xs} pos fits h = record { bounded = λ k. products_low c p (get_or xs k 0) pos fits (h.few k); classes = h.classes }

-- the largest product of two numbers of 28 bits
pub product_le : {x y : ℕ} → x < 2 ^ 28 → y < 2 ^ 28 → x * y ≤ 72057593501057025
product_le {x} {y} hx hy = N.mul-le-mul {n₁ = x} {m₁ = y} {n₂ = 268435455} {m₂ = 268435455} (omega arith) (omega arith)
