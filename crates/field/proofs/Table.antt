-- The table of inverses: an entry from an earlier one, and the whole table.
-- Assumes nothing.
use mathlib.Core.Path.{◌≡◌, sym, ◌∙◌, ap}
use mathlib.Core.List.{List}
use Prim.Native.Nat.{ℕ, ◌+◌, ◌*◌, ◌-◌, ◌≤◌, ◌<◌, ◌%◌, ◌/◌}
use native.Mathlib.Nat as N
use native.Mathlib.Decide.{dec_lt}
use native.Mathlib.Omega.{arith}
use lib.ListN.{length, get_or, get_or-eq_default}
use Rattle.ring.specs.Ring
use Rattle.slices.specs.Filling.{Filled}
use Rattle.zmod.specs.Zmod.{Zmod, mk, plus, times, mk_add, mk_mul, mk_self, plus_zero, times_assoc, times_one}
use Rattle.zmod.specs.Prime.{Prime, step, quotient}
use Rattle.zmod.specs.Residues.{Residue}
use Rattle.field.specs.Inverse.{InverseOf, Inverses, Entry}
use Rattle.field.proofs.Laws.{mk_minus}

-- 0 stands at place 0, and 1 is its own inverse
pub entry_low : {p : ℕ} (k : ℕ) → Prime p → k < 2 → Entry p k k
entry_low {p} k P h = record { at_zero = λ e. e; above_zero = one }
  where
    one : 0 < k → InverseOf p k k
    one l =
        let e : k ≡ 1 = omega arith in
        record { below = omega (arith, P.above_one); unit = ap (λ n. times p (mk p n) (mk p n)) e ∙ times_one p (mk p 1) }

-- a prime above 2 is odd
pub prime_odd : {p : ℕ} → Prime p → 2 < p → p % 2 ≡ 1
prime_odd {p} P l = omega (arith, N.emod_pos_of_not-dvd 2 (P.undivided 2 (omega arith) l))

-- ── the half of a residue

halved : (p y r : ℕ) → mk p (2 * r) ≡ mk p y → times p (mk p 2) (mk p r) ≡ mk p y
halved p y r e = sym (mk_mul p 2 r) ∙ e

pub halve_even : (p y : ℕ) → y < p → y % 2 ≡ 0 → (y / 2 < p) × (times p (mk p 2) (mk p (y / 2)) ≡ mk p y)
halve_even p y l e = (omega arith, halved p y (y / 2) (ap (mk p) (omega arith)))

pub halve_odd : (p y r : ℕ) → y < p → p % 2 ≡ 1 → (y % 2 ≡ 0 → ⊥) → r ≡ y / 2 + p / 2 + 1 → (r < p) × (times p (mk p 2) (mk p r) ≡ mk p y)
halve_odd p y r l o n e =
    (omega arith, halved p y r (ap (mk p) {y = y + p} (omega arith) ∙ mk_add p y p ∙ ap (plus p (mk p y)) (mk_self (omega arith)) ∙ plus_zero p (mk p y)))

-- an even entry is half of the one at half its place: k r = (k / 2) 2 r = (k / 2) v = 1
pub entry_even : {p : ℕ} (k v r : ℕ) → 2 ≤ k → k % 2 ≡ 0 → Entry p (k / 2) v → (r < p) × (times p (mk p 2) (mk p r) ≡ mk p v) → Entry p k r
entry_even {p} k v r l e before half = record {
  at_zero = λ z. absurd (omega arith);
  above_zero = λ pos. record {
    below = half.0;
    unit =
        ap (λ n. times p (mk p n) (mk p r)) {y = k / 2 * 2} (omega arith) ∙ ap (λ x. times p x (mk p r)) (mk_mul p (k / 2) 2)
        ∙ times_assoc p (mk p (k / 2)) (mk p 2) (mk p r) ∙ ap (times p (mk p (k / 2))) half.1
        ∙ (before.above_zero (omega arith)).unit;
  };
}

-- the remainder of a prime is not 0, so an inverse stands at its place
pub remainder_pos : {p : ℕ} (k : ℕ) → Prime p → 2 ≤ k → k < p → 0 < p % k
remainder_pos k P h l = N.emod_pos_of_not-dvd k (P.undivided k h l)

pub quotient_below : {p : ℕ} (k : ℕ) → Prime p → 2 ≤ k → p / k < p
quotient_below {p} k P h = N.div-lt_self (omega (arith, P.above_one)) h

-- the product of −(p / k) and the entry v at p % k
pub entry_high : {p : ℕ} (k v : ℕ) {r : ℕ} → Prime p → 2 ≤ k → k < p → Entry p (p % k) v → Residue p (times p (mk p (p - p / k)) (mk p v)) r
    → Entry p k r
entry_high {p} k v {r} P h l before product = record {
  at_zero = λ e. absurd (omega arith);
  above_zero = λ pos. record {
    below = product.below;
    unit =
        ap (times p (mk p k))
        (product.class ∙ ap (λ x. times p x (mk p v)) (mk_minus p (p / k) (quotient_below k P h)) ∙ Ring.neg-mul (Zmod p) (mk p (p / k)) (mk p v))
        ∙ step (Zmod p) (mk p k) (mk p (p / k)) (mk p (p % k)) (mk p v) (quotient P k) (before.above_zero (remainder_pos k P h l)).unit;
  };
}

pub whole : (p : ℕ) (xs : List ℕ) (n : ℕ) → length xs ≤ n → Filled (Entry p) xs n → Inverses p xs
whole p xs n le all = record { zero = first (dec_lt 0 n); inverse = λ k pos l. (all k (omega arith)).above_zero pos }
  where
    first : Dec (0 < n) → get_or xs 0 0 ≡ 0
    first (yes h) = (all 0 h).at_zero (omega arith)
    first (no h) = get_or-eq_default xs 0 (omega arith)
