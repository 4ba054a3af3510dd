-- What single words contribute: a power and a slope of the tables, and the sums of products with their bounds; and the blocks of a slice.
-- Assumes nothing.
use mathlib.Core.Path.{◌≡◌, refl, sym, ◌∙◌, ap, ap₂}
use mathlib.Core.List.{List, ◌++◌}
use Prim.Native.Nat.{ℕ, zero, suc, ◌+◌, ◌-◌, ◌*◌, ◌^◌, ◌≤◌, ◌<◌}
use native.Mathlib.Nat as N
use native.Mathlib.Decide.{dec_lt}
use native.Mathlib.Numerals.{add-one}
use native.Mathlib.Omega.{arith}
use lib.ListN.{length, get_or, get_or-append, get_or-eq_default}
use Rattle.std.proofs.Common.{length-append, get_or-append-add}
use Rattle.ring.specs.Ring.{pow, pow-zero, pow-suc, pow-add}
use Rattle.slices.specs.Filling.{Filled}
use Rattle.series.specs.Series.{sum, sum_suc}
use Rattle.zmod.specs.Zmod.{Elt, Zmod, mk, plus, times, times_one, mk_add, mk_mul, cast_mk}
use Rattle.zmod.specs.Residues.{Residue, Reduced, Residues, poly, poly_at, residue_same, residue_self}
use Rattle.evaluation.specs.Tables.{Low, rise, weighed}

-- ── powers

module _ (p x : ℕ) where
  abbrev pub Power : ℕ → ℕ → Type 0
  Power j v = Residue p (pow (Zmod p) (mk p x) j) v

  pub power_zero : 1 < p → Power 0 1
  power_zero pos = residue_same (sym (pow-zero (Zmod p) (mk p x))) (residue_self 1 pos)

  pub power_one : x < p → Power 1 x
  power_one low =
      residue_same (sym (pow-suc (Zmod p) (mk p x) 0 ∙ ap (times p (mk p x)) (pow-zero (Zmod p) (mk p x)) ∙ times_one p (mk p x))) (residue_self x low)

  pub power_sum : (i j k : ℕ) {v w r : ℕ} → i ≡ j + k → Power j v → Power k w → Residue p (times p (mk p v) (mk p w)) r → Power i r
  power_sum i j k e hv hw h =
      residue_same (ap₂ (times p) hv.class hw.class ∙ sym (pow-add (Zmod p) (mk p x) j k) ∙ ap (pow (Zmod p) (mk p x)) (sym e)) h

-- ── slopes

abbrev pub Slope : List ℕ → ℕ → ℕ → Type 0
Slope powers i v = v ≡ i * get_or powers (i - 1) 0

pub product_le : {x y m n : ℕ} → x ≤ m → y ≤ n → x * y ≤ m * n
product_le {x} {y} {m} {n} hx hy = N.mul-le-mul {n₁ = x} {m₁ = y} {n₂ = m} {m₂ = n} hx hy

pub slope_low : (i y : ℕ) → y < 2 ^ 28 → i * y ≤ (i + 1) * 268435455
slope_low i y l = omega (arith, product_le {x = i} {y = y} {m = i} {n = 268435455} (omega arith) (omega arith))

pub slope_at : (p : ℕ) (u : Elt p) (powers : List ℕ) (i v : ℕ) → Residues p (pow (Zmod p) u) powers → i ≤ length powers
    → Slope powers i v → mk p v ≡ rise (Zmod p) u i
slope_at p u powers zero v h l e = ap (mk p) (e ∙ N.zero-mul _)
slope_at p u powers (suc i) v h l e =
    ap (mk p) (e ∙ ap (λ k. suc i * get_or powers k 0) (omega arith)) ∙ mk_mul p (suc i) (get_or powers i 0)
    ∙ ap₂ (times p) (sym (cast_mk p (suc i))) (sym (poly_at p powers i) ∙ h.coefficients i (omega arith))

pub slopes_low : (powers out : List ℕ) (n : ℕ) → length out ≤ n → Reduced (2 ^ 28) powers → Filled (Slope powers) out n → Low out
slopes_low powers out n end low all i = go (dec_lt i n)
  where
    go : Dec (i < n) → get_or out i 0 ≤ (i + 1) * 268435455
    go (yes l) = omega (arith, all i l, slope_low i (get_or powers (i - 1) 0) (low (i - 1)))
    go (no l) = let z : get_or out i 0 ≡ 0 = get_or-eq_default out 0 (omega arith) in omega arith

-- ── sums of products

-- a product more, of a word of 28 bits and one that is at most i + 1 times such a word
pub small_more : (i s t : ℕ) → 2 * s ≤ i * (i + 1) * 72057593501057025 → t ≤ (i + 1) * 72057593501057025
    → 2 * (s + t) ≤ (i + 1) * (i + 1 + 1) * 72057593501057025
small_more i s t hs ht =
    let e : (i + 1) * (i + 1 + 1) ≡ i * (i + 1) + 2 * (i + 1) = N.mul_comm (i + 1) (i + 1 + 1) ∙ ap (λ k. k * (i + 1)) (omega arith) ∙ N.add-mul i 2 (i + 1) in
    omega arith

pub small_all : (i s : ℕ) → i ≤ 16 → 2 * s ≤ i * (i + 1) * 72057593501057025 → s ≤ 136 * 72057593501057025
small_all i s l h = omega (arith, product_le {x = i} {y = i + 1} {m = 16} {n = 17} l (omega arith))

pub term_low : (i x y : ℕ) → x < 2 ^ 28 → y ≤ (i + 1) * 268435455 → x * y ≤ (i + 1) * 72057593501057025
term_low i x y hx hy =
    let h : x * y ≤ 268435455 * ((i + 1) * 268435455) = product_le {x = x} {y = y} (omega arith) hy in
    omega arith

pub weighed_more : (p : ℕ) (a b : List ℕ) (i s t : ℕ) → t ≡ get_or a i 0 * get_or b i 0 → mk p s ≡ weighed (Zmod p) (poly p a) (poly p b) i
    → mk p (s + t) ≡ weighed (Zmod p) (poly p a) (poly p b) (i + 1)
weighed_more p a b i s t et es =
    mk_add p s t
    ∙ ap₂ (plus p) es (ap (mk p) et ∙ mk_mul p (get_or a i 0) (get_or b i 0) ∙ ap₂ (times p) (sym (poly_at p a i)) (sym (poly_at p b i)))
    ∙ sym (ap (weighed (Zmod p) (poly p a) (poly p b)) (add-one i) ∙ sum_suc (Zmod p) (λ i. times p (poly p a i) (poly p b i)) i)

pub weighed_none : (p : ℕ) (a b : List ℕ) → mk p 0 ≡ weighed (Zmod p) (poly p a) (poly p b) 0
unfolding sum
weighed_none p a b = refl

-- ── one block more

pub factor_low : (m x y : ℕ) → m ≤ 16 → x ≤ (m + 1) * 268435455 → y < 2 ^ 28 → x * y ≤ 17 * 72057593501057025
factor_low m x y hm hx hy = omega (arith, product_le {x = x} {y = y} {m = 17 * 268435455} {n = 268435455} (omega arith) (omega arith))

pub product_more : (p s t x y : ℕ) {w z : Elt p} → mk p s ≡ w → mk p x ≡ z → t ≡ x * y → mk p (s + t) ≡ plus p w (times p z (mk p y))
product_more p s t x y es ex et = mk_add p s t ∙ ap₂ (plus p) es (ap (mk p) et ∙ mk_mul p x y ∙ ap (λ z. times p z (mk p y)) ex)

-- ── blocks: the last of the words that are left of a

pub record Front (a rest : List ℕ) : Type 0 where
  pub fits : length rest ≤ length a
  pub same : (j : ℕ) → j < length rest → get_or rest j 0 ≡ get_or a j 0

pub front_all : (a : List ℕ) → Front a a
front_all a = record { fits = omega arith; same = λ j l. refl }

module _ (a rest left block : List ℕ) (front : Front a rest) (cut : rest ≡ left ++ block) where
  pub sizes : length rest ≡ length left + length block
  sizes = ap length cut ∙ length-append left block

  pub front_left : Front a left
  front_left = record {
    fits = omega (arith, sizes, front.fits);
    same = λ j l.
        sym (get_or-append left block 0 j l) ∙ ap (λ xs. get_or xs j 0) (sym cut) ∙ front.same j (omega (arith, sizes));
  }

  at : (j : ℕ) → j < length block → get_or block j 0 ≡ get_or a (length left + j) 0
  at j l = sym (get_or-append-add left block j 0) ∙ ap (λ xs. get_or xs (length left + j) 0) (sym cut) ∙ front.same (length left + j) (omega (arith, sizes))

  pub block_reduced : {q : ℕ} → Reduced q a → Reduced q block
  block_reduced {q} low j = go (dec_lt j (length block))
    where
      go : Dec (j < length block) → get_or block j 0 < q
      go (yes l) = omega (arith, at j l, low (length left + j))
      go (no l) = let z : get_or block j 0 ≡ 0 = get_or-eq_default block 0 (omega arith) in omega (arith, low 0)

  pub block_poly : (p j : ℕ) → j < length block → poly p block j ≡ poly p a (length left + j)
  block_poly p j l = poly_at p block j ∙ ap (mk p) (at j l) ∙ sym (poly_at p a (length left + j))
