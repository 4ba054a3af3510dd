-- What the sums of words say of coefficients: the products that the parts of N are made of and each part by their coefficients, and N as the sum of its parts.
-- Assumes nothing.
use mathlib.Core.Path.{◌≡◌, sym, ◌∙◌, ap, ap₂}
use mathlib.Core.List.{List}
use Prim.Native.Nat.{ℕ, suc, ◌+◌, ◌*◌, ◌-◌, ◌≤◌, ◌<◌}
use native.Mathlib.Decide.{dec_lt}
use native.Mathlib.Omega.{arith}
use lib.ListN.{get_or}
use Rattle.ring.specs.Ring
use Rattle.ring.specs.Identity.{solve2}
use Rattle.ring.specs.Identity.Ex.{:0, ◌:-◌, ◌:*◌, :-◌}
use Rattle.series.specs.Series.{Seq, conv, ∂, ∂-at}
use Rattle.zmod.specs.Zmod.{Zmod, mk, plus, minus, times, mk_add, mk_mul, mk_combination, cast_mk}
use Rattle.zmod.specs.Residues.{Residue, poly, poly_at, residue_same}
use Rattle.isogeny.specs.Rules.{N, f, linear_part_of, first_logarithmic_part_of, second_logarithmic_part_of, N_parts}
use Rattle.isogeny.specs.Source.{line, quadratic}
use Rattle.sheet.specs.declared.Values.{Values}
use Rattle.sheet.specs.Values.{half, question}
use Rattle.sheet.specs.Ready.{Ready, degree_half}
use Rattle.rules.specs.Numerator.{
  shifted,
  shifted_low,
  shifted_high,
  minus_slope,
  minus_bend,
  bend_from,
  line_at,
  quadratic_at,
  cubic_at,
  linear_is,
  first_is,
  second_is,
}

module _ (p : ℕ) where
  -- ── the products

  -- a word above i, as the derivative's coefficient i has it
  above : (s : List ℕ) (i : ℕ) → times p (mk p (i + 1)) (mk p (get_or s (i + 1) 0)) ≡ ∂ (Zmod p) (poly p s) i
  above s i =
      ap₂ (times p) (ap (mk p) (omega arith) ∙ sym (cast_mk p (suc i))) (sym (poly_at p s (i + 1)) ∙ ap (poly p s) (omega arith))
      ∙ sym (∂-at (Zmod p) (poly p s) i)

  pub slope_at : (s : List ℕ) (i a r : ℕ) → Residue p (plus p (mk p 0) (minus p (mk p (get_or s (i + 1) 0)))) a
      → Residue p (times p (mk p (i + 1)) (mk p a)) r → Residue p (minus p (∂ (Zmod p) (poly p s) i)) r
  slope_at s i a r h =
      residue_same
      (ap (times p (mk p (i + 1))) h.class
      ∙ solve2 (Zmod p) (λ c a. c :* (:0 :- a)) (λ c a. :- (c :* a)) tt (mk p (i + 1)) (mk p (get_or s (i + 1) 0))
      ∙ ap (minus p) (above s i))

  -- l x + m y
  pair : (l x m y : ℕ) → mk p (l * x + m * y + 0 * 0) ≡ plus p (times p (mk p l) (mk p x)) (times p (mk p m) (mk p y))
  pair l x m y = ap (mk p) (omega arith) ∙ mk_add p (l * x) (m * y) ∙ ap₂ (plus p) (mk_mul p l x) (mk_mul p m y)

  pub bend_at : (s t : List ℕ) (i x r : ℕ) → x ≡ 2 * (i + 1) * get_or s (i + 1) 0 + 8 * get_or t i 0 + 0 * 0 → Residue p (mk p x) r
      → Residue p (bend_from (Zmod p) (poly p s) (poly p t) i) r
  bend_at s t i x r e =
      residue_same
      (ap (mk p) e ∙ pair (2 * (i + 1)) (get_or s (i + 1) 0) 8 (get_or t i 0)
      ∙ ap₂ (plus p)
      (ap (λ y. times p y (mk p (get_or s (i + 1) 0))) (mk_mul p 2 (i + 1)) ∙ (Zmod p).mul_assoc (mk p 2) (mk p (i + 1)) (mk p (get_or s (i + 1) 0))
      ∙ ap₂ (times p) (sym (cast_mk p 2)) (above s i))
      (ap₂ (times p) (sym (cast_mk p 8)) (sym (poly_at p t i))))

  -- ── the word j places before k

  module _ (a : List ℕ) (j k r : ℕ) (low : k < j → r ≡ 0) (high : j ≤ k → r ≡ get_or a (k - j) 0) where
    pub back_is : mk p r ≡ shifted (Zmod p) j (poly p a) k
    back_is = go (dec_lt k j)
      where
        go : Dec (k < j) → mk p r ≡ shifted (Zmod p) j (poly p a) k
        go (yes l) = ap (mk p) (low l) ∙ sym (shifted_low (Zmod p) j k (poly p a) l)
        go (no l) = ap (mk p) (high (omega arith)) ∙ sym (poly_at p a (k - j)) ∙ sym (shifted_high (Zmod p) j k (poly p a) (omega arith))

-- ── the parts

module _ (v : Values) where
  abbrev p : ℕ
  p = v.p

  pub linear_step : Ready v → (square : List ℕ) (k m s₁ x : ℕ) → Residue p (minus p (mk p v.sigma)) m → mk p s₁ ≡ shifted (Zmod p) 1 (poly p square) k
      → x ≡ v.degree * s₁ + m * get_or square k 0 + 0 * 0 → (g : Seq (Zmod p)) → poly p square ≡ conv (Zmod p) g g
      → mk p x ≡ linear_part_of (Zmod p) (question v) g k
  linear_step ready square k m s₁ x hm h₁ e g is =
      ap (mk p) e ∙ pair p v.degree s₁ m (get_or square k 0)
      ∙ ap₂ (plus p) (ap₂ (times p) (ap (mk p) (degree_half v ready) ∙ sym (cast_mk p (2 * half v + 1))) h₁)
      (ap₂ (times p) hm.class (sym (poly_at p square k)))
      ∙ sym (line_at (Zmod p) (question v) (poly p square) k) ∙ ap (λ a. conv (Zmod p) (line (Zmod p) (question v)) a k) is
      ∙ ap (λ a. a k) (linear_is (Zmod p) (question v) g)

  pub first_step : (slope : List ℕ) (k s₂ x : ℕ) → mk p s₂ ≡ shifted (Zmod p) 2 (poly p slope) k → x ≡ 3 * s₂ + v.a * get_or slope k 0 + 0 * 0
      → (g : Seq (Zmod p)) → poly p slope ≡ minus_slope (Zmod p) g → mk p x ≡ first_logarithmic_part_of (Zmod p) (question v) g k
  first_step slope k s₂ x h₂ e g is =
      ap (mk p) e ∙ pair p 3 s₂ v.a (get_or slope k 0)
      ∙ ap₂ (plus p) (ap₂ (times p) (sym (cast_mk p 3)) h₂) (ap (times p (mk p v.a)) (sym (poly_at p slope k)))
      ∙ sym (quadratic_at (Zmod p) (question v) (poly p slope) k) ∙ ap (λ a. conv (Zmod p) (quadratic (Zmod p) (question v)) a k) is
      ∙ ap (λ a. a k) (first_is (Zmod p) (question v) g)

  pub second_step : (bend : List ℕ) (k b₃ b₁ x : ℕ) → mk p b₃ ≡ shifted (Zmod p) 3 (poly p bend) k → mk p b₁ ≡ shifted (Zmod p) 1 (poly p bend) k
      → x ≡ 1 * b₃ + v.a * b₁ + v.b * get_or bend k 0
      → (g : Seq (Zmod p)) → poly p bend ≡ minus_bend (Zmod p) g → mk p x ≡ second_logarithmic_part_of (Zmod p) (question v) g k
  second_step bend k b₃ b₁ x h₃ h₁ e g is =
      ap (mk p) e ∙ mk_combination p 1 b₃ v.a b₁ v.b (get_or bend k 0)
      ∙ ap₂ (plus p) (ap₂ (plus p) (Ring.one-mul (Zmod p) (mk p b₃) ∙ h₃) (ap (times p (mk p v.a)) h₁)) (ap (times p (mk p v.b)) (sym (poly_at p bend k)))
      ∙ sym (cubic_at (Zmod p) (question v) (poly p bend) k) ∙ ap (λ a. conv (Zmod p) (f (Zmod p) (question v)) a k) is
      ∙ ap (λ a. a k) (second_is (Zmod p) (question v) g)

  pub sum_step : (g : Seq (Zmod p)) (k l m n r : ℕ) → mk p l ≡ linear_part_of (Zmod p) (question v) g k
      → mk p m ≡ first_logarithmic_part_of (Zmod p) (question v) g k → mk p n ≡ second_logarithmic_part_of (Zmod p) (question v) g k
      → Residue p (mk p (l + m + n)) r → Residue p (N (Zmod p) (question v) g k) r
  sum_step g k l m n r hl hm hn =
      residue_same
      (mk_add p (l + m) n ∙ ap₂ (plus p) (mk_add p l m ∙ ap₂ (plus p) hl hm) hn ∙ ap (λ a. a k) (sym (N_parts (Zmod p) (question v) g)))
