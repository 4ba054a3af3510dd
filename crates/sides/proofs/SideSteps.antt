-- What the slices hold after a run of calls: each call's result is a whole polynomial where the slice is long enough, and the polynomials are the two
-- sides of R3.
-- Assumes nothing.
use mathlib.Core.Path.{◌≡◌, sym, ◌∙◌, ap, ap₂, subst}
use mathlib.Core.List.{List, ◌++◌}
use Prim.Native.Nat.{ℕ, ◌+◌, ◌*◌, ◌≤◌}
use native.Mathlib.Omega.{arith}
use lib.ListN.{length, take}
use lib.Seq.{take_at}
use Rattle.ring.specs.Ring.{cast}
use Rattle.series.specs.Series.{Seq, conv, sums, scaled, ∂}
use Rattle.series.specs.Degree.{sums_below, scaled_below}
use Rattle.zmod.specs.Zmod.{Zmod, mk, minus}
use Rattle.zmod.specs.Residues.{poly, poly_past, Residues, residues_same, residues_poly, residues_sums, residues_scaled}
use Rattle.isogeny.specs.Rules.{W, f, left, right}
use Rattle.sheet.specs.declared.Values.{Values}
use Rattle.sheet.specs.Values.{half, question}
use Rattle.rules.specs.Numerator.{scaled_minus}
use Rattle.rules.specs.Words.{Whole, whole, whole_same, from_derivative, from_product}
use Rattle.sides.specs.Sides.{factor, terms, crossed, right_is, W_is, W_below, left_is}

module _ (p : ℕ) where
  -- ── the front of an array: what a call left in the part that was lent

  pub front : {a : Seq (Zmod p)} (e xs : List ℕ) (n : ℕ) → length e ≡ n → Residues p a e → Residues p a (take n (e ++ xs))
  front {a} e xs n l h = subst (Residues p a) (sym (take_at e xs n l)) h

  pub front_whole : {a : Seq (Zmod p)} (e xs : List ℕ) (n : ℕ) → length e ≡ n → Whole p a e → Whole p a (take n (e ++ xs))
  front_whole {a} e xs n l h = subst (Whole p a) (sym (take_at e xs n l)) h

  pub factor_steps : (n h t₁ t₂ : List ℕ) (a : ℕ) → length t₁ + 1 ≡ 2 * length n → length h ≤ length t₁ → length t₂ ≡ length t₁
      → Residues p (conv (Zmod p) (poly p n) (poly p n)) t₁ → Residues p (sums (Zmod p) (poly p t₁) (scaled (Zmod p) (mk p a) (poly p h))) t₂
      → Whole p (factor (Zmod p) (mk p a) (poly p n) (poly p h)) t₂
  unfolding factor
  factor_steps n h t₁ t₂ a l₁ l₂ l₃ r₁ r₂ =
      whole_same (ap (λ u. sums (Zmod p) u (scaled (Zmod p) (mk p a) (poly p h))) (from_product p n n t₁ (omega arith) r₁).same)
      (whole r₂ (sums_below (Zmod p) _ (poly p t₁) _ (λ i k. poly_past p t₁ i (omega arith))
      (scaled_below (Zmod p) _ (mk p a) (poly p h) (λ i k. poly_past p h i (omega arith)))))

  pub terms_steps : (n s h t o₁ o₂ o₃ : List ℕ) (b : ℕ) → length o₂ ≡ length o₁ → length o₃ ≡ length o₂
      → Residues p (conv (Zmod p) (poly p h) (poly p s)) o₁ → Residues p (scaled (Zmod p) (mk p b) (poly p o₁)) o₂
      → Residues p (sums (Zmod p) (poly p o₂) (conv (Zmod p) (poly p n) (poly p t))) o₃
      → Residues p (sums (Zmod p) (scaled (Zmod p) (mk p b) (conv (Zmod p) (poly p h) (poly p s))) (conv (Zmod p) (poly p n) (poly p t))) o₃
  terms_steps n s h t o₁ o₂ o₃ b l₁ l₂ r₁ r₂ r₃ =
      residues_sums (conv (Zmod p) (poly p n) (poly p t)) (omega arith) (residues_scaled (mk p b) (omega arith) r₁ r₂) r₃

  pub cross_steps : (g n dg dn o₁ o₂ o₃ : List ℕ) (m : ℕ) → mk p m ≡ minus p (cast (Zmod p) 2) → length o₂ ≡ length o₁ → length o₃ ≡ length o₂
      → Residues p (conv (Zmod p) (poly p n) (poly p dg)) o₁ → Residues p (scaled (Zmod p) (mk p m) (poly p o₁)) o₂
      → Residues p (sums (Zmod p) (poly p o₂) (conv (Zmod p) (poly p dn) (poly p g))) o₃
      → Residues p (crossed (Zmod p) (poly p g) (poly p n) (poly p dg) (poly p dn)) o₃
  unfolding crossed
  cross_steps g n dg dn o₁ o₂ o₃ m e l₁ l₂ r₁ r₂ r₃ =
      residues_same (ap (λ a. sums (Zmod p) a (conv (Zmod p) (poly p dn) (poly p g))) (scaled_minus (Zmod p) (mk p m) 2 _ e))
      (residues_sums (conv (Zmod p) (poly p dn) (poly p g)) (omega arith) (residues_scaled (mk p m) (omega arith) r₁ r₂) r₃)

module _ (v : Values) where
  abbrev p : ℕ
  p = v.p

  pub right_steps : (g n s h t out : List ℕ) → length s + 1 ≡ 2 * length g → length h + 1 ≡ 2 * length s
      → Residues p (conv (Zmod p) (poly p g) (poly p g)) s → Residues p (conv (Zmod p) (poly p s) (poly p s)) h
      → Whole p (factor (Zmod p) (mk p v.atilde) (poly p n) (poly p h)) t
      → Residues p (sums (Zmod p) (scaled (Zmod p) (mk p v.btilde) (conv (Zmod p) (poly p h) (poly p s))) (conv (Zmod p) (poly p n) (poly p t))) out
      → Residues p (right (Zmod p) (question v) (poly p g) (poly p n)) out
  unfolding terms
  right_steps g n s h t out l₁ l₂ r₁ r₂ w r =
      residues_same
      (ap (λ a. sums (Zmod p) (scaled (Zmod p) (mk p v.btilde) (conv (Zmod p) (poly p h) (poly p s))) (conv (Zmod p) (poly p n) a)) w.same
      ∙ ap (terms (Zmod p) (mk p v.atilde) (mk p v.btilde) (poly p n) (poly p s)) (from_product p s s h (omega arith) r₂).same
      ∙ ap (λ a. terms (Zmod p) (mk p v.atilde) (mk p v.btilde) (poly p n) a (conv (Zmod p) a a)) (from_product p g g s (omega arith) r₁).same
      ∙ right_is (Zmod p) (question v) (poly p g) (poly p n)) r

  pub left_steps : (g n dg dn w ww cubic₁ out : List ℕ) → length g ≡ half v + 1 → length n ≡ 2 * half v + 2 → length dg ≡ half v → length dn ≡ 2 * half v + 1
      → length w ≡ 3 * half v + 1 → length ww ≡ 6 * half v + 1 → Residues p (∂ (Zmod p) (poly p g)) dg → Residues p (∂ (Zmod p) (poly p n)) dn
      → Residues p (crossed (Zmod p) (poly p g) (poly p n) (poly p dg) (poly p dn)) w → Residues p (conv (Zmod p) (poly p w) (poly p w)) ww
      → Whole p (f (Zmod p) (question v)) cubic₁ → Residues p (conv (Zmod p) (poly p cubic₁) (poly p ww)) out
      → Residues p (left (Zmod p) (question v) (poly p g) (poly p n)) out
  left_steps g n dg dn w ww cubic₁ out l₁ l₂ l₃ l₄ l₅ l₆ r₁ r₂ r₃ r₄ k r =
      residues_same
      (ap₂ (conv (Zmod p)) k.same ((from_product p w w ww (omega arith) r₄).same ∙ ap (λ a. conv (Zmod p) a a) slopes)
      ∙ left_is (Zmod p) (question v) (poly p g) (poly p n)) r
    where
      derived : crossed (Zmod p) (poly p g) (poly p n) (poly p dg) (poly p dn) ≡ W (Zmod p) (question v) (poly p g) (poly p n)
      derived =
          ap₂ (crossed (Zmod p) (poly p g) (poly p n)) (from_derivative p g dg (omega arith) r₁).same (from_derivative p n dn (omega arith) r₂).same
          ∙ W_is (Zmod p) (question v) (poly p g) (poly p n)

      slopes : poly p w ≡ W (Zmod p) (question v) (poly p g) (poly p n)
      slopes =
          residues_poly (residues_same derived r₃)
          (λ i m. W_below (Zmod p) (question v) (poly p g) (poly p n) (λ j o. poly_past p g j (omega arith)) (λ j o. poly_past p n j (omega arith)) i
          (omega arith))
