-- Laws of the partial sums of a coefficient of a product: one product more, no product, and the whole coefficient.
-- Assumes nothing.
use mathlib.Core.Path.{◌≡◌, refl, sym, ◌∙◌, ap, ap₂}
use mathlib.Core.List.{List}
use Prim.Native.Nat.{ℕ, ◌+◌, ◌-◌, ◌*◌, ◌≤◌, ◌<◌, min, max}
use native.Mathlib.Numerals.{add-one}
use native.Mathlib.Omega.{arith}
use lib.ListN.{length, get_or}
use Rattle.ring.specs.Ring
use Rattle.series.specs.Series.{Seq, sum, sum_suc, sum_rest, conv, conv_sum}
use Rattle.zmod.specs.Zmod.{Elt, Zmod, mk, plus, times, plus_assoc, mk_add, mk_mul}
use Rattle.zmod.specs.Residues.{Residue, Reduced, poly, poly_at, poly_past, residue_same}
use Rattle.poly.specs.Partial.{partial}

pub reduced_mono : {p q : ℕ} (xs : List ℕ) → p ≤ q → Reduced p xs → Reduced q xs
reduced_mono xs le h i = omega (arith, h i)

sum_none : (p : ℕ) (f : Seq (Zmod p)) → sum (Zmod p) f 0 ≡ mk p 0
unfolding sum
sum_none p f = refl

module _ (p : ℕ) (a b : List ℕ) (k : ℕ) where
  term : Seq (Zmod p)
  term i = times p (poly p a i) (poly p b (k - i))

  -- one product more
  pub partial_more : (from i s t : ℕ) → t ≡ get_or a i 0 * get_or b (k - i) 0
      → partial p a b k i ≡ plus p (partial p a b k from) (mk p s) → partial p a b k (i + 1) ≡ plus p (partial p a b k from) (mk p (s + t))
  unfolding partial term
  partial_more from i s t et e =
      ap (partial p a b k) (add-one i) ∙ sum_suc (Zmod p) term i
      ∙ ap₂ (plus p) e (ap₂ (times p) (poly_at p a i) (poly_at p b (k - i)) ∙ sym (mk_mul p (get_or a i 0) (get_or b (k - i) 0)) ∙ ap (mk p) (sym et))
      ∙ plus_assoc p _ _ _ ∙ ap (plus p (partial p a b k from)) (sym (mk_add p s t))

  -- where b has ended, and where a has, the terms are 0
  pub partial_before : (n : ℕ) → n ≤ k + 1 - length b → partial p a b k n ≡ mk p 0
  unfolding partial term
  partial_before n h = ap (partial p a b k) (omega arith) ∙ sum_rest (Zmod p) term 0 n none ∙ sum_none p term
    where
      none : (i : ℕ) → 0 ≤ i → i < 0 + n → term i ≡ mk p 0
      none i _ lt = ap (times p (poly p a i)) (poly_past p b (k - i) (omega arith)) ∙ Ring.mul-zero (Zmod p) _

  pub partial_all : (n : ℕ) → min (k + 1) (length a) ≤ n → n ≤ k + 1 → partial p a b k n ≡ conv (Zmod p) (poly p a) (poly p b) k
  unfolding partial term
  partial_all n past h = sym (conv_sum (Zmod p) (poly p a) (poly p b) k ∙ ap (partial p a b k) (omega arith) ∙ sum_rest (Zmod p) term n (k + 1 - n) none)
    where
      none : (i : ℕ) → n ≤ i → i < n + (k + 1 - n) → term i ≡ mk p 0
      none i lo hi = ap (λ x. times p x (poly p b (k - i))) (poly_past p a i (omega arith)) ∙ Ring.zero-mul (Zmod p) _

  -- a remainder is taken: s stands for c and the terms from `from` to i, t for those from i to stop
  pub span_turn : (c : Elt p) (from i stop s t r : ℕ) → mk p r ≡ mk p (s + t) → plus p (partial p a b k from) (mk p s) ≡ plus p c (partial p a b k i)
      → partial p a b k stop ≡ plus p (partial p a b k i) (mk p t) → plus p (partial p a b k from) (mk p r) ≡ plus p c (partial p a b k stop)
  span_turn c from i stop s t r er es et =
      ap (plus p (partial p a b k from)) (er ∙ mk_add p s t) ∙ sym (plus_assoc p _ _ _) ∙ ap (λ x. plus p x (mk p t)) es ∙ plus_assoc p _ _ _
      ∙ ap (plus p c) (sym et)

  -- a span that starts where b begins has no terms before it
  pub span_whole : (c : Elt p) (from to r : ℕ) → from ≤ k + 1 - length b → plus p (partial p a b k from) (mk p r) ≡ plus p c (partial p a b k to)
      → mk p r ≡ plus p c (partial p a b k to)
  span_whole c from to r le e =
      sym (Ring.zero-add (Zmod p) (mk p r)) ∙ ap (λ x. plus p x (mk p r)) (sym (partial_before from le)) ∙ e

  pub coefficient_class : (c : Elt p) (from to r x : ℕ) → from ≡ k + 1 - length b → to ≡ max from (min (k + 1) (length a))
      → plus p (partial p a b k from) (mk p x) ≡ plus p c (partial p a b k to) → Residue p (mk p x) r → Residue p
      (plus p c (conv (Zmod p) (poly p a) (poly p b) k)) r
  coefficient_class c from to r x ef et e h =
      residue_same (span_whole c from to x (omega arith) e ∙ ap (plus p c) (partial_all to (omega arith) (omega arith))) h
