-- Rows in slices: t and h are words of residues, and the coefficients of a remainder are sums of their products.
-- Assumes nothing.
use Rattle.std.specs.Prelude.{◌≡◌, refl, List, length, get_or, take, drop}
use Rattle.std.proofs.Math.Path.{sym, ap}
use Rattle.std.proofs.Common.{◌∙◌, ap₂, add-one, length-take-le}
use Prim.Native.Nat.{ℕ, suc, ◌+◌, ◌-◌, ◌*◌, ◌≤◌, ◌<◌}
use native.Mathlib.Omega.{arith}
use Rattle.slices.specs.Stored.{part_at}
use Rattle.ring.specs.Ring
use Rattle.series.specs.Series.{Seq, sum, sum_suc, sum_same, sum_rest, conv, conv_sum}
use Rattle.series.specs.Degree.{Below}
use Rattle.series.specs.Reversal.{rev_sub}
use Rattle.zmod.specs.Zmod.{Elt, Zmod, mk, plus, minus, times, mk_add, mk_mul}
use Rattle.zmod.specs.Residues.{poly, poly_at}
use Rattle.euclid.specs.Words.{poly_front}
use Rattle.poles.specs.Rows.{combination, H, Rows}

-- the sum of t i · h i over the i before n
unfoldable pub correlation : (p : ℕ) → List ℕ → List ℕ → ℕ → Elt p
correlation p t h n = sum (Zmod p) (λ i. times p (poly p t i) (poly p h i)) n

-- the coefficient of xⁱ in the remainder of t
abbrev pub remainder : (p : ℕ) (h t : List ℕ) → ℕ → Elt p
remainder p h t i = conv (Zmod p) (poly p t) (H (Zmod p) (length h - 1) (poly p h)) i

abbrev pub RowsOf : (p : ℕ) (h : List ℕ) (k top next : ℕ) (t u : List ℕ) → Type 0
RowsOf p h k top next t u = Rows (Zmod p) (length h - 1) (poly p h) k (mk p top) (mk p next) (poly p t) (poly p u)

-- b₁² t − (a₁ b₁ x + a₀ b₁ − a₁ b₀) u
abbrev pub cancelling : (p a₁ a₀ b₁ b₀ : ℕ) (t u : Seq (Zmod p)) → Seq (Zmod p)
cancelling p a₁ a₀ b₁ b₀ =
    combination (Zmod p) 0 (times p (mk p b₁) (mk p b₁)) (times p (minus p (mk p a₁)) (mk p b₁))
    (plus p (times p (mk p a₁) (mk p b₀)) (times p (minus p (mk p a₀)) (mk p b₁)))

-- ── the sum that the loop gathers

pub correlation_none : (p : ℕ) (t h : List ℕ) → mk p 0 ≡ correlation p t h 0
unfolding correlation sum
correlation_none p t h = refl

pub correlation_more : (p : ℕ) (t h : List ℕ) (i s v : ℕ) → v ≡ get_or t i 0 * get_or h i 0 → mk p s ≡ correlation p t h i
    → mk p (s + v) ≡ correlation p t h (i + 1)
unfolding correlation
correlation_more p t h i s v is e =
    mk_add p s v
    ∙ ap₂ (plus p) e (ap (mk p) is ∙ mk_mul p (get_or t i 0) (get_or h i 0) ∙ ap₂ (times p) (sym (poly_at p t i)) (sym (poly_at p h i)))
    ∙ sym (sum_suc (Zmod p) (λ i. times p (poly p t i) (poly p h i)) i) ∙ ap (correlation p t h) (sym (add-one i))

-- ── it is a coefficient of the remainder: of t's words the first `len` are lent, and of h's those from `from` on

module _ (p : ℕ) (h t : List ℕ) (len from : ℕ) (some : 1 ≤ len) (fits : from + len ≤ length h) (enough : len ≤ length t)
    (below : Below (Zmod p) len (poly p t)) where
  abbrev n : ℕ
  n = length h - 1

  abbrev i : ℕ
  i = n - from

  abbrev lent : List ℕ
  lent = take (length h - from) (drop from h)

  abbrev term : Seq (Zmod p)
  term j = times p (poly p t j) (H (Zmod p) n (poly p h) (i - j))

  none : (j : ℕ) → len ≤ j → j < len + (suc i - len) → term j ≡ mk p 0
  none j l g = ap (λ x. times p x (H (Zmod p) n (poly p h) (i - j))) (below j l) ∙ Ring.zero-mul (Zmod p) _

  same : (j : ℕ) → j < len → term j ≡ times p (poly p (take len t) j) (poly p lent j)
  same j l =
      let e : n - (i - j) ≡ from + j = omega arith in
      ap₂ (times p) (sym (poly_front p len t j l))
      (rev_sub (Zmod p) n (i - j) (poly p h) (omega arith) ∙ ap (poly p h) e ∙ poly_at p h (from + j)
      ∙ ap (mk p) (sym (part_at h from (length h - from) j (omega arith))) ∙ sym (poly_at p lent j))

  pub correlation_remainder : correlation p (take len t) lent (length (take len t)) ≡ remainder p h t i
  unfolding correlation
  correlation_remainder =
      let e : suc i ≡ len + (suc i - len) = omega arith in
      ap (correlation p (take len t) lent) (length-take-le len t enough)
      ∙ sym (conv_sum (Zmod p) (poly p t) (H (Zmod p) n (poly p h)) i ∙ ap (sum (Zmod p) term) e ∙ sum_rest (Zmod p) term len (suc i - len) none
      ∙ sum_same (Zmod p) term (λ j. times p (poly p (take len t) j) (poly p lent j)) len same)
