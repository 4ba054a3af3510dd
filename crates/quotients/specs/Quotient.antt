-- A quotient by a product: read backwards, a = q g + r begins as q g does, so q backwards is a backwards times the inverse of g backwards, a power series, as
-- far as q goes.
-- Assumes nothing.
use Rattle.std.specs.Prelude.{◌≡◌, refl, ◌≢◌, List, ℕ, zero, suc, ◌+◌, ◌-◌, ◌≤◌, ◌<◌, length, get_or, set, replicate}
use Rattle.std.proofs.Common.{sym, ◌∙◌, ap, ap₂, subst, arith, get_or-set_same, get_or-set_other}
use Rattle.std.proofs.Math.Nat as N
use Rattle.std.proofs.Math.Decide.{dec_lt}
use Rattle.std.proofs.lemmas.List.{length-replicate}
use Rattle.ring.specs.Ring
use Rattle.ring.specs.Ring.{CRing}
use Rattle.series.specs.Series.{Seq, tail, conv, sums, negs, const, conv_zero, conv_suc, conv_assoc, conv_one, conv_comm}
use Rattle.series.specs.Degree.{Below}
use Rattle.series.specs.Local.{Upto, conv_local}
use Rattle.series.specs.Reversal.{rev_sub, Reversed, r_mul}
use Rattle.zmod.specs.Zmod.{Zmod, mk, plus, minus, times, plus_minus}
use Rattle.zmod.specs.Residues.{Residue, Reduced, poly, poly_at}
use Rattle.rows.specs.Room.{zero_at}

-- the words of a from the last one down
pub record ReversedWords (a out : List ℕ) : Type 0 where
  pub same_length : length out ≡ length a
  pub words : (j : ℕ) → j < length a → get_or out j 0 ≡ get_or a (length a - 1 - j) 0

module _ (R : CRing) where
  open R use {Car, 𝟘, 𝟙, add as ◌⊕◌, mul as ◌⊗◌, neg}

  infixl 65 ◌⊕◌
  infixl 70 ◌⊗◌
  -- T is 1 / C, as far as n coefficients go
  abbrev pub InverseTo : ℕ → Seq R → Seq R → Type 0
  InverseTo n C T = (k : ℕ) → k < n → conv R C T k ≡ const R 𝟙 k

  -- A is a backwards, Q is A T, and q is Q backwards: then q is the quotient
  module _ (d : ℕ) (g a C T A Q q : Seq R) (divisor : Reversed R d g C) (short : Below R (suc (d + d)) a) (inverse : InverseTo (suc d) C T)
      (backwards : (k : ℕ) → k ≤ d → A k ≡ a (d + d - k)) (product : (k : ℕ) → k ≤ d → Q k ≡ conv R A T k) (quotient : Reversed R d q Q) where
    same : (j : ℕ) → j ≤ d → conv R q g (d + d - j) ≡ a (d + d - j)
    same j l =
        sym (rev_sub R (d + d) j (conv R q g) (omega arith)) ∙ ap (λ f. f j) (r_mul R quotient divisor).same
        ∙ conv_local R j Q (conv R A T) C C (λ i h. product i (omega arith)) (λ i h. refl)
        ∙ conv_assoc R A T C j
        ∙ conv_local R j A A (conv R T C) (const R 𝟙) (λ i h. refl) (λ i h. conv_comm R T C i ∙ inverse i (omega arith))
        ∙ conv_one R A j ∙ backwards j l

    pub quotient_below : Below R d (sums R a (negs R (conv R q g)))
    quotient_below i l = go (dec_lt (d + d) i)
      where
        go : Dec (d + d < i) → a i ⊕ neg (conv R q g i) ≡ 𝟘
        go (yes h) =
            ap₂ (λ x y. x ⊕ neg y) (short i (omega arith)) (conv_past i h) ∙ R.add-neg 𝟘
          where
            conv_past : (i : ℕ) → d + d < i → conv R q g i ≡ 𝟘
            conv_past i h = (r_mul R quotient divisor).below i (omega arith)
        go (no h) =
            let e : d + d - (d + d - i) ≡ i = omega arith in
            ap (λ x. a i ⊕ neg x) (ap (conv R q g) (sym e) ∙ same (d + d - i) (omega arith) ∙ ap a e) ∙ R.add-neg (a i)

  -- ── the inverse, a coefficient at a time

  -- with a coefficient of t put in where it was 0
  put_in : (j : ℕ) (c t t' : Seq R) → c 0 ≡ 𝟙 → Upto R j t' t → t (suc j) ≡ 𝟘 → conv R c t' (suc j) ≡ t' (suc j) ⊕ conv R c t (suc j)
  put_in j c t t' one before none =
      conv_suc R c t' j
      ∙ ap₂ (λ x y. x ⊗ t' (suc j) ⊕ y) one (conv_local R j (tail R c) (tail R c) t' t (λ i h. refl) before)
      ∙ ap₂ ◌⊕◌ (Ring.one-mul R (t' (suc j))) (sym (Ring.zero-add R _)
      ∙ ap (λ x. x ⊕ conv R (tail R c) t j) (sym (ap (λ x. c 0 ⊗ x) none ∙ Ring.mul-zero R (c 0))) ∙ sym (conv_suc R c t j))

-- the words before k are those of the inverse, and from k on there are zeros
pub record Inverted (p : ℕ) (c : Seq (Zmod p)) (k : ℕ) (t : List ℕ) : Type 0 where
  pub reduced : Reduced p t
  pub inverse : InverseTo (Zmod p) k c (poly p t)
  pub rest : (j : ℕ) → k ≤ j → get_or t j 0 ≡ 0

module _ (p : ℕ) (c : Seq (Zmod p)) (one : c 0 ≡ mk p 1) where
  pub inverted_first : (n : ℕ) → 1 < p → 0 < n → Inverted p c 1 (set (replicate n 0) 0 1)
  inverted_first n large pos = record { reduced = low; inverse = go; rest = past }
    where
      t : List ℕ
      t = set (replicate n 0) 0 1

      first : get_or t 0 0 ≡ 1
      first = get_or-set_same (replicate n 0) 0 1 0 (omega (arith, length-replicate {A = ℕ} n 0))

      past : (j : ℕ) → 1 ≤ j → get_or t j 0 ≡ 0
      past j l = get_or-set_other (replicate n 0) 0 j 1 0 (λ e. absurd (omega arith)) ∙ zero_at n j

      low : Reduced p t
      low zero = omega (arith, first)
      low (suc j) = omega (arith, past (suc j) (omega arith))

      go : InverseTo (Zmod p) 1 c (poly p t)
      go zero l = conv_zero (Zmod p) c _ ∙ ap₂ (times p) one (poly_at p t 0 ∙ ap (mk p) first) ∙ Ring.one-mul (Zmod p) (mk p 1)
      go (suc k) l = absurd (omega arith)

  pub inverted_more : (k v s : ℕ) (t : List ℕ) → 1 ≤ k → k < length t → Inverted p c k t → Residue p (conv (Zmod p) c (poly p t) k) s
      → Residue p (minus p (mk p s)) v → Inverted p c (k + 1) (set t k v)
  inverted_more zero v s t pos inside h term negative = absurd (omega arith)
  inverted_more (suc j) v s t pos inside h term negative = record
      { reduced = λ i. low i (dec_lt i (suc j)) (dec_lt (suc j) i); inverse = λ i l. go i (dec_lt i (suc j)) l; rest = past }
    where
      t' : List ℕ
      t' = set t (suc j) v

      here : get_or t' (suc j) 0 ≡ v
      here = get_or-set_same t (suc j) v 0 inside

      other : (i : ℕ) → i ≢ suc j → get_or t' i 0 ≡ get_or t i 0
      other i apart = get_or-set_other t (suc j) i v 0 apart

      before : Upto (Zmod p) j (poly p t') (poly p t)
      before i l = poly_at p t' i ∙ ap (mk p) (other i (λ e. absurd (omega arith))) ∙ sym (poly_at p t i)

      past : (i : ℕ) → suc j + 1 ≤ i → get_or t' i 0 ≡ 0
      past i l = other i (λ e. absurd (omega arith)) ∙ h.rest i (omega arith)

      low : (i : ℕ) → Dec (i < suc j) → Dec (suc j < i) → get_or t' i 0 < p
      low i (yes l) _ = omega (arith, other i (λ e. absurd (omega arith)), h.reduced i)
      low i (no l) (yes m) = omega (arith, other i (λ e. absurd (omega arith)), h.reduced i)
      low i (no l) (no m) = let e : suc j ≡ i = omega arith in subst (λ n. get_or t' n 0 < p) e (omega (arith, here, negative.below))

      go : (i : ℕ) → Dec (i < suc j) → i < suc j + 1 → conv (Zmod p) c (poly p t') i ≡ const (Zmod p) (mk p 1) i
      go i (yes l) m =
          conv_local (Zmod p) i c c (poly p t') (poly p t) (λ n h. refl) (λ n h. before n (omega arith)) ∙ h.inverse i l
      go i (no l) m =
          let e : suc j ≡ i = omega arith in
          subst (λ n. conv (Zmod p) c (poly p t') n ≡ const (Zmod p) (mk p 1) n) e
          (put_in (Zmod p) j c (poly p t) (poly p t') one before (poly_at p t (suc j) ∙ ap (mk p) (h.rest (suc j) (N.le_refl (suc j))))
          ∙ ap₂ (plus p) (poly_at p t' (suc j) ∙ ap (mk p) here ∙ negative.class ∙ ap (minus p) term.class) refl
          ∙ CRing.add_comm (Zmod p) _ _ ∙ plus_minus p _)
