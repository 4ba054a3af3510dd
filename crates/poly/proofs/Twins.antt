-- The coefficient k of a square is twice the sum of the terms before the middle one, and where k is even the middle one: the terms i and k − i are
-- equal.
-- Assumes nothing.
use mathlib.Core.Path.{◌≡◌, sym, ◌∙◌, ap, ap₂, fun_ext}
use mathlib.Core.List.{List}
use Prim.Native.Nat.{ℕ, zero, suc, ◌+◌, ◌-◌, ◌/◌, ◌%◌, ◌^◌, ◌≤◌, min, max}
use native.Mathlib.Nat as N
use native.Mathlib.Decide.{ℕ_discrete, dec_le}
use native.Mathlib.Omega.{arith}
use lib.ListN.{length}
use Rattle.ring.specs.Ring
use Rattle.ring.specs.Ring.{CRing}
use Rattle.ring.specs.Identity.{solve2, solve3, solve4}
use Rattle.ring.specs.Identity.Ex.{:0, ◌:+◌, ◌:*◌}
use Rattle.series.specs.Series.{Seq, tail, conv, conv_zero, conv_suc, conv_last, sum, sum_suc, sum_first, sum_same}
use Rattle.zmod.specs.Zmod.{Elt, Zmod, mk, plus, times, plus_zero, mk_add, mk_mul}
use Rattle.zmod.specs.Residues.{Residue, Reduced, poly, poly_at, residue_same}
use Rattle.poly.specs.Partial.{partial, Alone}
use Rattle.rows.specs.Sums.{product_le}
use Rattle.poly.proofs.Sums.{partial_before, span_whole}

module _ (R : CRing) where
  open R use {Car, 𝟘, add as ◌⊕◌, mul as ◌⊗◌}

  infixl 65 ◌⊕◌
  infixl 70 ◌⊗◌
  -- the first m terms of the coefficient k
  abbrev pub half : Seq R → ℕ → ℕ → Car
  half a k m = sum R (λ i. a i ⊗ a (k - i)) m

  half_first : (a : Seq R) (k m : ℕ) → m ≤ k + 1 → half a (suc (suc k)) (suc m) ≡ a 0 ⊗ a (suc (suc k)) ⊕ half (tail R a) k m
  half_first a k m le =
      sum_first R (λ i. a i ⊗ a (suc (suc k) - i)) m
      ∙ ap₂ ◌⊕◌ (ap (λ j. a 0 ⊗ a j) (N.sub-zero (suc (suc k)))) (sum_same R _ _ m (λ i l. ap (λ j. a (suc i) ⊗ a j) (omega arith)))

  -- m terms from either end
  ends : (m n : ℕ) (a : Seq R) → conv R a a (m + m + n) ≡ half a (m + m + n) m ⊕ half a (m + m + n) m ⊕ conv R (λ i. a (m + i)) (λ i. a (m + i)) n
  unfolding sum
  ends zero n a =
      let e : n ≡ zero + zero + n = omega arith in
      ap (conv R a a) (sym e) ∙ ap (λ f. conv R f f n) (fun_ext λ i. ap a (sym (N.zero-add i)))
      ∙ solve2 R (λ x y. x) (λ x y. :0 :+ :0 :+ x) tt (conv R (λ i. a (zero + i)) (λ i. a (zero + i)) n) 𝟘
  ends (suc m) n a =
      let e : suc m + suc m + n ≡ suc (suc (m + m + n)) = omega arith in
      ap (conv R a a) e ∙ conv_suc R a a (suc (m + m + n))
      ∙ ap (λ x. a 0 ⊗ a (suc (suc (m + m + n))) ⊕ x) (conv_last R (tail R a) a (m + m + n) ∙ ap (λ x. a (suc (suc (m + m + n))) ⊗ a 0 ⊕ x)
      (ends m n (tail R a)))
      ∙ solve4 R (λ x y h z. x :* y :+ (y :* x :+ (h :+ h :+ z))) (λ x y h z. x :* y :+ h :+ (x :* y :+ h) :+ z) tt (a 0) (a (suc (suc (m + m + n)))) _ _
      ∙ sym (ap₂ (λ x f. x ⊕ x ⊕ conv R f f n)
      (ap (λ k. half a k (suc m)) e ∙ half_first a (m + m + n) m (omega arith))
      (fun_ext λ i. ap a (N.suc-add m i)))

  even : (m : ℕ) (a : Seq R) → conv R a a (m + m) ≡ half a (m + m) m ⊕ half a (m + m) m ⊕ a m ⊗ a m
  even m a =
      ap (conv R a a) (sym (N.add-zero (m + m))) ∙ ends m 0 a
      ∙ ap₂ (λ k x. half a k m ⊕ half a k m ⊕ x) (N.add-zero (m + m)) (conv_zero R _ _ ∙ ap (λ j. a j ⊗ a j) (N.add-zero m))

  odd : (m : ℕ) (a : Seq R) → conv R a a (m + m + 1) ≡ half a (m + m + 1) (suc m) ⊕ half a (m + m + 1) (suc m)
  odd m a =
      let e : m + 1 ≡ m + m + 1 - m = omega arith in
      ends m 1 a
      ∙ ap (λ x. half a (m + m + 1) m ⊕ half a (m + m + 1) m ⊕ x)
      (conv_suc R _ _ 0 ∙ ap₂ (λ x y. x ⊕ y) (ap₂ (λ i j. a i ⊗ a j) (N.add-zero m) e) (conv_zero R _ _ ∙ ap₂ (λ i j. a i ⊗ a j) e (N.add-zero m)))
      ∙ solve3 R (λ h x y. h :+ h :+ (x :* y :+ y :* x)) (λ h x y. h :+ x :* y :+ (h :+ x :* y)) tt _ (a m) (a (m + m + 1 - m))
      ∙ ap (λ x. x ⊕ x) (sym (sum_suc R (λ i. a i ⊗ a (m + m + 1 - i)) m))

-- ── as the code has it

module _ (p : ℕ) (a : List ℕ) (k r : ℕ) (mid : Alone a k r) where
  pub square_at : conv (Zmod p) (poly p a) (poly p a) k ≡ plus p (plus p (partial p a a k ((k + 1) / 2)) (partial p a a k ((k + 1) / 2))) (mk p r)
  unfolding partial
  square_at = go (ℕ_discrete (k % 2) 0)
    where
      twice : ℕ → ℕ → Elt p
      twice k m = plus p (half (Zmod p) (poly p a) k m) (half (Zmod p) (poly p a) k m)

      go : Dec (k % 2 ≡ 0) → conv (Zmod p) (poly p a) (poly p a) k ≡ plus p (twice k ((k + 1) / 2)) (mk p r)
      go (yes e) =
          let k' : k ≡ k / 2 + k / 2 = omega arith in
          let m : k / 2 ≡ (k + 1) / 2 = omega arith in
          ap (conv (Zmod p) (poly p a) (poly p a)) k' ∙ even (Zmod p) (k / 2) (poly p a)
          ∙ ap₂ (plus p) (ap₂ twice (sym k') m)
          (ap₂ (times p) (poly_at p a (k / 2)) (poly_at p a (k / 2)) ∙ sym (mk_mul p _ _) ∙ ap (mk p) (sym (mid.even e)))
      go (no e) =
          let k' : k ≡ k / 2 + k / 2 + 1 = omega arith in
          let m : suc (k / 2) ≡ (k + 1) / 2 = omega arith in
          ap (conv (Zmod p) (poly p a) (poly p a)) k' ∙ odd (Zmod p) (k / 2) (poly p a) ∙ ap₂ twice (sym k') m
          ∙ sym (ap (plus p (twice k ((k + 1) / 2))) (ap (mk p) (mid.odd e)) ∙ plus_zero p _)

  pub alone_le : Reduced (2 ^ 28) a → r ≤ 72057593501057025
  alone_le h = go (ℕ_discrete (k % 2) 0)
    where
      go : Dec (k % 2 ≡ 0) → r ≤ 72057593501057025
      go (yes e) = omega (arith, mid.even e, product_le (h (k / 2)) (h (k / 2)))
      go (no e) = omega (arith, mid.odd e)

-- the terms from k + 1 − |a| on, as far as a has them, are those before the middle: the others are 0
pub half_span : (p : ℕ) (a : List ℕ) (k from to : ℕ) → from ≡ k + 1 - length a → to ≡ max from (min ((k + 1) / 2) (length a))
    → partial p a a k to ≡ partial p a a k ((k + 1) / 2)
half_span p a k from to ef et = go (dec_le from ((k + 1) / 2))
  where
    go : Dec (from ≤ (k + 1) / 2) → partial p a a k to ≡ partial p a a k ((k + 1) / 2)
    go (yes l) = ap (partial p a a k) (omega arith)
    go (no l) = ap (partial p a a k) (omega arith) ∙ partial_before p a a k from (omega arith) ∙ sym (partial_before p a a k ((k + 1) / 2) (omega arith))

-- what the code adds up: twice a number x of the half's class, and the middle term m
pub square_class : (p : ℕ) (a : List ℕ) (k from to r x m : ℕ) → from ≡ k + 1 - length a → to ≡ max from (min ((k + 1) / 2) (length a)) → Alone a k m
    → plus p (partial p a a k from) (mk p x) ≡ plus p (mk p 0) (partial p a a k to) → Residue p (mk p (x + x + m)) r
    → Residue p (conv (Zmod p) (poly p a) (poly p a) k) r
square_class p a k from to r x m ef et mid e h =
    let half : mk p x ≡ partial p a a k ((k + 1) / 2) =
    span_whole p a a k (mk p 0) from to x (omega arith) e ∙ Ring.zero-add (Zmod p) _ ∙ half_span p a k from to ef et
    in
    residue_same (mk_add p (x + x) m ∙ ap (λ y. plus p y (mk p m)) (mk_add p x x ∙ ap₂ (plus p) half half) ∙ sym (square_at p a k m mid)) h
