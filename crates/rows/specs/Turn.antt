-- One turn of a product by rows: what four rows of the other factor add, in ℤ/p and as a bound.
-- Assumes nothing.
use Rattle.std.specs.Prelude.{◌≡◌, List, ℕ, ◌+◌, ◌*◌, ◌-◌, ◌≤◌, ◌<◌, length, get_or, take, drop}
use Rattle.std.proofs.Common.{sym, ◌∙◌, ap₂, arith}
use Rattle.std.proofs.Math.Path.{ap}
use Rattle.std.proofs.Math.Decide.{dec_lt}
use Rattle.ring.specs.Ring
use Rattle.ring.specs.Identity.{solve5}
use Rattle.ring.specs.Identity.Ex.{◌:+◌}
use Rattle.series.specs.Series.{Seq, conv}
use Rattle.slices.specs.Stored.{part_at}
use Rattle.zmod.specs.Zmod.{Elt, Zmod, mk, plus, times, mk_add, mk_mul, plus_zero}
use Rattle.zmod.specs.Residues.{poly, poly_at}
use Rattle.rows.specs.Rows.{row_more, RowsAdded}
use Rattle.rows.specs.Block.{block, block_low, block_at}

-- the class of a sum with one word of each row added
pub row_class : (p s w x y z t₃ t₂ t₁ t₀ : ℕ) → mk p (s + w * t₃ + x * t₂ + y * t₁ + z * t₀)
    ≡ plus p (plus p (plus p (plus p (mk p s) (times p (mk p w) (mk p t₃))) (times p (mk p x) (mk p t₂))) (times p (mk p y) (mk p t₁))) (times p (mk p z) (mk
    p t₀))
row_class p s w x y z t₃ t₂ t₁ t₀ =
    mk_add p (s + w * t₃ + x * t₂ + y * t₁) (z * t₀)
    ∙ ap₂ (plus p) (mk_add p (s + w * t₃ + x * t₂) (y * t₁) ∙ ap₂ (plus p) (mk_add p (s + w * t₃) (x * t₂)
    ∙ ap₂ (plus p) (mk_add p s (w * t₃) ∙ ap (plus p (mk p s)) (mk_mul p w t₃)) (mk_mul p x t₂)) (mk_mul p y t₁)) (mk_mul p z t₀)

-- The rows of e from s on are added to acc from i + s on: what is before them in e is 0, and so is what is past them as far as acc goes.
module _ (p : ℕ) (a e acc acc' : List ℕ) (i s len : ℕ)
    (low : (j : ℕ) → j < s + 3 → get_or e j 0 ≡ 0)
    (past : (k : ℕ) → i + s + len ≤ k → k < length acc → (u : ℕ) → k - i ≤ u → get_or e u 0 ≡ 0)
    (long : s + len + 3 ≤ length e)
    (added : RowsAdded acc (take (length e - s) (drop s e)) (i + s) len (get_or a i 0) (get_or a (1 + i) 0) (get_or a (2 + i) 0) (get_or a (3 + i) 0) acc')
  where
    abbrev E : Seq (Zmod p)
    E j = mk p (get_or e j 0)

    abbrev A : Seq (Zmod p)
    A = poly p a

    abbrev four : ℕ → Elt p
    four n = plus p (plus p (plus p (times p (A i) (E (3 + n))) (times p (A (1 + i)) (E (2 + n)))) (times p (A (2 + i)) (E (1 + n)))) (times p (A (3 + i)) (E
        n))

    null : (n : ℕ) → ((u : ℕ) → n ≤ u → u < 4 + n → get_or e u 0 ≡ 0) → four n ≡ mk p 0
    null n z =
        ap₂ (plus p) (ap₂ (plus p) (ap₂ (plus p) (term (A i) (3 + n) (omega arith) (omega arith)) (term (A (1 + i)) (2 + n) (omega arith) (omega arith)))
        (term (A (2 + i)) (1 + n) (omega arith) (omega arith))) (term (A (3 + i)) n (omega arith) (omega arith))
        ∙ plus_zero p _ ∙ plus_zero p _ ∙ plus_zero p _
      where
        term : (x : Elt p) (u : ℕ) → n ≤ u → u < 4 + n → times p x (E u) ≡ mk p 0
        term x u lo hi = ap (λ v. times p x (mk p v)) (z u lo hi) ∙ Ring.mul-zero (Zmod p) x

    -- acc takes the product of the block of a at i and what e holds behind its three zeros
    pub turn_classes : (k : ℕ) → k < length acc → poly p acc' k ≡ plus p (poly p acc k) (conv (Zmod p) (block (Zmod p) i A) (λ j. E (3 + j)) k)
    unfolding poly
    turn_classes k inside = go (dec_lt k i) (dec_lt k (i + s)) (dec_lt k (i + s + len))
      where
        zeros_first : (j : ℕ) → j < 3 → E j ≡ mk p 0
        zeros_first j l = ap (mk p) (low j (omega arith))

        same : get_or acc' k 0 ≡ get_or acc k 0 → conv (Zmod p) (block (Zmod p) i A) (λ j. E (3 + j)) k ≡ mk p 0
            → poly p acc' k ≡ plus p (poly p acc k) (conv (Zmod p) (block (Zmod p) i A) (λ j. E (3 + j)) k)
        same e z = poly_at p acc' k ∙ ap (mk p) e ∙ sym (poly_at p acc k) ∙ sym (ap (plus p (poly p acc k)) z ∙ plus_zero p _)

        product : i ≤ k → conv (Zmod p) (block (Zmod p) i A) (λ j. E (3 + j)) k ≡ four (k - i)
        product l =
            let e : i + (k - i) ≡ k = omega arith in
            ap (conv (Zmod p) (block (Zmod p) i A) (λ j. E (3 + j))) (sym e) ∙ block_at (Zmod p) i A E zeros_first (k - i)

        go : Dec (k < i) → Dec (k < i + s) → Dec (k < i + s + len) → poly p acc' k ≡ plus p (poly p acc k) (conv (Zmod p) (block (Zmod p) i A) (λ j. E (3 +
            j)) k)
        go (yes l) _ _ = same (added.before k (omega arith)) (block_low (Zmod p) i A _ k l)
        go (no l) (yes m) _ = same (added.before k m) (product (omega arith) ∙ null (k - i) (λ u lo hi. low u (omega arith)))
        go (no l) (no m) (no n) =
            same (added.after k (omega arith)) (product (omega arith) ∙ null (k - i) (λ u lo hi. past k (omega arith) inside u lo))
        go (no l) (no m) (yes n) =
            let at : i + s + (k - (i + s)) ≡ k = omega arith in
            poly_at p acc' k ∙ ap (λ t. mk p (get_or acc' t 0)) (sym at) ∙ ap (mk p) (added.inside (k - (i + s)) (omega arith) ∙ words)
            ∙ row_class p (get_or acc k 0) (get_or a i 0) (get_or a (1 + i) 0) (get_or a (2 + i) 0) (get_or a (3 + i) 0) (get_or e (3 + (k - i)) 0) (get_or e (2 + (k - i)) 0)
            (get_or e (1 + (k - i)) 0) (get_or e (k - i) 0)
            ∙ solve5 (Zmod p) (λ s a b c d. s :+ a :+ b :+ c :+ d) (λ s a b c d. s :+ (a :+ b :+ c :+ d)) tt _ _ _ _ _
            ∙ ap (plus p (poly p acc k)) (sym (product (omega arith)))
          where
            row : (c : ℕ) → c < 4 → get_or (take (length e - s) (drop s e)) (c + (k - (i + s))) 0 ≡ get_or e (c + (k - i)) 0
            row c h = part_at e s (length e - s) (c + (k - (i + s))) (omega arith) ∙ ap (λ t. get_or e t 0) (omega arith)

            words : row_more (get_or acc (i + s + (k - (i + s))) 0) (take (length e - s) (drop s e)) (k - (i + s)) (get_or a i 0) (get_or a (1 + i) 0) (get_or a (2 +
                i) 0)
                (get_or a (3 + i) 0)
                ≡ get_or acc k 0 + get_or a i 0 * get_or e (3 + (k - i)) 0 + get_or a (1 + i) 0 * get_or e (2 + (k - i)) 0 + get_or a (2 + i) 0 * get_or e (1 + (k - i)) 0
                + get_or a (3 + i) 0 * get_or e (k - i) 0
            words =
                ap₂ ◌+◌ (ap₂ ◌+◌ (ap₂ ◌+◌ (ap₂ ◌+◌ (ap (λ t. get_or acc t 0) (omega arith)) (ap (◌*◌ (get_or a i 0)) (row 3 (omega arith))))
                (ap (◌*◌ (get_or a (1 + i) 0)) (row 2 (omega arith)))) (ap (◌*◌ (get_or a (2 + i) 0)) (row 1 (omega arith))))
                (ap (◌*◌ (get_or a (3 + i) 0)) (part_at e s (length e - s) (k - (i + s)) (omega arith) ∙ ap (λ t. get_or e t 0) (omega arith)))
