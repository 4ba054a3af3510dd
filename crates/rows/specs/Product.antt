-- Products by rows: four words of a at a time, times all words of the other factor, which e holds behind three zeros, are added to the sums of acc.
-- Assumes nothing.
use Rattle.std.specs.Prelude.{◌≡◌, refl, List, ◌∷◌, ℕ, zero, suc, ◌+◌, ◌-◌, ◌*◌, ◌^◌, ◌≤◌, ◌<◌, length, get_or, take, drop}
use Rattle.std.proofs.Common.{sym, ◌∙◌, ap, subst, take_all}
use Rattle.std.proofs.Math.Path.{fun_ext}
use Rattle.std.proofs.Math.Nat as N
use native.Mathlib.Omega.{arith}
use Rattle.std.proofs.Math.Decide.{dec_lt}
use Rattle.std.proofs.Math.ListN.{get_or-eq_default}
use Rattle.slices.specs.Filling.{Filled}
use Rattle.series.specs.Series.{Seq, conv, sums, conv_sums}
use Rattle.zmod.specs.Zmod.{Zmod, mk, plus, plus_assoc, plus_zero}
use Rattle.zmod.specs.Residues.{Reduced, poly, poly_at, poly_below}
use Rattle.rows.specs.Rows.{row_more, row_le, RowsAdded, added_le}
use Rattle.rows.specs.Block.{upper, upper_block, upper_none, block}
use Rattle.rows.specs.Sums.{Sums, products_low}
use Rattle.rows.specs.Turn.{turn_classes}

-- what e holds behind three zeros
abbrev pub held : (p : ℕ) → List ℕ → Seq (Zmod p)
held p e j = mk p (get_or e (3 + j) 0)

pub record ThreeZeros (e : List ℕ) : Type 0 where
  pub zeros : (j : ℕ) → j < 3 → get_or e j 0 ≡ 0

-- acc and the product of what is above i make acc₀ and the whole product; a sum has one product at most for each word below i
pub record ProductAdded (p : ℕ) (a e acc₀ : List ℕ) (i : ℕ) (acc : List ℕ) : Type 0 where
  pub classes : (k : ℕ) → k < length acc → plus p (poly p acc k) (conv (Zmod p) (upper (Zmod p) i (poly p a)) (held p e) k)
      ≡ plus p (poly p acc₀ k) (conv (Zmod p) (poly p a) (held p e) k)
  pub bounded : (k : ℕ) → get_or acc k 0 ≤ get_or acc₀ k 0 + i * ((p - 1) * (p - 1))

module _ (p : ℕ) (a e acc₀ : List ℕ) where
  pub added_none : ProductAdded p a e acc₀ 0 acc₀
  unfolding upper
  added_none = record { classes = λ k l. refl; bounded = λ k. omega arith }

  module _ (low_a : Reduced p a) (low_e : Reduced p e) (i : ℕ) (acc : List ℕ) (h : ProductAdded p a e acc₀ i acc) where
    small : (xs : List ℕ) → Reduced p xs → (j : ℕ) → get_or xs j 0 ≤ p - 1
    small xs low j = omega (arith, low j)

    -- there is room for one turn more
    pub turn_fits : (k j : ℕ) → row_more (get_or acc k 0) e j (get_or a i 0) (get_or a (1 + i) 0) (get_or a (2 + i) 0) (get_or a (3 + i) 0)
        ≤ get_or acc₀ k 0 + (i + 4) * ((p - 1) * (p - 1))
    turn_fits k j =
        omega (
          arith,
          h.bounded k,
          row_le (p - 1) (p - 1) (get_or acc k 0) e j _ _ _ _ (small a low_a i) (small a low_a (1 + i)) (small a low_a (2 + i)) (small a low_a (3 + i))
              (small e low_e),
          N.add-mul i 4 ((p - 1) * (p - 1)),
        )

    pub added_more : (acc' : List ℕ) → length acc' ≡ length acc → length acc + 3 ≤ length e → i ≤ length acc → ThreeZeros e
        → RowsAdded acc e i (length acc - i) (get_or a i 0) (get_or a (1 + i) 0) (get_or a (2 + i) 0) (get_or a (3 + i) 0) acc' → ProductAdded p a e acc₀ (i + 4) acc'
    added_more acc' same long here zeros added = record {
      classes = λ k l.
          ap (λ n. plus p (poly p acc' k) (conv (Zmod p) (upper (Zmod p) n (poly p a)) (held p e) k)) (omega arith)
          ∙ ap (λ t. plus p t (conv (Zmod p) (upper (Zmod p) (4 + i) (poly p a)) (held p e) k)) (turn k (omega arith))
          ∙ plus_assoc p _ _ _
          ∙ ap (plus p (poly p acc k)) (sym (conv_sums (Zmod p) (block (Zmod p) i (poly p a)) (upper (Zmod p) (4 + i) (poly p a)) (held p e) k)
          ∙ ap (λ f. conv (Zmod p) f (held p e) k) (sym (upper_block (Zmod p) i (poly p a))))
          ∙ h.classes k (omega arith);
      bounded = λ k.
          omega (
            arith,
            h.bounded k,
            added_le (p - 1) (p - 1) acc e i (length acc - i) _ _ _ _ acc' added (small a low_a i) (small a low_a (1 + i)) (small a low_a (2 + i))
                (small a low_a (3 + i)) (small e low_e) k,
            N.add-mul i 4 ((p - 1) * (p - 1)),
          );
    }
      where
        whole : take (length e - 0) (drop 0 e) ≡ e
        whole = take_all (length e - 0) e (omega arith)

        turn : (k : ℕ) → k < length acc → poly p acc' k ≡ plus p (poly p acc k) (conv (Zmod p) (block (Zmod p) i (poly p a)) (held p e) k)
        turn =
            turn_classes p a e acc acc' i 0 (length acc - i) (λ j l. zeros.zeros j (omega arith)) (λ k l m. absurd (omega arith)) (omega arith)
            (subst (λ n. RowsAdded acc (take (length e - 0) (drop 0 e)) n (length acc - i) (get_or a i 0) (get_or a (1 + i) 0) (get_or a (2 + i) 0)
            (get_or a (3 + i) 0) acc') (omega arith)
            (subst (λ l. RowsAdded acc l i (length acc - i) (get_or a i 0) (get_or a (1 + i) 0) (get_or a (2 + i) 0) (get_or a (3 + i) 0) acc') (sym whole) added))

    -- sums that began with one product at most
    pub added_all : length a ≤ i → i ≤ 255 → 1 < p → p ≤ 2 ^ 28 → ((k : ℕ) → get_or acc₀ k 0 ≤ (p - 1) * (p - 1))
        → Sums p (sums (Zmod p) (poly p acc₀) (conv (Zmod p) (poly p a) (held p e))) acc
    added_all end few large fits low = record {
      bounded = λ k. products_low (i + 1) p (get_or acc k 0) (omega arith) (total (i + 1) (omega arith))
          (omega (arith, h.bounded k, low k, N.add-mul i 1 ((p - 1) * (p - 1))));
      classes = λ k l.
          sym (plus_zero p _) ∙ ap (plus p (poly p acc k)) (sym (upper_none (Zmod p) i (poly p a) (held p e) (poly_below p a i end) k)) ∙ h.classes k l;
    }
      where
        total : (n : ℕ) → n ≤ 256 → n * p ≤ 2 ^ 36
        total n le = N.mul-le-mul {n₁ = n} {m₁ = p} {n₂ = 256} {m₂ = 268435456} le (omega arith)

-- a residue is no more than a product of residues can be
pub reduced_fits : {p : ℕ} (xs : List ℕ) → 1 < p → Reduced p xs → (k : ℕ) → get_or xs k 0 ≤ (p - 1) * (p - 1)
reduced_fits {p} xs large low k = omega (arith, low k, N.le-mul_of_pos_right {m = p - 1} (p - 1) (omega arith))

-- the words of a behind three zeros
pub behind_low : (a : List ℕ) (k : ℕ) → k < 3 → get_or (0 ∷ 0 ∷ 0 ∷ a) k 0 ≡ 0
behind_low a zero l = refl
behind_low a (suc zero) l = refl
behind_low a (suc (suc zero)) l = refl
behind_low a (suc (suc (suc k))) l = absurd (omega arith)

pub behind_high : (a : List ℕ) (k : ℕ) → 3 ≤ k → get_or a (k - 3) 0 ≡ get_or (0 ∷ 0 ∷ 0 ∷ a) k 0
behind_high a zero l = absurd (omega arith)
behind_high a (suc zero) l = absurd (omega arith)
behind_high a (suc (suc zero)) l = absurd (omega arith)
behind_high a (suc (suc (suc k))) l = ap (λ n. get_or a n 0) (omega arith)

pub behind_all : (a e : List ℕ) → length a + 3 ≤ length e → Filled (λ j v. v ≡ get_or (0 ∷ 0 ∷ 0 ∷ a) j 0) e (length e)
    → (ThreeZeros e) × ((j : ℕ) → get_or e (3 + j) 0 ≡ get_or a j 0)
behind_all a e long all = (record { zeros = λ j l. all j (omega arith) ∙ behind_low a j l }, λ j. go j (dec_lt (3 + j) (length e)))
  where
    go : (j : ℕ) → Dec (3 + j < length e) → get_or e (3 + j) 0 ≡ get_or a j 0
    go j (yes l) = all (3 + j) l ∙ sym (behind_high a (3 + j) (omega arith)) ∙ ap (λ n. get_or a n 0) (omega arith)
    go j (no l) = get_or-eq_default e 0 (omega arith) ∙ sym (get_or-eq_default a 0 (omega arith))

pub behind_reduced : (p : ℕ) (e a : List ℕ) → ThreeZeros e → ((j : ℕ) → get_or e (3 + j) 0 ≡ get_or a j 0) → Reduced p a → Reduced p e
behind_reduced p e a zeros words low j = go (dec_lt j 3)
  where
    go : Dec (j < 3) → get_or e j 0 < p
    go (yes l) = omega (arith, zeros.zeros j l, low 0)
    go (no l) = let at : 3 + (j - 3) ≡ j = omega arith in subst (λ k. get_or e k 0 < p) at (omega (arith, words (j - 3), low (j - 3)))

pub behind_held : (p : ℕ) (e a : List ℕ) → ((j : ℕ) → get_or e (3 + j) 0 ≡ get_or a j 0) → held p e ≡ poly p a
behind_held p e a words = fun_ext λ j. ap (mk p) (words j) ∙ sym (poly_at p a j)
