-- Parts of a slice, and a slice read backwards, as polynomials.
-- Assumes nothing.
use Rattle.std.specs.Prelude.{◌≡◌, List, ℕ, ◌+◌, ◌-◌, ◌≤◌, ◌<◌, length, get_or, take, drop}
use Rattle.std.proofs.Common.{sym, ◌∙◌, ap, subst, arith, length-take, get_or-take, get_or-drop}
use Rattle.std.proofs.Math.Decide.{dec_lt, dec_le}
use Rattle.std.proofs.Math.ListN.{get_or-eq_default}
use Rattle.slices.specs.Filling.{Filled}
use Rattle.zmod.specs.Zmod.{mk}
use Rattle.zmod.specs.Residues.{Reduced, poly, poly_at}
use Rattle.expansion.specs.Equations.{ReducedTo}

module _ (p : ℕ) (xs : List ℕ) where
  drop_at : (a i : ℕ) → poly p (drop a xs) i ≡ poly p xs (a + i)
  drop_at a i = poly_at p (drop a xs) i ∙ ap (mk p) (get_or-drop a xs i 0) ∙ sym (poly_at p xs (a + i))

  pub take_at : (n i : ℕ) → i < n → poly p (take n xs) i ≡ poly p xs i
  take_at n i l = poly_at p (take n xs) i ∙ ap (mk p) (get_or-take n xs i 0 l) ∙ sym (poly_at p xs i)

  pub reduced_front : 0 < p → (n : ℕ) → ReducedTo p xs n → Reduced p (take n xs)
  reduced_front pos n h i = go (dec_lt i n)
    where
      go : Dec (i < n) → get_or (take n xs) i 0 < p
      go (yes l) = subst (λ w. w < p) (sym (get_or-take n xs i 0 l)) (h i l)
      go (no l) =
          let z : get_or (take n xs) i 0 ≡ 0 = get_or-eq_default (take n xs) 0 (omega (arith, length-take n xs)) in
          omega arith

-- n words from a on
module _ (p : ℕ) (xs : List ℕ) (a n : ℕ) where
  pub part_at : (i : ℕ) → i < n → poly p (take n (drop a xs)) i ≡ poly p xs (a + i)
  part_at i l = take_at p (drop a xs) n i l ∙ drop_at p xs a i

  pub part_reduced : 0 < p → ReducedTo p xs (a + n) → Reduced p (take n (drop a xs))
  part_reduced pos h = reduced_front p (drop a xs) pos n (λ i l. subst (λ w. w < p) (sym (get_or-drop a xs i 0)) (h (a + i) (omega arith)))

-- ── reversal

-- ys is xs backwards, of n + 1 words
module _ (xs ys : List ℕ) (n : ℕ) (nx : length xs ≡ n + 1) (ny : length ys ≡ n + 1)
    (back : Filled (λ i w. w ≡ get_or xs (length xs - 1 - i) 0) ys (length xs)) where
  pub reversed_reduced : (p : ℕ) → Reduced p xs → Reduced p ys
  reversed_reduced p h i = go (dec_le i n)
    where
      go : Dec (i ≤ n) → get_or ys i 0 < p
      go (yes l) = subst (λ w. w < p) (sym (back i (omega arith))) (h (length xs - 1 - i))
      go (no l) =
          let z : get_or ys i 0 ≡ 0 = get_or-eq_default ys 0 (omega arith) in
          omega (arith, h 0)
