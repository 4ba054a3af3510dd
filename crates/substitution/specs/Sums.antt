-- Sums that a product by rows is added to before they take a remainder: what they are at first, zeros or a multiple of a polynomial, and in the end.
-- Assumes nothing.
use Rattle.std.specs.Prelude.{◌≡◌, List, ℕ, ◌+◌, ◌*◌, ◌-◌, ◌≤◌, ◌<◌, length, get_or, replicate}
use Rattle.std.proofs.Common.{sym, ◌∙◌, ap, arith}
use Rattle.std.proofs.Math.Nat as N
use Rattle.std.proofs.Math.Decide.{dec_lt}
use Rattle.std.proofs.Math.ListN.{get_or-eq_default}
use Rattle.ring.specs.Ring
use Rattle.slices.specs.Filling.{Filled}
use Rattle.series.specs.Series.{Seq, conv, sums, scaled}
use Rattle.zmod.specs.Zmod.{Zmod, mk, plus, times, mk_mul}
use Rattle.zmod.specs.Residues.{Reduced, poly, poly_at, Residues, residues_same, residues_upto}
use Rattle.rows.specs.Room.{zero_at}
use Rattle.rows.specs.Sums.{Sums, sums_residues}
use Rattle.rows.specs.Product.{held, behind_held}

-- e held the other factor h, and `out` has the remainders of the sums
pub product_added : (p : ℕ) (acc a h e acc' out : List ℕ) → length out ≤ length acc' → ((j : ℕ) → get_or e (3 + j) 0 ≡ get_or h j 0)
    → Sums p (sums (Zmod p) (poly p acc) (conv (Zmod p) (poly p a) (held p e))) acc' → Residues p (poly p acc') out
    → Residues p (sums (Zmod p) (poly p acc) (conv (Zmod p) (poly p a) (poly p h))) out
product_added p acc a h e acc' out le words added taken =
    residues_same (ap (λ f. sums (Zmod p) (poly p acc) (conv (Zmod p) (poly p a) f)) (behind_held p e h words)) (sums_residues le added taken)

module _ (p n : ℕ) (acc : List ℕ) (zero : acc ≡ replicate n 0) where
  zeros_at : (k : ℕ) → get_or acc k 0 ≡ 0
  zeros_at k = ap (λ l. get_or l k 0) zero ∙ zero_at n k

  pub zeros_low : (k : ℕ) → get_or acc k 0 ≤ (p - 1) * (p - 1)
  zeros_low k = omega (arith, zeros_at k)

  pub zeros_add : (f : Seq (Zmod p)) (xs : List ℕ) → Residues p (sums (Zmod p) (poly p acc) f) xs → Residues p f xs
  zeros_add f xs = residues_upto (λ i l.
      ap (λ x. plus p x (f i)) (poly_at p acc i ∙ ap (mk p) (zeros_at i)) ∙ Ring.zero-add (Zmod p) (f i))

module _ (p c : ℕ) (b acc : List ℕ) (filled : Filled (λ j v. v ≡ c * get_or b j 0) acc (length acc)) where
  pub multiple_low : c < p → Reduced p b → (k : ℕ) → get_or acc k 0 ≤ (p - 1) * (p - 1)
  multiple_low small low k = go (dec_lt k (length acc))
    where
      go : Dec (k < length acc) → get_or acc k 0 ≤ (p - 1) * (p - 1)
      go (yes l) =
          omega (
            arith,
            filled k l,
            N.mul-le-mul {n₁ = c} {m₁ = get_or b k 0} {n₂ = p - 1} {m₂ = p - 1} (omega arith) (omega (arith, low k)),
          )
      go (no l) = let z : get_or acc k 0 ≡ 0 = get_or-eq_default acc 0 (omega arith) in omega arith

  pub multiple_add : (f : Seq (Zmod p)) (xs : List ℕ) → length xs ≤ length acc → Residues p (sums (Zmod p) (poly p acc) f) xs
      → Residues p (sums (Zmod p) (scaled (Zmod p) (mk p c) (poly p b)) f) xs
  multiple_add f xs le = residues_upto (λ i l.
      ap (λ x. plus p x (f i)) (poly_at p acc i ∙ ap (mk p) (filled i (omega arith)) ∙ mk_mul p c (get_or b i 0) ∙ ap (times p (mk p c)) (sym (poly_at p b i))))
