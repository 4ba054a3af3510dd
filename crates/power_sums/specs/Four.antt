-- Words that are stored four at a time, and the tail of a slice.
-- Assumes nothing.
use Rattle.std.specs.Prelude.{◌≡◌, List, ℕ, ◌+◌, ◌-◌, ◌<◌, length, get_or, take, drop}
use Rattle.std.proofs.Common.{sym, ◌∙◌, ap, subst, arith, length-take, get_or-take, get_or-drop}
use Rattle.std.proofs.Math.Decide.{dec_lt}
use Rattle.std.proofs.Math.ListN.{get_or-eq_default}
use Rattle.series.specs.Series.{Seq}
use Rattle.zmod.specs.Zmod.{Zmod, mk}
use Rattle.zmod.specs.Residues.{poly, poly_at}
use Rattle.rows.specs.Rows.{Four}
use Rattle.rows.specs.Room.{each}
use Rattle.expansion.specs.Equations.{ReducedTo, Solved}
use Rattle.expansion.specs.Stores.{Causal}

-- four words more
pub reduced_four : (p : ℕ) (xs ys : List ℕ) (i w x y z : ℕ) → Four xs i w x y z ys → w < p → x < p → y < p → z < p → ReducedTo p xs i → ReducedTo p ys (i + 4)
reduced_four p xs ys i w x y z f lw lx ly lz h j l = go (dec_lt j i)
  where
    go : Dec (j < i) → get_or ys j 0 < p
    go (yes m) = subst (λ t. t < p) (sym (f.before j m)) (h j m)
    go (no m) =
        each i (λ j. get_or ys j 0 < p) (subst (λ t. t < p) (sym f.first) lw) (subst (λ t. t < p) (sym (ap (λ n. get_or ys n 0) (omega arith) ∙ f.second)) lx)
        (subst (λ t. t < p) (sym (ap (λ n. get_or ys n 0) (omega arith) ∙ f.third)) ly)
        (subst (λ t. t < p) (sym (ap (λ n. get_or ys n 0) (omega arith) ∙ f.fourth)) lz) j (omega arith) (omega arith)

module _ (p : ℕ) (E : Seq (Zmod p) → ℕ → Type 0) where
  pub solved_four : Causal p E → (xs ys : List ℕ) (i w x y z : ℕ) → Four xs i w x y z ys → w < p → x < p → y < p → z < p
      → E (poly p ys) i → E (poly p ys) (1 + i) → E (poly p ys) (2 + i) → E (poly p ys) (3 + i) → Solved p E xs i → Solved p E ys (i + 4)
  solved_four causal xs ys i w x y z f lw lx ly lz a b c d h = record {
    reduced = reduced_four p xs ys i w x y z f lw lx ly lz h.reduced;
    equations = λ j l. go j l (dec_lt j i);
  }
    where
      before : (n : ℕ) → n < i → poly p xs n ≡ poly p ys n
      before n m = poly_at p xs n ∙ ap (mk p) (sym (f.before n m)) ∙ sym (poly_at p ys n)

      go : (j : ℕ) → j < i + 4 → Dec (j < i) → E (poly p ys) j
      go j l (yes m) = causal j (poly p xs) (poly p ys) (λ n k. before n (omega arith)) (h.equations j m)
      go j l (no m) = each i (E (poly p ys)) a b c d j (omega arith) (omega arith)

-- all words from a on, and zeros past the end
pub tail_at : (xs : List ℕ) (a j : ℕ) → get_or (take (length xs - a) (drop a xs)) j 0 ≡ get_or xs (a + j) 0
tail_at xs a j = go (dec_lt j (length xs - a))
  where
    go : Dec (j < length xs - a) → get_or (take (length xs - a) (drop a xs)) j 0 ≡ get_or xs (a + j) 0
    go (yes l) = get_or-take (length xs - a) (drop a xs) j 0 l ∙ get_or-drop a xs j 0
    go (no l) =
        get_or-eq_default (take (length xs - a) (drop a xs)) 0 (omega (arith, length-take (length xs - a) (drop a xs)))
        ∙ sym (get_or-eq_default xs 0 (omega arith))
