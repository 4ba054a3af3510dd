-- A word stored at k leaves the sequence before k as it was: so words that solve equations one after the other, each of which reads the sequence up to
-- its place only, solve them all.
-- Assumes nothing.
use Rattle.std.specs.Prelude.{◌≡◌, List, ℕ, suc, ◌+◌, ◌≤◌, ◌<◌, length, get_or, set}
use Rattle.std.proofs.Common.{sym, ◌∙◌, ap, subst, not-suc-le-zero, arith, get_or-set_same, get_or-set_other}
use Rattle.std.proofs.Math.Decide.{dec_lt}
use Rattle.std.proofs.Math.ListN.{get_or-eq_default}
use Rattle.slices.specs.Filling.{filled_none, filled_more}
use Rattle.series.specs.Series.{Seq}
use Rattle.series.specs.Recursion.{Before}
use Rattle.zmod.specs.Zmod.{Elt, Zmod, mk}
use Rattle.zmod.specs.Residues.{Reduced, poly, poly_at}
use Rattle.expansion.specs.Equations.{ReducedTo, Solved, Solves}

module _ (p : ℕ) (xs : List ℕ) (k r : ℕ) where
  pub stored_before : Before (Elt p) k (poly p (set xs k r)) (poly p xs)
  stored_before i l = poly_at p (set xs k r) i ∙ ap (mk p) (get_or-set_other xs k i r 0 (omega arith)) ∙ sym (poly_at p xs i)

  pub stored_at : k < length xs → poly p (set xs k r) k ≡ mk p r
  stored_at l = poly_at p (set xs k r) k ∙ ap (mk p) (get_or-set_same xs k r 0 l)

-- the words of a slice that is filled to its end
pub reduced_all : {p : ℕ} (xs : List ℕ) (n : ℕ) → 0 < p → length xs ≤ n → ReducedTo p xs n → Reduced p xs
reduced_all {p} xs n pos le h i = go (dec_lt i n)
  where
    go : Dec (i < n) → get_or xs i 0 < p
    go (yes l) = h i l
    go (no l) = let z : get_or xs i 0 ≡ 0 = get_or-eq_default xs 0 (omega arith) in omega arith

module _ (p : ℕ) (E : Seq (Zmod p) → ℕ → Type 0) where
  -- the equation at k reads the sequence up to k
  abbrev pub Causal : Type 0
  Causal = (k : ℕ) (a b : Seq (Zmod p)) → Before (Elt p) (suc k) a b → E a k → E b k

  pub solved_none : (xs : List ℕ) → Solved p E xs 0
  solved_none xs = record { reduced = filled_none (λ j w. w < p) xs; equations = λ j l. absurd (not-suc-le-zero l) }

  pub solved_more : Causal → (xs : List ℕ) (k r : ℕ) → k < length xs → Solved p E xs k → Solves p E xs k r → Solved p E (set xs k r) (k + 1)
  solved_more causal xs k r inside h here = record {
    reduced = filled_more (λ j w. w < p) xs k r inside h.reduced here.below;
    equations = λ j l. go j l (dec_lt j k);
  }
    where
      go : (j : ℕ) → j < k + 1 → Dec (j < k) → E (poly p (set xs k r)) j
      go j l (yes m) = causal j (poly p xs) (poly p (set xs k r)) (λ i n. sym (stored_before p xs k r i (omega arith))) (h.equations j m)
      go j l (no m) = let e : k ≡ j = omega arith in subst (E (poly p (set xs k r))) e here.equation

  pub solved_all : 0 < p → (xs : List ℕ) (n : ℕ) → length xs ≤ n → Solved p E xs n → Reduced p xs
  solved_all pos xs n le h = reduced_all xs n pos le h.reduced
