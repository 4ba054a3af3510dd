-- The number of rational roots by computing: each u from 0 to p − 1 is tried, for tables and examples.
-- Assumes nothing.
use Rattle.std.specs.Prelude.{◌≡◌, refl, Bool, true, false, cond, List, ℕ, zero, suc, ◌%◌, ◌<◌, eqb}
use Rattle.std.proofs.Common.{sym, ◌∙◌, ap, eqb-true}
use Rattle.std.proofs.lemmas.Bool.{eqb-false}
use Rattle.series.specs.Value.{value}
use Rattle.zmod.specs.Zmod.{Zmod, mk, mk_eq, eq_mk, same?}
use Rattle.zmod.specs.Residues.{poly}
use Rattle.zmod.specs.Calculation.{horner, horner_is}
use Rattle.roots.specs.Count.{count, count_zero, count_yes, count_no}
use Rattle.roots.specs.Rational.{rational_roots}

-- how many u below j are roots of the polynomial with the first n of these coefficients
abbrev pub found : ℕ → ℕ → List ℕ → ℕ → ℕ
found p n a zero = 0
found p n a (suc j) = cond (eqb (horner p n a j % p) (0 % p)) (suc (found p n a j)) (found p n a j)

module _ (p n : ℕ) (positive : 0 < p) (a : List ℕ) where
  abbrev Root : ℕ → Type 0
  Root u = value (Zmod p) n (poly p a) (mk p u) ≡ mk p 0

  abbrev root? : (u : ℕ) → Dec (Root u)
  root? u = same? p (value (Zmod p) n (poly p a) (mk p u)) (mk p 0)

  below : (j : ℕ) → count root? j ≡ found p n a j
  below zero = count_zero root?
  below (suc j) = go (eqb (horner p n a j % p) (0 % p)) refl (below j)
    where
      go : (t : Bool) → eqb (horner p n a j % p) (0 % p) ≡ t → count root? j ≡ found p n a j
          → count root? (suc j) ≡ cond t (suc (found p n a j)) (found p n a j)
      go true e same =
          count_yes root? j (sym (horner_is positive n a j) ∙ mk_eq positive (horner p n a j) 0 (eqb-true (horner p n a j % p) (0 % p) e)) ∙ ap suc same
      go false e same =
          count_no root? j (λ zero. eqb-false (horner p n a j % p) (0 % p) e (eq_mk positive (horner p n a j) 0 (horner_is positive n a j ∙ zero))) ∙ same

  pub roots_computed : rational_roots p n (poly p a) ≡ found p n a p
  unfolding rational_roots
  roots_computed = below p
