-- What a loop that stores the residues of a polynomial's coefficients leaves.
-- Assumes nothing.
use Rattle.std.specs.Prelude.{◌≡◌, List, ℕ, ◌≤◌, ◌<◌, length, get_or}
use Rattle.std.proofs.Common.{sym, ◌∙◌, ap, arith}
use Rattle.std.proofs.Math.Decide.{dec_lt}
use Rattle.slices.specs.Stored.{Stored}
use Rattle.series.specs.Series.{Seq}
use Rattle.zmod.specs.Zmod.{Zmod, mk}
use Rattle.zmod.specs.Residues.{Residue, Reduced, Residues, poly, poly_at, residues_filled}

-- each word is the residue of a's coefficient
abbrev pub Of : (p : ℕ) → Seq (Zmod p) → ℕ → ℕ → Type 0
Of p a j v = Residue p (a j) v

pub stored_all : (p : ℕ) (a : Seq (Zmod p)) (xs₀ xs : List ℕ) (k : ℕ) → 0 < p → length xs ≤ k → Stored (Of p a) xs₀ xs k → Residues p a xs
stored_all p a xs₀ xs k pos end h = residues_filled {a = a} pos (λ j l. h.filled j (omega arith))

-- the same for a loop that stops before the end, where the words that stay are already those of a
pub stored_front : (p : ℕ) (a : Seq (Zmod p)) (xs₀ xs : List ℕ) (k : ℕ) → 0 < p → Reduced p xs₀ → ((j : ℕ) → k ≤ j → j < length xs₀ → poly p xs₀ j ≡ a j)
    → Stored (Of p a) xs₀ xs k → Residues p a xs
stored_front p a xs₀ xs k pos low rest h = residues_filled {a = a} pos (λ j l. go j l (dec_lt j k))
  where
    go : (j : ℕ) → j < length xs → Dec (j < k) → Residue p (a j) (get_or xs j 0)
    go j l (yes b) = h.filled j b
    go j l (no b) =
        let e : get_or xs j 0 ≡ get_or xs₀ j 0 = h.kept j (omega arith) in
        record { below = omega (arith, low j); class = ap (mk p) e ∙ sym (poly_at p xs₀ j) ∙ rest j (omega arith) (omega (arith, h.same_length)) }
