-- Words that solve equations, one for each place of a sequence: the words before k of a slice solve the equations before k, and one more word, stored at k,
-- that at k. An equation at k reads the sequence up to k.
-- Assumes nothing.
use Rattle.std.specs.Prelude.{List, ℕ, ◌<◌, set}
use Rattle.series.specs.Series.{Seq}
use Rattle.zmod.specs.Zmod.{Zmod}
use Rattle.zmod.specs.Residues.{poly}
use Rattle.slices.specs.Filling.{Filled}

-- the words before k are residues
abbrev pub ReducedTo : ℕ → List ℕ → ℕ → Type 0
ReducedTo p xs k = Filled (λ j w. w < p) xs k

module _ (p : ℕ) (E : Seq (Zmod p) → ℕ → Type 0) where
  -- the words before k solve the equations before k
  pub record Solved (xs : List ℕ) (k : ℕ) : Type 0 where
    pub reduced : ReducedTo p xs k
    pub equations : (j : ℕ) → j < k → E (poly p xs) j

  -- r, stored at k, solves the equation at k
  pub record Solves (xs : List ℕ) (k r : ℕ) : Type 0 where
    pub below : r < p
    pub equation : E (poly p (set xs k r)) k
