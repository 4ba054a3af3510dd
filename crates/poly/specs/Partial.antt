-- The partial sums of a coefficient of a product, as the loops of a product gather them.
-- Assumes nothing.
use Rattle.std.specs.Prelude.{List, ◌≡◌, ℕ, ◌-◌, ◌*◌, ◌/◌, ◌%◌, get_or}
use Rattle.series.specs.Series.{sum}
use Rattle.zmod.specs.Zmod.{Elt, Zmod, times}
use Rattle.zmod.specs.Residues.{poly}

-- the sum of a i · b (k − i) over the i before n; over the i up to k it is the coefficient k of the product
unfoldable pub partial : (p : ℕ) → List ℕ → List ℕ → ℕ → ℕ → Elt p
partial p a b k n = sum (Zmod p) (λ i. times p (poly p a i) (poly p b (k - i))) n

-- r is the term of the coefficient k of the square of a that has no twin: the square of the word at k / 2 where k is even, nothing where it is odd
pub record Alone (a : List ℕ) (k r : ℕ) : Type 0 where
  pub even : k % 2 ≡ 0 → r ≡ get_or a (k / 2) 0 * get_or a (k / 2) 0
  pub odd : (k % 2 ≡ 0 → ⊥) → r ≡ 0
