-- Tables of the powers of a point and of their derivatives, and the sums of products that are made of them.
-- Assumes nothing.
use Rattle.std.specs.Prelude.{◌≡◌, List, ℕ, suc, ◌+◌, ◌*◌, ◌≤◌, ◌<◌, length, get_or}
use Rattle.ring.specs.Ring.{CRing, cast, pow}
use Rattle.series.specs.Series.{Seq, sum, head_then}
use Rattle.zmod.specs.Zmod.{Elt, Zmod}
use Rattle.zmod.specs.Residues.{poly, Residues}

module _ (R : CRing) where
  open R use {Car, 𝟘, mul as ◌⊗◌}

  infixl 70 ◌⊗◌
  -- 0, 1, 2 u, 3 u², ..: the derivatives of the powers
  abbrev pub rise : Car → Seq R
  rise u = head_then R 𝟘 (λ i. cast R (suc i) ⊗ pow R u i)

  -- the sum of f i · w i over the i before n
  abbrev pub weighed : Seq R → Seq R → ℕ → Car
  weighed f w = sum R (λ i. f i ⊗ w i)

-- the word at i is at most i + 1 times the largest of 28 bits
abbrev pub Low : List ℕ → Type 0
Low xs = (i : ℕ) → get_or xs i 0 ≤ (i + 1) * 268435455

abbrev pub Slopes : (p : ℕ) → Elt p → List ℕ → Type 0
Slopes p u xs = (i : ℕ) → i < length xs → poly p xs i ≡ rise (Zmod p) u i

pub record Tables (p : ℕ) (u : Elt p) (powers slopes : List ℕ) : Type 0 where
  pub powers_are : Residues p (pow (Zmod p) u) powers
  pub slopes_are : Slopes p u slopes
  pub powers_low : Low powers
  pub slopes_low : Low slopes
