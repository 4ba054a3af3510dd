-- The equations of what solving computes from the expansion h, one for each place of a sequence. (Those of h: `recurrence/specs/Equations`.) An equation at
-- k reads the sequence up to k.
-- Assumes nothing.
use Rattle.std.specs.Prelude.{◌≡◌, ℕ, suc, ◌*◌, ◌-◌, ◌≤◌}
use Rattle.ring.specs.Ring.{CRing, cast}
use Rattle.series.specs.Series.{Seq, sum}
use Rattle.isogeny.specs.Rules.{Question}
use Rattle.isogeny.specs.Expansion.{Newton, from_sums}

module _ (R : CRing) where
  module _ (q : Question R) where
    open q use {A, B, d, σ}

    -- s from h and σ
    pub record SAt (h s : Seq R) (k : ℕ) : Type 0 where
      pub zero : k ≡ 0 → s 0 ≡ cast R (2 * d)
      pub one : k ≡ 1 → s 1 ≡ σ
      pub more : 2 ≤ k → from_sums R A B s (k - 1) ≡ h (k - 1)

  -- c, the coefficients of g from the leading one down, from s
  pub record CAt (s c : Seq R) (k : ℕ) : Type 0 where
    pub zero : k ≡ 0 → c 0 ≡ R.𝟙
    pub more : 1 ≤ k → Newton R c s k

  -- Newton's sum at k without the term that waits for c_(k − 1): s_i c_(k − i), i from 2 to k
  abbrev pub far : Seq R → Seq R → ℕ → R.Car
  far s c k = sum R (λ i. R.mul (s (suc (suc i))) (c (k - suc (suc i)))) (k - 1)
