-- Newton's sum in two parts, the second of them a coefficient of a product of parts.
-- Assumes nothing.
use mathlib.Core.Path.{◌≡◌, ◌∙◌, ap, ap₂}
use Prim.Native.Nat.{ℕ, suc, ◌+◌, ◌-◌, ◌≤◌, ◌<◌}
use native.Mathlib.Omega.{arith}
use Rattle.ring.specs.Ring.{CRing}
use Rattle.series.specs.Series.{Seq, conv, sum, sum_first}
use Rattle.isogeny.specs.Expansion.{sum_to}
use Rattle.expansion.specs.Products.{conv_terms}
use Rattle.candidate.specs.Equations.{far}

module _ (R : CRing) where
  open R use {𝟘, add as ◌⊕◌, mul as ◌⊗◌}

  infixl 65 ◌⊕◌
  infixl 70 ◌⊗◌
  -- i = 1, and the rest
  pub newton_split : (s c : Seq R) (k : ℕ) → 1 ≤ k → sum_to R (λ i. s i ⊗ c (k - i)) k ≡ s 1 ⊗ c (k - 1) ⊕ far R s c k
  newton_split s c k l =
      ap (sum R (λ i. s (suc i) ⊗ c (k - suc i))) {y = suc (k - 1)} (omega arith) ∙ sum_first R (λ i. s (suc i) ⊗ c (k - suc i)) (k - 1)

  -- the rest at 1: there is none
  pub far_none : (s c : Seq R) (k : ℕ) → k ≡ 1 → far R s c k ≡ 𝟘
  unfolding sum
  far_none s c k e = ap (far R s c) e

  -- i from 2 to k: a is s from 2 on, to k at least, and b is c up to k − 2
  pub far_part : (s c a b : Seq R) (k : ℕ) → 2 ≤ k → ((i : ℕ) → i < k - 1 → a i ≡ s (2 + i)) → ((i : ℕ) → i < k - 1 → b i ≡ c i)
      → conv R a b (k - 2) ≡ far R s c k
  far_part s c a b k l ha hb =
      conv_terms R a b (λ i. s (suc (suc i)) ⊗ c (k - suc (suc i))) (k - 2)
      (λ i m. ap₂ ◌⊗◌ (ha i (omega arith) ∙ ap s (omega arith)) (hb (k - 2 - i) (omega arith) ∙ ap c (omega arith)))
      ∙ ap (sum R (λ i. s (suc (suc i)) ⊗ c (k - suc (suc i)))) (omega arith)
