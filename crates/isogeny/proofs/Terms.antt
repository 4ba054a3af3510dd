-- Which terms of h and s the recurrence, the expansion and the short conditions read.
-- Assumes nothing.
use Rattle.std.specs.Prelude.{◌≡◌, refl, ℕ, zero, suc, ◌+◌, ◌-◌, ◌≤◌}
use Rattle.std.proofs.Common.{ap₂, arith}
use Rattle.ring.specs.Ring.{CRing}
use Rattle.series.specs.Series.{Seq, sum_same}
use Rattle.series.specs.Recursion.{Before}
use Rattle.isogeny.specs.Rules.{Question, ℓ}
use Rattle.isogeny.specs.Expansion.{recurrence, expansion, Short}

module _ (R : CRing) (A B : R.Car) where
  open R use {Car, mul as ◌⊗◌}

  infixl 70 ◌⊗◌
  -- the recurrence's right side at k: the terms before k
  pub recurrence_same : (k : ℕ) → 3 ≤ k → (a b : Seq R) → Before Car k a b → recurrence R A B a k ≡ recurrence R A B b k
  recurrence_same k l a b e = cc (
    sum_same R (λ i. a (suc i) ⊗ a (k - 1 - suc i)) (λ i. b (suc i) ⊗ b (k - 1 - suc i)) (k - 2)
        (λ i m. ap₂ ◌⊗◌ (e (suc i) (omega arith)) (e (k - 1 - suc i) (omega arith))),
    e (k - 2) (omega arith),
    e (k - 3) (omega arith),
  )

  -- h before n: s before n + 1
  pub expansion_same : (n : ℕ) (a b : Seq R) → Before Car (suc n) a b → Before Car n (expansion R A B a) (expansion R A B b)
  expansion_same n a b e zero l = refl
  expansion_same n a b e (suc i) l = cc (e (suc i + 1) (omega arith), e (suc i - 1) (omega arith), e (suc i - 2) (omega arith))

module _ (R : CRing) (q : Question R) where
  open q use {A, B, d}

  -- the short conditions: h up to ℓ
  pub short_same : (a b : Seq R) → Before R.Car (suc (ℓ R q)) a b → 1 ≤ d → Short R q a → Short R q b
  short_same a b e d≥1 h = record {
    first = cc (e 1 (omega arith), h.first);
    second = cc (e 2 (omega arith), h.second);
    recurs = λ k l m. cc (e k (omega arith), recurrence_same R A B k l a b (λ i g. e i (omega arith)), h.recurs k l m);
  }
