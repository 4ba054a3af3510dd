-- Document 01's expansion at infinity, N/g² = x + h₁/x + h₂/x² + .., as equations with no division: the recurrence that h obeys, h from the power sums
-- s of g's roots, s from g's coefficients by Newton's identities, and the conditions on h that stand for R3.
-- Indices are natural numbers, and a difference below 0 is read as 0: it stands only where its factor is 0, or where no theorem goes.
-- Assumes nothing.
use Rattle.std.specs.Prelude.{◌≡◌, ℕ, zero, suc, ◌+◌, ◌*◌, ◌-◌, ◌≤◌}
use Rattle.ring.specs.Ring.{CRing, cast}
use Rattle.series.specs.Series.{Seq, sum}
use Rattle.series.specs.Recursion.{fix}
use Rattle.series.specs.Reversal.{rev}
use Rattle.isogeny.specs.Rules.{Question, ℓ, N, left, right}

module _ (R : CRing) where
  open R use {Car, 𝟘, add as ◌⊕◌, mul as ◌⊗◌, neg}

  infixl 65 ◌⊕◌ ◌⊖◌
  infixl 70 ◌⊗◌
  infix 80 #◌
  abbrev ◌⊖◌ : Car → Car → Car
  a ⊖ b = a ⊕ neg b

  abbrev #◌ : ℕ → Car
  # n = cast R n

  -- the sum of the a i, i from 1 to n
  abbrev pub sum_to : Seq R → ℕ → Car
  sum_to a n = sum R (λ i. a (suc i)) n

  -- Newton's identity at k: 2k c_k = −(sum of s_i c_(k − i), i from 1 to k). (The 2 is there because each root is counted twice.)
  abbrev pub Newton : Seq R → Seq R → ℕ → Type 0
  Newton c s k = # (2 * k) ⊗ c k ≡ neg (sum_to (λ i. s i ⊗ c (k - i)) k)

  -- ── h, for the domain (A, B)

  module _ (A B : Car) where
    -- the right side at k: 3 Σ h_i h_(k−1−i), over 1 ≤ i ≤ k − 2, less (k − 2)(2k − 3)A h_(k−2), less 2(k − 2)(k − 3)B h_(k−3)
    abbrev pub recurrence : Seq R → ℕ → Car
    recurrence h k =
        # 3 ⊗ sum_to (λ i. h i ⊗ h (k - 1 - i)) (k - 2) ⊖ # (k - 2) ⊗ # (2 * k - 3) ⊗ A ⊗ h (k - 2) ⊖ # 2 ⊗ # (k - 2) ⊗ # (k - 3) ⊗ B ⊗ h (k - 3)

    -- the left side is (k − 2)(2k + 3)h_k; meant for k from 3 on
    abbrev pub Recurs : Seq R → ℕ → Type 0
    Recurs h k = # (k - 2) ⊗ # (2 * k + 3) ⊗ h k ≡ recurrence h k

    -- h_i = (2i + 1)s_(i+1) + (2i − 1)A s_(i−1) + (2i − 2)B s_(i−2); at i = 1 the factor 2i − 2 takes B's term away
    abbrev pub from_sums : Seq R → ℕ → Car
    from_sums s i = # (2 * i + 1) ⊗ s (i + 1) ⊕ # (2 * i - 1) ⊗ A ⊗ s (i - 1) ⊕ # (2 * i - 2) ⊗ B ⊗ s (i - 2)

    -- all of h: h₀ is 0, and the rest come from s
    abbrev pub expansion : Seq R → Seq R
    expansion s zero = 𝟘
    expansion s (suc i) = from_sums s (suc i)

  -- ── s, for a g of degree d

  module _ (d : ℕ) where
    -- s₀ to s_n: twice the power sums of g's roots, which start with s₀ = ℓ − 1. No root is formed: Newton's identities say it of the coefficients, where
    -- c_k is g's coefficient of x^(d − k), and 0 past d
    pub record PowerSums (g : Seq R) (n : ℕ) (s : Seq R) : Type 0 where
      pub first : s 0 ≡ # (2 * d)
      pub newton : (k : ℕ) → 1 ≤ k → k ≤ n → Newton (rev R d g) s k

    -- the sequence that obeys them: s_k = −2k c_k − (sum of s_i c_(k − i), i from 1 to k − 1), where k is `suc k`
    unfoldable pub newton_step : Seq R → ℕ → Seq R → Car
    newton_step g zero s = # (2 * d)
    newton_step g (suc k) s = neg (# (2 * suc k) ⊗ rev R d g (suc k)) ⊖ sum_to (λ i. s i ⊗ rev R d g (suc k - i)) k

    unfoldable pub power_sums_of : Seq R → Seq R
    power_sums_of g = fix Car 𝟘 (newton_step g)

  -- ── the conditions on h that stand for R3

  module _ (q : Question R) where
    open q use {A, B, Ã, B̃}

    pub record Short (h : Seq R) : Type 0 where
      pub first : # 5 ⊗ h 1 ≡ A ⊖ Ã
      pub second : # 7 ⊗ h 2 ≡ B ⊖ B̃
      pub recurs : (k : ℕ) → 3 ≤ k → k ≤ ℓ R q → Recurs A B h k

    -- for a small prime e, at most 3ℓ − 3, one coefficient of R3 besides: that of x^(3ℓ − 3 − e)
    abbrev pub Extra : Seq R → ℕ → Type 0
    Extra g e = e ≤ 3 * ℓ R q - 3 → left R q g (N R q g) (3 * ℓ R q - 3 - e) ≡ right R q g (N R q g) (3 * ℓ R q - 3 - e)
