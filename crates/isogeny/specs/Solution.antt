-- What solving computes from a question, as equations with no division: h from the codomain by document 01's recurrence, the power sums s from h and σ,
-- and c, the coefficients of g from that of x^d down, from s by Newton's identities. (`proofs/Existence`: there are such sequences where the integers
-- from 1 to ℓ are invertible. `Theorems`: a g that meets the rules has the coefficients c.)
-- Assumes nothing.
use Rattle.std.specs.Prelude.{◌≡◌, ℕ, suc, ◌*◌, ◌-◌, ◌≤◌, ◌<◌}
use Rattle.ring.specs.Ring.{CRing, cast}
use Rattle.series.specs.Series.{Seq}
use Rattle.series.specs.Degree.{Below}
use Rattle.isogeny.specs.Rules.{Question}
use Rattle.isogeny.specs.Expansion.{Newton, Recurs, from_sums}

module _ (R : CRing) (q : Question R) where
  open q use {A, B, Ã, B̃, d, σ}
  open R use {Car, 𝟘, 𝟙, add as ◌⊕◌, mul as ◌⊗◌, neg}

  infixl 65 ◌⊕◌ ◌⊖◌
  infixl 70 ◌⊗◌
  infix 80 #◌
  abbrev ◌⊖◌ : Car → Car → Car
  a ⊖ b = a ⊕ neg b

  abbrev #◌ : ℕ → Car
  # n = cast R n

  pub record Computed (h s c : Seq R) : Type 0 where
    -- h₀ to h_(d − 1)
    pub h_zero : h 0 ≡ 𝟘
    pub h_first : 1 < d → # 5 ⊗ h 1 ≡ A ⊖ Ã
    pub h_second : 2 < d → # 7 ⊗ h 2 ≡ B ⊖ B̃
    pub h_more : (k : ℕ) → 3 ≤ k → k < d → Recurs R A B h k
    -- s₀ to s_d, beginning with ℓ − 1 and σ
    pub s_zero : s 0 ≡ # (2 * d)
    pub s_one : s 1 ≡ σ
    pub s_more : (i : ℕ) → 1 ≤ i → i < d → from_sums R A B s i ≡ h i
    -- c₀ to c_d
    pub c_zero : c 0 ≡ 𝟙
    pub c_more : (k : ℕ) → 1 ≤ k → k ≤ d → Newton R c s k

  -- g is the polynomial with these coefficients: c_k is that of x^(d − k)
  pub record Coefficients (g c : Seq R) : Type 0 where
    pub degree : Below R (suc d) g
    pub descending : (k : ℕ) → k ≤ d → g (d - k) ≡ c k
