-- The theorems, over ℤ/p for a prime p, two curves, the first nonsingular, and a degree ℓ = 2d + 1 with 4ℓ − 1 < p (document 02 asks for more, 8ℓ − 5 < p):
-- one page to cite. What is said here is said in `WithoutSum`, `reconstruction` and `isogeny`'s `Rules`; the proofs are in the modules beside this one.
-- Assumes nothing.
use Rattle.std.specs.Prelude.{◌↔◌, ◌≢◌, ◌≡◌, ℕ, ◌+◌, ◌*◌, ◌-◌, ◌≤◌, ◌<◌}
use Rattle.std.proofs.Common.{subst}
use Rattle.ring.specs.Ring.{CRing, pow}
use Rattle.series.specs.Series.{Series, Seq, conv, const, zeros}
use Rattle.zmod.specs.Zmod.{Zmod}
use Rattle.zmod.specs.Prime.{Prime}
use Rattle.isogeny.specs.Curve.{Nonsingular}
use Rattle.isogeny.specs.Rules.{Meets}
use Rattle.kernel_sum.specs.WithoutSum.{with_sum, Expands, Found}
use Rattle.kernel_sum.proofs.Determined as Determined
use Rattle.kernel_sum.proofs.Sum as Sum
use Rattle.kernel_sum.proofs.Only as Only

module _ {p : ℕ} (P : Prime p) (A B Ã B̃ : (Zmod p).Car) (d : ℕ) (d≥1 : 1 ≤ d) (small : 4 * (2 * d + 1) - 1 < p)
    (nonsingular : Nonsingular (Zmod p) A B) where
  abbrev R : CRing
  R = Zmod p

  open R use {Car, 𝟘, mul as ◌⊗◌, neg}

  infixl 70 ◌⊗◌
  -- ── 1. at most one σ: of two pairs (σ, g) that meet the rules

  module _ (σ σ' : Car) (g g' : Seq R) (meets : Meets R (with_sum R A B Ã B̃ d σ) g) (meets' : Meets R (with_sum R A B Ã B̃ d σ') g') where
    -- the kernel sums are equal,
    pub one_sum : σ ≡ σ'
    one_sum =
        Sum.one_sum R A B Ã B̃ d d≥1 (Only.units P A B Ã B̃ d d≥1 small nonsingular) σ g meets
        (Only.lowest P A B Ã B̃ d d≥1 small nonsingular σ g meets) σ' g' meets'

    -- and so are the kernel polynomials.
    pub one_g : g ≡ g'
    one_g =
        Sum.one_g R A B Ã B̃ d d≥1 (Only.units P A B Ã B̃ d d≥1 small nonsingular) σ g meets
        (Only.lowest P A B Ã B̃ d d≥1 small nonsingular σ g meets) σ' g' meets'

  -- ── 2. finding σ: from h₁ to h_(4d) by the recurrence, and r = t (h₁ x^(4d − 1) + .. + h_(4d)) + s x^(4d) with r of degree below 2d, t of degree at most 2d

  module _ (h r t : Seq R) (computed : Expands R A B Ã B̃ (4 * d) h) (found : Found R d h r t) where
    module _ (σ : Car) (g : Seq R) (meets : Meets R (with_sum R A B Ã B̃ d σ) g) where
      -- t is g² times a constant, its coefficient of x^(2d),
      pub square_found : t ≡ conv R (const R (t (2 * d))) (pow (Series R) g 2)
      square_found =
          Determined.square_found R A B Ã B̃ d d≥1 (Only.units P A B Ã B̃ d d≥1 small nonsingular) σ g meets
          (Only.lowest P A B Ã B̃ d d≥1 small nonsingular σ g meets) h computed r t found

      -- which is not 0 where t is not.
      pub found_nonzero : t ≢ zeros R → t (2 * d) ≢ 𝟘
      found_nonzero =
          Determined.found_nonzero R A B Ã B̃ d d≥1 (Only.units P A B Ã B̃ d d≥1 small nonsingular) σ g meets
          (Only.lowest P A B Ã B̃ d d≥1 small nonsingular σ g meets) h computed r t found

      -- σ is −t_(2d − 1) / t_(2d).
      pub sum_found : σ ⊗ t (2 * d) ≡ neg (t (2 * d - 1))
      sum_found =
          Sum.sum_found R A B Ã B̃ d d≥1 (Only.units P A B Ã B̃ d d≥1 small nonsingular) σ g meets
          (Only.lowest P A B Ã B̃ d d≥1 small nonsingular σ g meets) h computed r t found

    -- Where t_(2d) is 0 and t is not, no σ has a g.
    pub none : t ≢ zeros R → t (2 * d) ≡ 𝟘 → (σ : Car) (g : Seq R) → Meets R (with_sum R A B Ã B̃ d σ) g → ⊥
    none nonzero e σ g meets =
        Determined.found_nonzero R A B Ã B̃ d d≥1 (Only.units P A B Ã B̃ d d≥1 small nonsingular) σ g meets
        (Only.lowest P A B Ã B̃ d d≥1 small nonsingular σ g meets) h computed r t found nonzero e

    -- Else no σ has one but the σ that is read off,
    module _ (σ : Car) (c≢0 : t (2 * d) ≢ 𝟘) (e : σ ⊗ t (2 * d) ≡ neg (t (2 * d - 1))) where
      pub only : (σ' : Car) (g : Seq R) → Meets R (with_sum R A B Ã B̃ d σ') g → σ' ≡ σ
      only = Only.only P A B Ã B̃ d d≥1 small nonsingular h r t computed found σ c≢0 e

      -- so that it is enough to solve the question with that σ.
      pub solved : ((σ' : Car) × (g : Seq R) × Meets R (with_sum R A B Ã B̃ d σ') g) ↔ ((g : Seq R) × Meets R (with_sum R A B Ã B̃ d σ) g)
      solved = (from, λ a. (σ, a.0, a.1))
        where
          from : (σ' : Car) × (g : Seq R) × Meets R (with_sum R A B Ã B̃ d σ') g → (g : Seq R) × Meets R (with_sum R A B Ã B̃ d σ) g
          from (σ', g, meets) = (
            g,
            subst (λ s. Meets R (with_sum R A B Ã B̃ d s) g) (Only.only P A B Ã B̃ d d≥1 small nonsingular h r t computed found σ c≢0 e σ' g meets) meets,
          )
