-- σ is read off what Euclid's algorithm finds, which is g² up to a constant (`Determined`). So two pairs (σ, g) are one.
-- Assumes nothing.
use Rattle.std.specs.Prelude.{◌≡◌, ℕ, ◌+◌, ◌*◌, ◌-◌, ◌≤◌}
use Rattle.std.proofs.Math.Path.{sym, ap}
use Rattle.std.proofs.Common.{◌∙◌, subst, arith}
use Rattle.ring.specs.Ring
use Rattle.ring.specs.Ring.{CRing, pow}
use Rattle.ring.specs.Identity.{solve2}
use Rattle.ring.specs.Identity.Ex.{◌:-◌, ◌:*◌, :-◌}
use Rattle.series.specs.Series as S
use Rattle.series.specs.Series.{Series, Seq}
use Rattle.series.specs.Recursion.{Before}
use Rattle.isogeny.specs.Rules.{Question, Meets, N}
use Rattle.isogeny.specs.Expansion.{expansion, power_sums_of}
use Rattle.isogeny.proofs.Cancelling.{Cancels}
use Rattle.isogeny.proofs.Determined as Determined
use Rattle.divisibility.specs.Coprime.{Coprime}
use Rattle.kernel_sum.specs.WithoutSum.{with_sum, Expands, Found}
use Rattle.kernel_sum.proofs.Expansion.{expands, same_expansion}
use Rattle.kernel_sum.proofs.AtInfinity.{g²_monic}
use Rattle.kernel_sum.proofs.Approximant.{approximant}
use Rattle.kernel_sum.proofs.Determined.{second, square_found}

module _ (R : CRing) (A B Ã B̃ : R.Car) (d : ℕ) (d≥1 : 1 ≤ d) where
  infixr 75 ◌^◌
  abbrev ◌^◌ : Seq R → ℕ → Seq R
  a ^ n = pow (Series R) a n

  abbrev asked : R.Car → Question R
  asked σ = with_sum R A B Ã B̃ d σ

  module _ (cancels : Cancels R (8 * d + 3)) (σ : R.Car) (g : Seq R) (meets : Meets R (asked σ) g) (lowest : Coprime R g (N R (asked σ) g)) where
    module _ (h : Seq R) (computed : Expands R A B Ã B̃ (4 * d) h) (r t : Seq R) (found : Found R d h r t) where
      -- σ is read off its first two coefficients
      pub sum_found : R.mul σ (t (2 * d)) ≡ R.neg (t (2 * d - 1))
      sum_found =
          solve2 R (λ s c. s :* c) (λ s c. :- (c :* :- s)) tt σ (t (2 * d))
          ∙ ap R.neg (ap (R.mul (t (2 * d))) (sym (second R A B Ã B̃ d d≥1 σ g meets.r1)) ∙ sym (S.conv_const R (t (2 * d)) (g ^ 2) (2 * d - 1))
          ∙ ap (λ f. f (2 * d - 1)) (sym (square_found R A B Ã B̃ d d≥1 cancels σ g meets lowest h computed r t found)))

    -- ── two pairs

    module _ (σ' : R.Car) (g' : Seq R) (meets' : Meets R (asked σ') g') where
      pub one_sum : σ ≡ σ'
      one_sum =
          sym (R.mul-one σ) ∙ ap (R.mul σ) (sym (g²_monic R A B Ã B̃ d d≥1 σ' g' meets'.r1).one)
          ∙ sum_found h (expands R A B Ã B̃ d d≥1 σ g meets (4 * d)) _ (g' ^ 2) (approximant R A B Ã B̃ d d≥1 σ' g' meets'.r1 h agree)
          ∙ ap R.neg (second R A B Ã B̃ d d≥1 σ' g' meets'.r1) ∙ Ring.neg-neg R σ'
        where
          h : Seq R
          h = expansion R A B (power_sums_of R d g)

          agree : Before R.Car (4 * d + 1) (expansion R A B (power_sums_of R d g)) (expansion R A B (power_sums_of R d g'))
          agree =
              same_expansion R A B Ã B̃ d d≥1 cancels (expansion R A B (power_sums_of R d g)) (expansion R A B (power_sums_of R d g'))
              (expands R A B Ã B̃ d d≥1 σ g meets (4 * d)) (expands R A B Ã B̃ d d≥1 σ' g' meets' (4 * d))

      pub one_g : g ≡ g'
      one_g =
          Determined.unique R (asked σ) d≥1 (λ k l m. cancels k l (omega arith)) g g' meets (subst (λ s. Meets R (asked s) g') (sym one_sum) meets')
