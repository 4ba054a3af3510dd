-- The expansion at infinity as an approximant: g² (h₁ x^(4d − 1) + .. + h_(4d)) is M x^(4d), for the M of `AtInfinity`, and a rest of degree below 2d.
-- Assumes nothing.
use Rattle.std.specs.Prelude.{◌≡◌, ℕ, suc, ◌+◌, ◌*◌, ◌-◌, ◌≤◌}
use Rattle.std.proofs.Math.Path.{refl, ap}
use Rattle.std.proofs.Common.{sym, ◌∙◌, ap₂, arith}
use Rattle.std.proofs.Math.Decide.{dec_le}
use Rattle.ring.specs.Ring.{CRing, pow}
use Rattle.series.specs.Series.{Series, Seq}
use Rattle.series.specs.Local.{conv_local}
use Rattle.series.specs.Recursion.{Before}
use Rattle.series.specs.Degree.{Below, negs_below}
use Rattle.series.specs.Indeterminate.{ind}
use Rattle.series.specs.Reversal.{rev, rev_sub, Reversed, r_degree, r_add, r_neg, r_mul}
use Rattle.isogeny.specs.Rules.{R1}
use Rattle.isogeny.specs.Expansion.{expansion, power_sums_of}
use Rattle.kernel_sum.specs.WithoutSum.{with_sum, Found}
use Rattle.kernel_sum.proofs.AtInfinity as At

module _ (R : CRing) where
  open Series R use {𝟙, add as ◌⊕◌, mul as ◌⊗◌, neg, mul-one, mul_comm}

  infixl 65 ◌⊕◌ ◌⊖◌
  infixl 70 ◌⊗◌
  infixr 75 ◌^◌
  abbrev ◌⊖◌ : Seq R → Seq R → Seq R
  a ⊖ b = a ⊕ neg b

  abbrev ◌^◌ : Seq R → ℕ → Seq R
  a ^ n = pow (Series R) a n

  abbrev x : Seq R
  x = ind R

  module _ (A B Ã B̃ : R.Car) (d : ℕ) (d≥1 : 1 ≤ d) (σ : R.Car) (g : Seq R) (r1 : R1 R (with_sum R A B Ã B̃ d σ) g)
      (h : Seq R) (same : Before R.Car (4 * d + 1) h (expansion R A B (power_sums_of R d g))) where
    abbrev G : Seq R
    G = At.G R A B Ã B̃ d d≥1 σ g r1

    abbrev hs : Seq R
    hs = At.hs R A B Ã B̃ d d≥1 σ g r1

    abbrev M : Seq R
    M = At.M R A B Ã B̃ d d≥1 σ g r1

    abbrev H : Seq R
    H = At.H R A B Ã B̃ d d≥1 σ g r1 h same

    abbrev E : Seq R
    E = At.E R A B Ã B̃ d d≥1 σ g r1 h same

    r_E : Reversed R (6 * d) E (G ^ 2 ⊗ rev R (4 * d) H ⊕ neg (hs ⊗ G ^ 2) ⊗ 𝟙)
    r_E =
        r_add R (r_degree R (omega arith) (r_mul R (At.r_g² R A B Ã B̃ d d≥1 σ g r1) (At.r_H R A B Ã B̃ d d≥1 σ g r1 h same)))
        (r_degree R (omega arith) (r_mul R (r_neg R (At.r_M R A B Ã B̃ d d≥1 σ g r1)) (At.r_x R (4 * d))))

    begins : (i : ℕ) → i ≤ 4 * d → (G ^ 2 ⊗ rev R (4 * d) H ⊕ neg (hs ⊗ G ^ 2) ⊗ 𝟙) i ≡ R.𝟘
    begins i l =
        ap₂ R.add (conv_local R i (G ^ 2) (G ^ 2) (rev R (4 * d) H) hs (λ j k. refl)
        (λ j k. At.H_at R A B Ã B̃ d d≥1 σ g r1 h same j (omega arith)))
        (ap (λ f. f i) (mul-one (neg (hs ⊗ G ^ 2))))
        ∙ ap (λ f. R.add (f i) (R.neg ((hs ⊗ G ^ 2) i))) (mul_comm (G ^ 2) hs) ∙ R.add-neg _

    E_below : Below R (2 * d) E
    E_below i l = go (dec_le i (6 * d))
      where
        go : Dec (i ≤ 6 * d) → E i ≡ R.𝟘
        go (yes k) =
            ap E (omega arith) ∙ sym (rev_sub R (6 * d) (6 * d - i) E (omega arith)) ∙ ap (λ f. f (6 * d - i)) r_E.same ∙ begins (6 * d - i) (omega arith)
        go (no k) = r_E.below i (omega arith)

    pub approximant : Found R d h E (g ^ 2)
    approximant = record {
      s = neg M;
      poly_s = (suc (2 * d), negs_below R (suc (2 * d)) M (At.r_M R A B Ã B̃ d d≥1 σ g r1).below);
      is = refl;
      r_below = E_below;
      t_below = (At.g²_monic R A B Ã B̃ d d≥1 σ g r1).below;
    }

    -- with the cofactor −M
    pub cofactor : approximant.s ≡ neg M
    unfolding approximant
    cofactor = refl
