-- N/g² − x = h₁/x + h₂/x² + .., for a g with R1, as a congruence: with M = N − x g², g² (h₁ x^(4d − 1) + .. + h_(4d)) is M x^(4d) and a rest of degree
-- below 2d.
-- Assumes nothing.
use Rattle.std.specs.Prelude.{◌≡◌, ℕ, zero, suc, ◌+◌, ◌*◌, ◌-◌, ◌≤◌}
use Rattle.std.proofs.Math.Path.{refl, ap, fun_ext}
use Rattle.std.proofs.Common.{sym, ◌∙◌, arith}
use Rattle.ring.specs.Ring
use Rattle.ring.specs.Ring.{CRing, pow, pow-zero, pow-suc}
use Rattle.ring.specs.Identity.{solve3}
use Rattle.ring.specs.Identity.Ex.{:1, ◌:+◌, ◌:-◌, ◌:*◌}
use Rattle.series.specs.Series.{Series, Seq, tail, head_then}
use Rattle.series.specs.Recursion.{Before}
use Rattle.series.specs.Degree.{Monic, below_drop}
use Rattle.series.specs.ConstantTerm.{pow_first}
use Rattle.series.specs.Indeterminate.{ind, conv_ind}
use Rattle.series.specs.Reversal.{rev, rev_first, rev_sub, rev_past, Reversed, r_degree, r_left, r_right, r_add, r_neg, r_mul, r_pow, r_const, r_ind}
use Rattle.isogeny.specs.Rules.{R1, N}
use Rattle.isogeny.specs.Expansion.{expansion, power_sums_of}
use Rattle.isogeny.proofs.Infinity as I
use Rattle.isogeny.proofs.Infinity.{quot, reversed}
use Rattle.isogeny.proofs.Conditions.{u_first}
use Rattle.isogeny.proofs.Sums.{h_series}
use Rattle.kernel_sum.specs.WithoutSum.{with_sum}

module _ (R : CRing) where
  open Series R use {𝟙, add as ◌⊕◌, mul as ◌⊗◌, neg, mul-one, mul_comm}

  infixl 65 ◌⊕◌ ◌⊖◌
  infixl 70 ◌⊗◌
  infixr 75 ◌^◌
  abbrev ◌⊖◌ : Seq R → Seq R → Seq R
  a ⊖ b = a ⊕ neg b

  abbrev ◌^◌ : Seq R → ℕ → Seq R
  a ^ n = pow (Series R) a n

  abbrev x : Seq R
  x = ind R

  -- xᵏ reversed is 1
  pub r_x : (k : ℕ) → Reversed R k (x ^ k) 𝟙
  r_x zero = r_left R (sym (pow-zero (Series R) x)) (r_const R R.𝟙)
  r_x (suc k) = r_left R (sym (pow-suc (Series R) x k)) (r_right R (mul-one 𝟙) (r_degree R (omega arith) (r_mul R (r_ind R) (r_x k))))

  -- a polynomial whose reversal begins with 0 has a smaller degree
  r_drop : {n : ℕ} {P Q : Seq R} → Reversed R (suc n) P (x ⊗ Q) → Reversed R n P Q
  unfolding rev
  r_drop {n} {P} {Q} h = record {
    below = below_drop R (suc n) P h.below (ap (λ f. f 0) (h.same ∙ conv_ind R Q));
    same = fun_ext λ i. ap (λ f. f (suc i)) (h.same ∙ conv_ind R Q);
  }

  module _ (A B Ã B̃ : R.Car) (d : ℕ) (d≥1 : 1 ≤ d) (σ : R.Car) (g : Seq R) (r1 : R1 R (with_sum R A B Ã B̃ d σ) g) where
    abbrev n : Seq R
    n = N R (with_sum R A B Ã B̃ d σ) g

    abbrev pub G : Seq R
    G = reversed R (with_sum R A B Ã B̃ d σ) g

    abbrev u : Seq R
    u = quot R (with_sum R A B Ã B̃ d σ) (I.power_sums_of R (with_sum R A B Ã B̃ d σ) g)

    -- 0, h₁, h₂, ..
    abbrev pub hs : Seq R
    hs = tail R u

    abbrev pub M : Seq R
    M = n ⊖ x ⊗ g ^ 2

    pub r_g² : Reversed R (2 * d) (g ^ 2) (G ^ 2)
    r_g² = r_pow R (I.r_g R (with_sum R A B Ã B̃ d σ) g r1) 2

    pub g²_monic : Monic R (2 * d) (g ^ 2)
    g²_monic = record {
      below = r_g².below;
      one = sym (rev_first R (2 * d) (g ^ 2)) ∙ ap (λ f. f 0) r_g².same ∙ pow_first R G (I.G_first R (with_sum R A B Ã B̃ d σ) g r1) 2;
    }

    u_is : u ≡ 𝟙 ⊕ x ⊗ hs
    u_is = fun_ext go ∙ ap (λ y. 𝟙 ⊕ y) (sym (conv_ind R hs))
      where
        go : (i : ℕ) → u i ≡ R.add (𝟙 i) (head_then R R.𝟘 hs i)
        go zero = u_first R (with_sum R A B Ã B̃ d σ) d≥1 g r1 ∙ sym (R.add-zero _)
        go (suc i) = sym (Ring.zero-add R _)

    pub r_M : Reversed R (2 * d) M (hs ⊗ G ^ 2)
    r_M =
        r_drop
        (r_degree R (omega arith)
        (r_right R
        (ap (λ y. y ⊗ G ^ 2 ⊖ 𝟙 ⊗ G ^ 2) u_is ∙ solve3 (Series R) (λ x h g. (:1 :+ x :* h) :* g :- :1 :* g) (λ x h g. x :* (h :* g)) tt x hs (G ^ 2))
        (r_add R (I.r_N R (with_sum R A B Ã B̃ d σ) g r1) (r_neg R (r_degree R (omega arith) (r_mul R (r_ind R) r_g²))))))

    module _ (h : Seq R) (same : Before R.Car (4 * d + 1) h (expansion R A B (power_sums_of R d g))) where
      -- h₁ x^(4d − 1) + .. + h_(4d), and the rest
      abbrev pub H : Seq R
      H = rev R (4 * d) h

      abbrev pub E : Seq R
      E = g ^ 2 ⊗ H ⊕ neg M ⊗ x ^ (4 * d)

      pub r_H : Reversed R (4 * d) H (rev R (4 * d) H)
      r_H = record { below = λ i l. rev_past R (4 * d) i h l; same = refl }

      pub H_at : (i : ℕ) → i ≤ 4 * d → rev R (4 * d) H i ≡ hs i
      H_at i l =
          rev_sub R (4 * d) i H l ∙ rev_sub R (4 * d) (4 * d - i) h (omega arith) ∙ ap h (omega arith) ∙ same i (omega arith)
          ∙ ap (λ f. f i) (h_series R (with_sum R A B Ã B̃ d σ) d≥1 g r1)
