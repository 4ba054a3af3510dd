-- Horner's rule in a numerator and a denominator: P at X / Y, cleared of denominators, from the topmost coefficients of P on.
-- Assumes nothing.
use Rattle.std.specs.Prelude.{◌≡◌, ℕ, suc, ◌+◌}
use Rattle.std.proofs.Common.{sym, ◌∙◌, ap, ap₂, arith}
use Rattle.std.proofs.Math.Path.{fun_ext}
use Rattle.std.proofs.Math.Nat as N
use Rattle.ring.specs.Ring.{CRing, pow, pow-zero, pow-suc}
use Rattle.series.specs.Series.{Series, Seq, tail, const, sums, scaled, conv, conv_scalar}
use Rattle.composition.specs.Substitution.{homogenize, homogenize_zero, homogenize_suc}

module _ (R : CRing) where
  -- the coefficients of P from j on
  abbrev pub dropped : ℕ → Seq R → Seq R
  dropped j P i = P (j + i)

  pub dropped_none : (P : Seq R) → dropped 0 P ≡ P
  dropped_none P = fun_ext λ i. ap P (N.zero-add i)

  dropped_first : (j : ℕ) (P : Seq R) → dropped j P 0 ≡ P j
  dropped_first j P = ap P (N.add-zero j)

  dropped_tail : (j : ℕ) (P : Seq R) → tail R (dropped j P) ≡ dropped (suc j) P
  dropped_tail j P = fun_ext λ i. ap P (omega arith)

  pub power_one : (Y : Seq R) → pow (Series R) Y 1 ≡ Y
  power_one Y = pow-suc (Series R) Y 0 ∙ ap (conv R Y) (pow-zero (Series R) Y) ∙ CRing.mul-one (Series R) Y

  module _ (X Y P : Seq R) where
    -- one coefficient more: the denominator takes a factor Y, the numerator a factor X and the coefficient times the denominator
    pub horner_more : (j k : ℕ) → homogenize R X Y (suc k) (dropped j P)
        ≡ sums R (scaled R (P j) (pow (Series R) Y (suc k))) (conv R X (homogenize R X Y k (dropped (suc j) P)))
    horner_more j k =
        homogenize_suc R X Y k (dropped j P)
        ∙ ap₂ (λ c T. sums R (conv R (const R c) (pow (Series R) Y (suc k))) (conv R X (homogenize R X Y k T))) (dropped_first j P) (dropped_tail j P)
        ∙ ap (λ s. sums R s (conv R X (homogenize R X Y k (dropped (suc j) P)))) (sym (conv_scalar R (P j) (pow (Series R) Y (suc k))))

    -- the two topmost coefficients
    pub horner_first : (j : ℕ) → homogenize R X Y 1 (dropped j P) ≡ sums R (scaled R (P j) Y) (conv R (const R (P (suc j))) X)
    horner_first j =
        horner_more j 0
        ∙ ap₂ (λ s t. sums R (scaled R (P j) s) t) (power_one Y)
        (ap (conv R X) (homogenize_zero R X Y (dropped (suc j) P) ∙ ap (const R) (dropped_first (suc j) P)) ∙ CRing.mul_comm (Series R) X _)
