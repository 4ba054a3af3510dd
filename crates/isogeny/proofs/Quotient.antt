-- N / g² at infinity, read off coefficients: N and N' g − 2 N g' have leading coefficient 1, and N = (x + h₁/x + h₂/x² + ..) g².
-- Assumes nothing.
use Rattle.std.specs.Prelude.{◌≡◌, ℕ, suc, ◌+◌, ◌*◌, ◌-◌, ◌≤◌, ◌<◌}
use Rattle.std.proofs.Math.Path.{sym, ap}
use Rattle.std.proofs.Common.{◌∙◌, ap₂}
use Rattle.std.proofs.Math.Decide.{dec_le}
use native.Mathlib.Omega.{arith}
use Rattle.ring.specs.Ring
use Rattle.ring.specs.Ring.{CRing, pow}
use Rattle.series.specs.Series as S
use Rattle.series.specs.Series.{Series, Seq, conv, sum, sum_same}
use Rattle.series.specs.Degree.{Monic}
use Rattle.series.specs.ConstantTerm.{pow_first}
use Rattle.series.specs.Indeterminate.{ind}
use Rattle.series.specs.Reversal.{rev_first, rev_sub, Reversed, r_degree, r_mul, r_pow, r_ind}
use Rattle.isogeny.specs.Rules.{Question, R1, ℓ, N, W}
use Rattle.isogeny.specs.Expansion.{sum_to, expansion, PowerSums, power_sums_of}
use Rattle.isogeny.proofs.Infinity as I
use Rattle.isogeny.proofs.Infinity.{quot, reversed}
use Rattle.isogeny.proofs.Recurrence.{v_first}
use Rattle.isogeny.proofs.Sums.{G_first, sums_only, h_is}
use Rattle.isogeny.proofs.Terms.{expansion_same}
use Rattle.isogeny.proofs.Conditions.{u_first, u_second}
use Rattle.isogeny.proofs.Second.{r_W}

module _ (R : CRing) (q : Question R) (d≥1 : 1 ≤ q.d) (g : Seq R) (r1 : R1 R q g) where
  open q use {A, B, d}
  open R use {Car, 𝟘, 𝟙, add as ◌⊕◌, mul as ◌⊗◌, mul-one}

  infixl 65 ◌⊕◌
  infixl 70 ◌⊗◌
  abbrev G : Seq R
  G = reversed R q g

  abbrev u : Seq R
  u = quot R q (I.power_sums_of R q g)

  -- g², and its reversal
  abbrev g² : Seq R
  g² = pow (Series R) g 2

  abbrev G² : Seq R
  G² = pow (Series R) G 2

  abbrev 1ₛ : Seq R
  1ₛ = (Series R).𝟙

  pub N_monic : Monic R (ℓ R q) (N R q g)
  N_monic = record {
    below = I.N_below R q g r1;
    one =
        sym (rev_first R (ℓ R q) (N R q g)) ∙ ap (λ a. a 0) (I.r_N R q g r1).same ∙ S.conv_zero R u G²
        ∙ ap₂ ◌⊗◌ (u_first R q d≥1 g r1) (pow_first R G (I.G_first R q g r1) 2) ∙ mul-one 𝟙;
  }

  pub W_monic : Monic R (3 * d) (W R q g (N R q g))
  W_monic = record {
    below = (r_W R q g r1).below;
    one =
        sym (rev_first R (3 * d) (W R q g (N R q g))) ∙ ap (λ a. a 0) (r_W R q g r1).same ∙ S.conv_zero R _ _
        ∙ ap₂ ◌⊗◌ (v_first R q u (u_first R q d≥1 g r1)) (pow_first R G (I.G_first R q g r1) 3) ∙ mul-one 𝟙;
  }

  -- ── the expansion

  r_g² : Reversed R (2 * d) g² G²
  r_g² = r_pow R (I.r_g R q g r1) 2

  r_xg² : Reversed R (ℓ R q) (conv R (ind R) g²) (conv R 1ₛ G²)
  r_xg² = r_degree R (omega arith) (r_mul R (r_ind R) r_g²)

  -- u G² at k, where u = 1 + h₁ t² + h₂ t³ + ..
  product : (k : ℕ) → conv R u G² (suc k) ≡ G² (suc k) ⊕ sum R (λ j. u (suc (suc j)) ⊗ G² (suc k - suc (suc j))) k
  product k =
      S.conv_sum R u G² (suc k) ∙ S.sum_first R (λ j. u j ⊗ G² (suc k - j)) (suc k)
      ∙ ap₂ (λ y z. y ⊗ G² (suc k - 0) ⊕ z) (u_first R q d≥1 g r1)
      (S.sum_first R (λ j. u (suc j) ⊗ G² (suc k - suc j)) k ∙ ap (λ y. y ⊗ G² (suc k - 1) ⊕ rest) (u_second R q d≥1 g r1))
      ∙ ap (λ m. 𝟙 ⊗ G² m ⊕ (𝟘 ⊗ G² (suc k - 1) ⊕ rest)) (omega arith)
      ∙ three (G² (suc k)) (G² (suc k - 1)) rest
    where
      rest : Car
      rest = sum R (λ j. u (suc (suc j)) ⊗ G² (suc k - suc (suc j))) k

      three : (x y z : Car) → 𝟙 ⊗ x ⊕ (𝟘 ⊗ y ⊕ z) ≡ x ⊕ z
      three x y z = ap₂ ◌⊕◌ (Ring.one-mul R x) (ap (λ t. t ⊕ z) (Ring.zero-mul R y) ∙ Ring.zero-add R z)

  module _ (s : Seq R) (sums : PowerSums R d g (ℓ R q) s) where
    abbrev h : Seq R
    h = expansion R A B s

    h_at : (j : ℕ) → suc j < ℓ R q → u (suc (suc j)) ≡ h (suc j)
    h_at j l =
        sym (h_is R q d≥1 g r1 (suc j))
        ∙ sym (expansion_same R A B (ℓ R q) s (power_sums_of R d g) (sums_only R d g (G_first R q d≥1 g r1) (ℓ R q) s sums) (suc j) l)

    terms : (m : ℕ) → sum R (λ j. u (suc (suc j)) ⊗ G² (suc (2 * d - m) - suc (suc j))) (2 * d - m) ≡ sum_to R (λ i. h i ⊗ g² (m + i)) (2 * d - m)
    terms m =
        sum_same R _ (λ j. h (suc j) ⊗ g² (m + suc j)) (2 * d - m)
        (λ j l. ap₂ ◌⊗◌ (h_at j (omega arith))
        (ap (λ f. f (suc (2 * d - m) - suc (suc j))) (sym r_g².same) ∙ rev_sub R (2 * d) (suc (2 * d - m) - suc (suc j)) g² (omega arith) ∙ ap g²
        (omega arith)))

    -- the coefficient of x^m, for m up to 2 d, from ℓ - m = 2 d - m + 1 of the reversals
    inside : (m : ℕ) → m ≤ 2 * d → N R q g m ≡ conv R (ind R) g² m ⊕ sum_to R (λ i. h i ⊗ g² (m + i)) (2 * d - m)
    inside m l =
        ap (N R q g) (omega arith) ∙ sym (rev_sub R (ℓ R q) (suc (2 * d - m)) (N R q g) (omega arith))
        ∙ ap (λ a. a (suc (2 * d - m))) (I.r_N R q g r1).same ∙ product (2 * d - m)
        ∙ ap₂ ◌⊕◌ first (terms m)
      where
        first : G² (suc (2 * d - m)) ≡ conv R (ind R) g² m
        first =
            ap (λ a. a (suc (2 * d - m))) (sym (r_xg².same ∙ Ring.one-mul (Series R) G²))
            ∙ rev_sub R (ℓ R q) (suc (2 * d - m)) (conv R (ind R) g²) (omega arith) ∙ ap (conv R (ind R) g²) (omega arith)

    -- from x^ℓ on no term of the sum is left
    outside : (m : ℕ) → 2 * d < m → N R q g m ≡ conv R (ind R) g² m
    outside m l = go (dec_le m (ℓ R q))
      where
        go : Dec (m ≤ ℓ R q) → N R q g m ≡ conv R (ind R) g² m
        go (yes k) =
            ap (N R q g) (omega arith) ∙ N_monic.one
            ∙ sym (ap (conv R (ind R) g²) (omega arith) ∙ sym (rev_first R (ℓ R q) (conv R (ind R) g²))
            ∙ ap (λ a. a 0) (r_xg².same ∙ Ring.one-mul (Series R) G²) ∙ pow_first R G (I.G_first R q g r1) 2)
        go (no k) = N_monic.below m (omega arith) ∙ sym (r_xg².below m (omega arith))

    pub expanded : (m : ℕ) → N R q g m ≡ conv R (ind R) g² m ⊕ sum_to R (λ i. h i ⊗ g² (m + i)) (2 * d - m)
    unfolding sum
    expanded m = go (dec_le m (2 * d))
      where
        go : Dec (m ≤ 2 * d) → N R q g m ≡ conv R (ind R) g² m ⊕ sum_to R (λ i. h i ⊗ g² (m + i)) (2 * d - m)
        go (yes l) = inside m l
        go (no l) =
            let z : 0 ≡ 2 * d - m = omega arith in
            outside m (omega arith) ∙ sym (R.add-zero _) ∙ ap (λ k. conv R (ind R) g² m ⊕ sum_to R (λ i. h i ⊗ g² (m + i)) k) z
