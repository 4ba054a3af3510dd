-- Linear combinations of sequences, and how a polynomial's upper terms are folded back: where T₀, T₁, .. are xᵈ, xᵈ⁺¹, .. modulo g, they take the place of
-- these.
-- Assumes nothing.
use Rattle.std.specs.Prelude.{◌≡◌, ◌≢◌}
use Rattle.std.proofs.Math.Path.{refl, fun_ext}
use Rattle.std.proofs.Common.{sym, ◌∙◌, ap, ap₂, subst, arith}
use Prim.Native.Nat.{ℕ, zero, suc, ◌+◌, ◌-◌, ◌<◌}
use Rattle.std.proofs.Math.Decide.{ℕ_discrete, dec_lt}
use Rattle.std.proofs.Math.Nat as N
use Rattle.ring.specs.Ring
use Rattle.ring.specs.Ring.{CRing, pow}
use Rattle.series.specs.Series.{Series, Seq, sums, scaled, zeros}
use Rattle.series.specs.Degree.{Below}
use Rattle.series.specs.Indeterminate.{ind}
use Rattle.series.specs.Binomial.{ind_monic, ind_power, monic_power}
use Rattle.divisibility.specs.Congruence.{Congruent, congruent_refl, congruent_add, congruent_scaled}

module _ (R : CRing) where
  open R use {Car, 𝟘, add as ◌⊕◌, mul as ◌⊗◌}

  infixl 65 ◌⊕◌
  infixl 70 ◌⊗◌
  -- q₀ T₀ + q₁ T₁ + .., n terms
  unfoldable pub combination : ℕ → Seq R → (ℕ → Seq R) → Seq R
  combination zero q T = zeros R
  combination (suc n) q T = sums R (combination n q T) (scaled R (q n) (T n))

  pub combination_zero : (q : Seq R) (T : ℕ → Seq R) (k : ℕ) → combination 0 q T k ≡ 𝟘
  unfolding combination
  combination_zero q T k = refl

  pub combination_suc : (n : ℕ) (q : Seq R) (T : ℕ → Seq R) (k : ℕ) → combination (suc n) q T k ≡ combination n q T k ⊕ q n ⊗ T n k
  unfolding combination
  combination_suc n q T k = refl

  -- past the end of q nothing is added
  pub combination_past : (n j : ℕ) (q : Seq R) (T : ℕ → Seq R) → Below R n q → (k : ℕ) → combination (j + n) q T k ≡ combination n q T k
  combination_past n zero q T past k = ap (λ m. combination m q T k) (N.zero-add n)
  combination_past n (suc j) q T past k =
      ap (λ m. combination m q T k) (N.suc-add j n) ∙ combination_suc (j + n) q T k
      ∙ ap₂ ◌⊕◌ (combination_past n j q T past k) (ap (λ x. x ⊗ T (j + n) k) (past (j + n) (omega arith)) ∙ Ring.zero-mul R _)
      ∙ CRing.add-zero R _

  -- what lies below m in each term lies below m in the whole
  pub combination_below : (m n : ℕ) (q : Seq R) (T : ℕ → Seq R) → ((i : ℕ) → Below R m (T i)) → Below R m (combination n q T)
  combination_below m zero q T below k l = combination_zero q T k
  combination_below m (suc n) q T below k l =
      combination_suc n q T k
      ∙ ap₂ ◌⊕◌ (combination_below m n q T below k l) (ap (◌⊗◌ (q n)) (below n k l) ∙ Ring.mul-zero R (q n)) ∙ CRing.add-zero R 𝟘

  combination_congruent : (g : Seq R) (n : ℕ) (q : Seq R) (S T : ℕ → Seq R) → ((i : ℕ) → i < n → Congruent R g (S i) (T i))
      → Congruent R g (combination n q S) (combination n q T)
  unfolding combination
  combination_congruent g zero q S T h = congruent_refl R g (zeros R)
  combination_congruent g (suc n) q S T h =
      congruent_add R g (combination n q S) (combination n q T) (scaled R (q n) (S n)) (scaled R (q n) (T n))
      (combination_congruent g n q S T (λ i l. h i (omega arith))) (congruent_scaled R g (S n) (T n) (q n) (h n (omega arith)))

  -- ── combinations of powers

  abbrev powers : ℕ → ℕ → Seq R
  powers d i = pow (Series R) (ind R) (d + i)

  powers_none : (d n : ℕ) (q : Seq R) (k : ℕ) → ((i : ℕ) → i < n → d + i ≢ k) → combination n q (powers d) k ≡ 𝟘
  powers_none d zero q k apart = combination_zero q (powers d) k
  powers_none d (suc n) q k apart =
      combination_suc n q (powers d) k
      ∙ ap₂ ◌⊕◌ (powers_none d n q k (λ i l. apart i (omega arith)))
      (ap (◌⊗◌ (q n)) (ind_power R (d + n) k (apart n (omega arith))) ∙ Ring.mul-zero R (q n))
      ∙ CRing.add-zero R 𝟘

  powers_here : (d n : ℕ) (q : Seq R) (i : ℕ) → i < n → combination n q (powers d) (d + i) ≡ q i
  powers_here d zero q i l = absurd (omega arith)
  powers_here d (suc n) q i l = combination_suc n q (powers d) (d + i) ∙ go (ℕ_discrete i n) (powers_here d n q i)
    where
      go : Dec (i ≡ n) → (i < n → combination n q (powers d) (d + i) ≡ q i) → combination n q (powers d) (d + i) ⊕ q n ⊗ powers d n (d + i) ≡ q i
      go (yes e) before =
          ap₂ ◌⊕◌ (powers_none d n q (d + i) (λ j m same. absurd (omega arith)))
          (ap (λ j. q n ⊗ powers d n (d + j)) e ∙ ap (◌⊗◌ (q n)) (monic_power R (ind R) (ind_monic R) (d + n)).one ∙ CRing.mul-one R (q n))
          ∙ Ring.zero-add R (q n) ∙ ap q (sym e)
      go (no e) before =
          ap₂ ◌⊕◌ (before (omega arith))
          (ap (◌⊗◌ (q n)) (ind_power R (d + n) (d + i) (λ same. e (omega arith))) ∙ Ring.mul-zero R (q n))
          ∙ CRing.add-zero R (q i)

  -- ── a polynomial f of d + n coefficients: low are the first d, q the others
  module _ (d n : ℕ) (f low q : Seq R) (short : Below R (d + n) f) (short_low : Below R d low) (lower : (k : ℕ) → k < d → low k ≡ f k)
      (upper : (i : ℕ) → i < n → q i ≡ f (d + i)) where
    split : sums R low (combination n q (powers d)) ≡ f
    split = fun_ext λ k. go k (dec_lt k d) (dec_lt k (d + n))
      where
        go : (k : ℕ) → Dec (k < d) → Dec (k < d + n) → low k ⊕ combination n q (powers d) k ≡ f k
        go k (yes l) _ =
            ap₂ ◌⊕◌ (lower k l) (powers_none d n q k (λ i m same. absurd (omega arith))) ∙ CRing.add-zero R (f k)
        go k (no l) (yes m) =
            let e : d + (k - d) ≡ k = omega arith in
            ap₂ ◌⊕◌ (short_low k (omega arith)) (ap (combination n q (powers d)) (sym e) ∙ powers_here d n q (k - d) (omega arith)
            ∙ upper (k - d) (omega arith) ∙ ap f e)
            ∙ Ring.zero-add R (f k)
        go k (no l) (no m) =
            ap₂ ◌⊕◌ (short_low k (omega arith)) (powers_none d n q k (λ i h same. absurd (omega arith))) ∙ CRing.add-zero R 𝟘
            ∙ sym (short k (omega arith))

    -- with rows that are the powers of x from xᵈ on, modulo g, the sum is f modulo g
    pub folded_back : (g : Seq R) (T : ℕ → Seq R) → ((i : ℕ) → i < n → Congruent R g (T i) (pow (Series R) (ind R) (d + i)))
        → Congruent R g (sums R low (combination n q T)) f
    folded_back g T rows =
        subst (Congruent R g (sums R low (combination n q T))) split
        (congruent_add R g low low (combination n q T) (combination n q (powers d)) (congruent_refl R g low)
        (combination_congruent g n q T (powers d) rows))
