-- Degrees: where g has degree at most d and n at most ℓ, N' g − 2 N g' (with n for N) has degree at most 3 d, and R3 is an equation of 3 ℓ + 1
-- coefficients.
-- Assumes nothing.
use Rattle.std.specs.Prelude.{◌≡◌, refl, ℕ, suc, ◌*◌, ◌≤◌}
use Rattle.std.proofs.Common.{sym, ◌∙◌, arith}
use Rattle.std.proofs.Math.Path.{ap₂}
use Rattle.std.proofs.Math.Decide.{dec_le}
use Rattle.ring.specs.Ring.{CRing, cast, pow}
use Rattle.ring.specs.Identity.{solve3, solve5}
use Rattle.ring.specs.Identity.Ex.{num, :1, ◌:+◌, ◌:-◌, ◌:*◌, ◌:^◌}
use Rattle.series.specs.Series.{Series, Seq, const, D, ∂}
use Rattle.series.specs.Degree.{Below}
use Rattle.series.specs.Indeterminate.{ind, D_is}
use Rattle.series.specs.Reversal.{rev, Reversed, r_degree, r_left, r_right, r_add, r_neg, r_mul, r_pow, r_up, r_const, r_cast, r_ind, r_down, r_D}
use Rattle.isogeny.specs.Rules.{Question, R3, ℓ, f, W, left, right}

module _ (R : CRing) (q : Question R) where
  open q use {A, B, Ã, B̃, d}
  open Series R use {𝟙, add as ◌⊕◌, mul as ◌⊗◌, neg}

  infixl 65 ◌⊕◌ ◌⊖◌
  infixl 70 ◌⊗◌
  infixr 75 ◌^◌
  infix 80 #◌
  abbrev ◌⊖◌ : Seq R → Seq R → Seq R
  a ⊖ b = a ⊕ neg b

  abbrev ◌^◌ : Seq R → ℕ → Seq R
  a ^ n = pow (Series R) a n

  abbrev #◌ : ℕ → Seq R
  # n = cast (Series R) n

  abbrev κ : R.Car → Seq R
  κ c = const R c

  abbrev x : Seq R
  x = ind R

  -- f reversed
  unfoldable pub F : Seq R
  F = 𝟙 ⊕ κ A ⊗ x ^ 2 ⊕ κ B ⊗ x ^ 3

  pub r_f : Reversed R 3 (f R q) F
  unfolding f F
  r_f =
      r_right R
      (solve3 (Series R) (λ t a b. :1 :^ 3 :+ t :* (t :* (a :* :1)) :+ t :* (t :* (t :* b))) (λ t a b. :1 :+ a :* t :^ 2 :+ b :* t :^ 3) tt x (κ A) (κ B))
      (r_add R (r_add R (r_pow R (r_ind R) 3) (r_up R (r_up R (r_mul R (r_const R A) (r_ind R))))) (r_up R (r_up R (r_up R (r_const R B)))))

  module _ (g n : Seq R) where
    pub xW : x ⊗ W R q g n ≡ D R n ⊗ g ⊖ # 2 ⊗ n ⊗ D R g
    unfolding W
    xW =
        solve5 (Series R) (λ x n n' g g'. x :* (n' :* g :- num 2 :* n :* g')) (λ x n n' g g'. x :* n' :* g :- num 2 :* n :* (x :* g')) tt
        x n (∂ R n) g (∂ R g)
        ∙ ap₂ (λ y z. y ⊗ g ⊖ # 2 ⊗ n ⊗ z) (D_is R n) (D_is R g)

    module _ (g_below : Below R (suc d) g) (n_below : Below R (suc (ℓ R q)) n) where
      r_g : Reversed R d g (rev R d g)
      r_g = record { below = g_below; same = refl }

      r_n : Reversed R (ℓ R q) n (rev R (ℓ R q) n)
      r_n = record { below = n_below; same = refl }

      -- what stands on the right does not matter here
      abbrev w : Seq R
      w =
          (# (ℓ R q) ⊗ rev R (ℓ R q) n ⊖ D R (rev R (ℓ R q) n)) ⊗ rev R d g
          ⊖ # 2 ⊗ rev R (ℓ R q) n ⊗ (# d ⊗ rev R d g ⊖ D R (rev R d g))

      r_W : Reversed R (3 * d) (W R q g n) w
      r_W =
          r_down R (r_degree R (omega arith) (r_left R (sym xW)
          (r_add R (r_mul R (r_D R r_n) r_g) (r_neg R (r_degree R (omega arith) (r_mul R (r_mul R (r_cast R 2) r_n) (r_D R r_g)))))))

      pub W_below : Below R (suc (3 * d)) (W R q g n)
      W_below = r_W.below

      pub left_below : Below R (suc (3 * ℓ R q)) (left R q g n)
      unfolding left
      left_below = (r_degree R {n = 3 * ℓ R q} (omega arith) (r_mul R r_f (r_pow R r_W 2))).below

      pub right_below : Below R (suc (3 * ℓ R q)) (right R q g n)
      unfolding right
      right_below =
          (r_add R
          (r_add R (r_pow R r_n 3) (r_degree R (omega arith) (r_up R (r_up R (r_mul R (r_mul R (r_const R Ã) r_n) (r_pow R r_g 4))))))
          (r_degree R (omega arith) (r_up R (r_up R (r_up R (r_mul R (r_const R B̃) (r_pow R r_g 6))))))).below

      pub R3_bounded : ((i : ℕ) → i ≤ 3 * ℓ R q → left R q g n i ≡ right R q g n i) → R3 R q g n
      R3_bounded h i = go (dec_le i (3 * ℓ R q))
        where
          go : Dec (i ≤ 3 * ℓ R q) → left R q g n i ≡ right R q g n i
          go (yes l) = h i l
          go (no l) = left_below i (omega arith) ∙ sym (right_below i (omega arith))
