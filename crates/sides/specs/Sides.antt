-- The two sides of R3 from products that are each formed once: with G = g², N³ + ÃNg⁴ + B̃g⁶ = B̃G²G + N(N² + ÃG²), and f(N'g − 2Ng')².
-- Where g has degree at most d, and N at most ℓ, both sides have at most 3ℓ + 1 coefficients.
-- Assumes nothing.
use Rattle.std.specs.Prelude.{◌≡◌, ℕ, suc, ◌+◌, ◌*◌, ◌<◌}
use Rattle.std.proofs.Common.{sym, ◌∙◌, arith}
use Rattle.std.proofs.Math.Path.{ap₂, subst}
use Rattle.std.proofs.Math.Decide.{dec_lt}
use Rattle.ring.specs.Ring.{CRing, cast}
use Rattle.ring.specs.Identity.{solve2, solve4}
use Rattle.ring.specs.Identity.Ex.{num, ◌:+◌, ◌:-◌, ◌:*◌, :-◌, ◌:^◌}
use Rattle.series.specs.Series.{Series, Seq, scaled, const, ∂, conv_scalar}
use Rattle.series.specs.Degree.{Below, below_mono, sums_below, scaled_below}
use Rattle.series.specs.Reversal.{r_neg, r_cast}
use Rattle.isogeny.specs.Rules.{Question, f, W, left, right, R3}
use Rattle.rules.specs.Degrees.{below_∂, below_conv}
use Rattle.rules.specs.Numerator.{f_below}

module _ (R : CRing) where
  open Series R use {add as ◌⊕◌, mul as ◌⊗◌, neg}

  infixl 65 ◌⊕◌
  infixl 70 ◌⊗◌
  -- N² + ÃH, and B̃HG + N(N² + ÃH), where H is to be G²
  unfoldable pub factor : R.Car → Seq R → Seq R → Seq R
  factor ã n h = n ⊗ n ⊕ scaled R ã h

  unfoldable pub terms : R.Car → R.Car → Seq R → Seq R → Seq R → Seq R
  terms ã b̃ n g h = scaled R b̃ (h ⊗ g) ⊕ n ⊗ factor ã n h

  -- N'g − 2Ng', from the polynomials and their derivatives
  unfoldable pub crossed : Seq R → Seq R → Seq R → Seq R → Seq R
  crossed g n g' n' = neg (cast (Series R) 2) ⊗ (n ⊗ g') ⊕ n' ⊗ g

module _ (R : CRing) (q : Question R) where
  open q use {Ã, B̃, d}
  open Series R use {add as ◌⊕◌, mul as ◌⊗◌, neg}

  infixl 65 ◌⊕◌
  infixl 70 ◌⊗◌
  pub right_is : (g n : Seq R) → terms R Ã B̃ n (g ⊗ g) (g ⊗ g ⊗ (g ⊗ g)) ≡ right R q g n
  unfolding terms factor right
  right_is g n =
      ap₂ (λ s t. s ⊕ n ⊗ (n ⊗ n ⊕ t)) (conv_scalar R B̃ (g ⊗ g ⊗ (g ⊗ g) ⊗ (g ⊗ g))) (conv_scalar R Ã (g ⊗ g ⊗ (g ⊗ g)))
      ∙ solve4 (Series R)
      (λ g n a b. b :* (g :* g :* (g :* g) :* (g :* g)) :+ n :* (n :* n :+ a :* (g :* g :* (g :* g))))
      (λ g n a b. n :^ 3 :+ a :* n :* g :^ 4 :+ b :* g :^ 6) tt g n (const R Ã) (const R B̃)

  pub W_is : (g n : Seq R) → crossed R g n (∂ R g) (∂ R n) ≡ W R q g n
  unfolding crossed W
  W_is g n =
      solve4 (Series R) (λ g g' n n'. :- num 2 :* (n :* g') :+ n' :* g) (λ g g' n n'. n' :* g :- num 2 :* n :* g') tt g (∂ R g) n (∂ R n)

  pub left_is : (g n : Seq R) → f R q ⊗ (W R q g n ⊗ W R q g n) ≡ left R q g n
  unfolding left
  left_is g n = solve2 (Series R) (λ f w. f :* (w :* w)) (λ f w. f :* w :^ 2) tt (f R q) (W R q g n)

  -- ── degrees

  module _ (g n : Seq R) (g_below : Below R (suc d) g) (n_below : Below R (2 * d + 2) n) where
    pub W_below : Below R (3 * d + 1) (W R q g n)
    unfolding crossed
    W_below =
        subst (Below R (3 * d + 1)) (W_is g n)
        (sums_below R _ _ _
        (below_conv R 1 (3 * d + 1) (neg (cast (Series R) 2)) _ (omega arith) (r_neg R (r_cast R 2)).below
        (below_conv R (2 * d + 2) d n (∂ R g) (omega arith) n_below (below_∂ R g (omega arith) g_below)))
        (below_conv R (2 * d + 1) (suc d) (∂ R n) g (omega arith) (below_∂ R n (omega arith) n_below) g_below))

    pub left_below : Below R (6 * d + 4) (left R q g n)
    left_below = subst (Below R (6 * d + 4)) (left_is g n)
        (below_conv R 4 (6 * d + 1) (f R q) _ (omega arith) (f_below R q)
        (below_conv R (3 * d + 1) (3 * d + 1) (W R q g n) (W R q g n) (omega arith) W_below W_below))

    square_below : Below R (2 * d + 1) (g ⊗ g)
    square_below = below_conv R (suc d) (suc d) g g (omega arith) g_below g_below

    fourth_below : Below R (4 * d + 1) (g ⊗ g ⊗ (g ⊗ g))
    fourth_below = below_conv R (2 * d + 1) (2 * d + 1) (g ⊗ g) (g ⊗ g) (omega arith) square_below square_below

    pub right_below : Below R (6 * d + 4) (right R q g n)
    unfolding terms factor
    right_below =
        subst (Below R (6 * d + 4)) (right_is g n)
        (sums_below R _ _ _
        (scaled_below R _ B̃ _
        (below_conv R (4 * d + 1) (2 * d + 1) {k = 6 * d + 4} (g ⊗ g ⊗ (g ⊗ g)) (g ⊗ g) (omega arith) fourth_below square_below))
        (below_conv R (2 * d + 2) (4 * d + 3) n _ (omega arith) n_below
        (sums_below R _ _ _ (below_conv R (2 * d + 2) (2 * d + 2) n n (omega arith) n_below n_below)
        (scaled_below R _ Ã _ (below_mono R _ _ (g ⊗ g ⊗ (g ⊗ g)) (omega arith) fourth_below)))))

    -- both sides of R3 have 3ℓ + 1 coefficients at most
    pub R3_bounded : ((i : ℕ) → i < 6 * d + 4 → left R q g n i ≡ right R q g n i) → R3 R q g n
    R3_bounded h i = go (dec_lt i (6 * d + 4))
      where
        go : Dec (i < 6 * d + 4) → left R q g n i ≡ right R q g n i
        go (yes l) = h i l
        go (no l) = left_below i (omega arith) ∙ sym (right_below i (omega arith))
