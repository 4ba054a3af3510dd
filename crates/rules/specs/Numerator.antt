-- The parts of N, from g², −2gg' and −4(gg'' − g'²): as polynomials, by their coefficients, and how long they are. Two squares give these three: with
-- s = −(g²)', which is −2gg', the last one is 2s' + 8g'².
-- Assumes nothing.
use Rattle.std.specs.Prelude.{◌≡◌}
use Rattle.std.proofs.Math.Path.{refl, ap, ap₂, fun_ext}
use Rattle.std.proofs.Common.{sym, ◌∙◌, subst, arith}
use Prim.Native.Nat.{ℕ, zero, suc, ◌+◌, ◌*◌, ◌-◌, ◌≤◌, ◌<◌}
use Rattle.ring.specs.Ring
use Rattle.ring.specs.Ring.{CRing, cast, pow, pow-zero, pow-suc}
use Rattle.ring.specs.Derivation.{d_neg}
use Rattle.ring.specs.Identity.{solve2, solve3, solve4}
use Rattle.ring.specs.Identity.Ex.{num, ◌:+◌, ◌:-◌, ◌:*◌, :-◌, ◌:^◌}
use Rattle.series.specs.Series.{
  Series,
  Seq,
  conv,
  sums,
  negs,
  scaled,
  const,
  head_then,
  ∂,
  ∂-leibniz,
  ∂-leibniz_twice,
  Formal,
  conv_const,
  conv_scalar,
}
use Rattle.series.specs.Degree.{Below, sums_below, negs_below, scaled_below}
use Rattle.series.specs.Indeterminate.{ind, cast_series, conv_cast, conv_ind}
use Rattle.series.specs.Reversal.{r_add, r_neg, r_mul, r_pow, r_up, r_const, r_cast, r_ind}
use Rattle.isogeny.specs.Rules.{Question, ℓ, f, N, linear_part_of, first_logarithmic_part_of, second_logarithmic_part_of, N_parts}
use Rattle.isogeny.specs.Source.{line, quadratic}
use Rattle.rules.specs.Degrees.{below_∂, below_conv}

module _ (R : CRing) where
  open Series R use {add as ◌⊕◌, mul as ◌⊗◌, neg}

  infixl 65 ◌⊕◌
  infixl 70 ◌⊗◌
  -- ── constants

  pub const_neg : (c : R.Car) → const R (R.neg c) ≡ neg (const R c)
  const_neg c = fun_ext go
    where
      go : (i : ℕ) → const R (R.neg c) i ≡ R.neg (const R c i)
      go zero = refl
      go (suc i) = sym (Ring.neg-zero R)

  pub scaled_minus : (m : R.Car) (n : ℕ) (a : Seq R) → m ≡ R.neg (cast R n) → scaled R m a ≡ neg (cast (Series R) n) ⊗ a
  scaled_minus m n a e =
      conv_scalar R m a ∙ ap (λ c. c ⊗ a) (ap (const R) e ∙ const_neg (cast R n) ∙ ap neg (sym (cast_series R n)))

  -- a coefficient of −c a, and of x^j a
  const_minus_at : (c : R.Car) (a : Seq R) (i : ℕ) → (neg (const R c) ⊗ a) i ≡ R.mul (R.neg c) (a i)
  const_minus_at c a i = ap (λ b. conv R b a i) (sym (const_neg c)) ∙ conv_const R (R.neg c) a i

  unfoldable pub shifted : ℕ → Seq R → Seq R
  shifted zero a = a
  shifted (suc j) a = head_then R R.𝟘 (shifted j a)

  pub shifted_low : (j k : ℕ) (a : Seq R) → k < j → shifted j a k ≡ R.𝟘
  unfolding shifted
  shifted_low zero k a l = absurd (omega arith)
  shifted_low (suc j) zero a l = refl
  shifted_low (suc j) (suc k) a l = shifted_low j k a (omega arith)

  pub shifted_high : (j k : ℕ) (a : Seq R) → j ≤ k → shifted j a k ≡ a (k - j)
  unfolding shifted
  shifted_high zero k a l = ap a (omega arith)
  shifted_high (suc j) zero a l = absurd (omega arith)
  shifted_high (suc j) (suc k) a l = shifted_high j k a (omega arith) ∙ ap a (omega arith)

  power_ind : (j : ℕ) (a : Seq R) → pow (Series R) (ind R) j ⊗ a ≡ shifted j a
  unfolding shifted
  power_ind zero a = ap (λ c. c ⊗ a) (pow-zero (Series R) (ind R)) ∙ Ring.one-mul (Series R) a
  power_ind (suc j) a =
      ap (λ c. c ⊗ a) (pow-suc (Series R) (ind R) j) ∙ (Series R).mul_assoc (ind R) (pow (Series R) (ind R) j) a ∙ ap (ind R ⊗◌) (power_ind j a)
      ∙ conv_ind R (shifted j a)

  -- ── the two products beside g²

  unfoldable pub minus_slope : Seq R → Seq R
  minus_slope g = neg (cast (Series R) 2) ⊗ g ⊗ ∂ R g

  unfoldable pub minus_bend : Seq R → Seq R
  minus_bend g = neg (cast (Series R) 4) ⊗ (g ⊗ ∂ R (∂ R g) ⊕ neg (pow (Series R) (∂ R g) 2))

  -- 2s' + 8t
  abbrev pub bend_from : Seq R → Seq R → Seq R
  bend_from s t = sums R (scaled R (cast R 2) (∂ R s)) (scaled R (cast R 8) t)

  pub slope_of_square : (g : Seq R) → negs R (∂ R (g ⊗ g)) ≡ minus_slope g
  unfolding minus_slope
  slope_of_square g =
      ap neg (∂-leibniz R g g) ∙ solve2 (Series R) (λ g g'. :- (g' :* g :+ g :* g')) (λ g g'. :- num 2 :* g :* g') tt g (∂ R g)

  -- n times a
  scaled_cast : (n : ℕ) (a : Seq R) → scaled R (cast R n) a ≡ cast (Series R) n ⊗ a
  scaled_cast n a = conv_scalar R (cast R n) a ∙ ap (λ c. c ⊗ a) (sym (cast_series R n))

  pub bend_of_slope : (g : Seq R) → bend_from (minus_slope g) (∂ R g ⊗ ∂ R g) ≡ minus_bend g
  unfolding minus_bend
  bend_of_slope g =
      ap₂ ◌⊕◌ (scaled_cast 2 (∂ R (minus_slope g))) (scaled_cast 8 (∂ R g ⊗ ∂ R g))
      ∙ ap (λ s. cast (Series R) 2 ⊗ s ⊕ cast (Series R) 8 ⊗ (∂ R g ⊗ ∂ R g))
      (ap (∂ R) (sym (slope_of_square g)) ∙ d_neg (Series R) (Formal R) (∂ R (g ⊗ g)) ∙ ap neg (∂-leibniz_twice R g g))
      ∙ solve3 (Series R) (λ g g' g''. num 2 :* :- (g'' :* g :+ g' :* g' :+ (g' :* g' :+ g :* g'')) :+ num 8 :* (g' :* g'))
      (λ g g' g''. :- num 4 :* (g :* g'' :- g' :^ 2)) tt g (∂ R g) (∂ R (∂ R g))

  pub bend_from_below : (n : ℕ) (s t : Seq R) → Below R (suc n) s → Below R n t → Below R n (bend_from s t)
  bend_from_below n s t hs ht =
      sums_below R n _ _ (scaled_below R n (cast R 2) (∂ R s) (below_∂ R s (omega arith) hs)) (scaled_below R n (cast R 8) t ht)

module _ (R : CRing) (q : Question R) where
  open q use {A, B, d, σ}
  open Series R use {add as ◌⊕◌, mul as ◌⊗◌, neg}

  infixl 65 ◌⊕◌
  infixl 70 ◌⊗◌
  infixr 75 ◌^◌
  infix 80 #◌
  abbrev ◌^◌ : Seq R → ℕ → Seq R
  a ^ n = pow (Series R) a n

  abbrev #◌ : ℕ → Seq R
  # n = cast (Series R) n

  abbrev κ : R.Car → Seq R
  κ c = const R c

  abbrev x : Seq R
  x = ind R

  -- ── a coefficient of a multiple of ℓx − σ, of 3x² + A and of f

  pub line_at : (s : Seq R) (k : ℕ) → (line R q ⊗ s) k ≡ R.add (R.mul (cast R (ℓ R q)) (shifted R 1 s k)) (R.mul (R.neg σ) (s k))
  line_at s k =
      ap (λ (a : Seq R). a k) (solve4 (Series R) (λ l x σ s. (l :* x :- σ) :* s) (λ l x σ s. l :* (x :^ 1 :* s) :+ :- σ :* s) tt (# (ℓ R q)) x (κ σ) s)
      ∙ ap₂ R.add (conv_cast R (ℓ R q) (x ^ 1 ⊗ s) k ∙ ap (λ a. R.mul (cast R (ℓ R q)) (a k)) (power_ind R 1 s)) (const_minus_at R σ s k)

  pub quadratic_at : (s : Seq R) (k : ℕ) → (quadratic R q ⊗ s) k ≡ R.add (R.mul (cast R 3) (shifted R 2 s k)) (R.mul A (s k))
  quadratic_at s k =
      ap (λ (a : Seq R). a k) (solve3 (Series R) (λ x A s. (num 3 :* x :^ 2 :+ A) :* s) (λ x A s. num 3 :* (x :^ 2 :* s) :+ A :* s) tt x (κ A) s)
      ∙ ap₂ R.add (conv_cast R 3 (x ^ 2 ⊗ s) k ∙ ap (λ a. R.mul (cast R 3) (a k)) (power_ind R 2 s)) (conv_const R A s k)

  pub cubic_at : (s : Seq R) (k : ℕ) → (f R q ⊗ s) k ≡ R.add (R.add (shifted R 3 s k) (R.mul A (shifted R 1 s k))) (R.mul B (s k))
  unfolding f
  cubic_at s k =
      ap (λ (a : Seq R). a k)
      (solve4 (Series R) (λ x A B s. (x :^ 3 :+ A :* x :+ B) :* s) (λ x A B s. x :^ 3 :* s :+ A :* (x :^ 1 :* s) :+ B :* s) tt x (κ A) (κ B) s)
      ∙ ap₂ R.add
      (ap₂ R.add (ap (λ a. a k) (power_ind R 3 s)) (conv_const R A (x ^ 1 ⊗ s) k ∙ ap (λ a. R.mul A (a k)) (power_ind R 1 s)))
      (conv_const R B s k)

  -- ── the parts

  pub linear_is : (g : Seq R) → line R q ⊗ (g ⊗ g) ≡ linear_part_of R q g
  unfolding linear_part_of
  linear_is g = solve2 (Series R) (λ l g. l :* (g :* g)) (λ l g. l :* g :^ 2) tt (line R q) g

  pub first_is : (g : Seq R) → quadratic R q ⊗ minus_slope R g ≡ first_logarithmic_part_of R q g
  unfolding minus_slope first_logarithmic_part_of
  first_is g =
      solve3 (Series R) (λ s g g'. s :* (:- num 2 :* g :* g')) (λ s g g'. :- (num 2 :* s :* g :* g')) tt (quadratic R q) g (∂ R g)

  pub second_is : (g : Seq R) → f R q ⊗ minus_bend R g ≡ second_logarithmic_part_of R q g
  unfolding minus_bend second_logarithmic_part_of
  second_is g =
      solve4 (Series R) (λ f g g' g''. f :* (:- num 4 :* (g :* g'' :- g' :^ 2))) (λ f g g' g''. :- (num 4 :* f :* (g :* g'' :- g' :^ 2))) tt
      (f R q) g (∂ R g) (∂ R (∂ R g))

  -- ── degrees

  pub line_below : Below R 2 (line R q)
  line_below = (r_add R (r_mul R (r_cast R (ℓ R q)) (r_ind R)) (r_neg R (r_up R (r_const R σ)))).below

  pub quadratic_below : Below R 3 (quadratic R q)
  quadratic_below = (r_add R (r_mul R (r_cast R 3) (r_pow R (r_ind R) 2)) (r_up R (r_up R (r_const R A)))).below

  pub f_below : Below R 4 (f R q)
  unfolding f
  f_below =
      (r_add R (r_add R (r_pow R (r_ind R) 3) (r_up R (r_up R (r_mul R (r_const R A) (r_ind R))))) (r_up R (r_up R (r_up R (r_const R B))))).below

  pub N_below : (g : Seq R) → 1 ≤ d → Below R (suc d) g → Below R (2 * d + 2) (N R q g)
  N_below g pos h = subst (Below R (2 * d + 2))
      (ap₂ ◌⊕◌ (ap₂ ◌⊕◌ (linear_is g) (first_is g)) (second_is g) ∙ sym (N_parts R q g))
      (sums_below R _ _ _
      (sums_below R _ _ _ (below_conv R 2 (2 * d + 1) (line R q) (g ⊗ g) (omega arith) line_below square_below)
      (below_conv R 3 (2 * d) (quadratic R q) (minus_slope R g) (omega arith) quadratic_below slope_below))
      (below_conv R 4 (2 * d - 1) (f R q) (minus_bend R g) (omega arith) f_below bend_below))
    where
      square_below : Below R (2 * d + 1) (g ⊗ g)
      square_below = below_conv R (suc d) (suc d) g g (omega arith) h h

      slope_below : Below R (2 * d) (minus_slope R g)
      slope_below = subst (Below R (2 * d)) (slope_of_square R g) (negs_below R (2 * d) _ (below_∂ R (g ⊗ g) (omega arith) square_below))

      bend_below : Below R (2 * d - 1) (minus_bend R g)
      bend_below =
          subst (Below R (2 * d - 1)) (bend_of_slope R g)
          (bend_from_below R (2 * d - 1) (minus_slope R g) (∂ R g ⊗ ∂ R g) (λ i l. slope_below i (omega arith))
          (below_conv R d d (∂ R g) (∂ R g) (omega arith) (below_∂ R g (omega arith) h) (below_∂ R g (omega arith) h)))
