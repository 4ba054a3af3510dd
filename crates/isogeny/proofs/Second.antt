-- The derivative of R3 divided by W = N' g − 2 N g': the polynomial f' W g + 2 f (W' g − 3 W g') − 3 N² − Ã g⁴, of degree at most 2 ℓ. At infinity it
-- is G⁴ Ψ; where g meets the rules it is zero.
-- Assumes nothing.
use Rattle.std.specs.Prelude.{◌≡◌, refl, [], ◌∷◌, ℕ, ◌*◌, ◌≤◌}
use Rattle.std.proofs.Common.{sym, ◌∙◌, ap, arith}
use Rattle.std.proofs.Math.Path.{ap₂}
use Rattle.ring.specs.Ring
use Rattle.ring.specs.Ring.{CRing, cast, cast_mul, pow}
use Rattle.ring.specs.Identity.{Ex, ring, at, solve3}
use Rattle.ring.specs.Identity.Ex.{var, num, :1, ◌:+◌, ◌:-◌, ◌:*◌, :-◌, ◌:^◌}
use Rattle.series.specs.Series.{Series, Seq, Euler, const, D, ∂, zeros}
use Rattle.ring.specs.Derivative.{derive}
use Rattle.series.specs.Indeterminate.{ind, D_is}
use Rattle.series.specs.Reversal.{Reversed, r_degree, r_left, r_right, r_add, r_neg, r_mul, r_pow, r_up, r_const, r_cast, r_ind, r_down, r_D, r_back, r_zero}
use Rattle.isogeny.specs.Rules.{Question, R1, Meets, ℓ, f, N, W}
use Rattle.isogeny.proofs.Numerator.{slope}
use Rattle.isogeny.proofs.Equation as E
use Rattle.isogeny.proofs.Equation.{:t, :a, :ã, :u, :u', :u'', :F, :v, :Ψ}
use Rattle.isogeny.proofs.Infinity as I
use Rattle.isogeny.proofs.Degrees.{F, r_f}
use Rattle.isogeny.proofs.Infinity.{quad, reversed, power_sums_of, quot, Ψ}
use Rattle.isogeny.proofs.Conditions.{Ψ_zero}

module _ (R : CRing) (q : Question R) where
  open q use {A, B, Ã, B̃, d}
  open Series R use {𝟘, 𝟙, add as ◌⊕◌, mul as ◌⊗◌, neg}

  infixl 65 ◌⊕◌ ◌⊖◌
  infixl 70 ◌⊗◌
  infixr 75 ◌^◌
  infix 80 #◌
  abbrev ◌⊖◌ : Seq R → Seq R → Seq R
  a ⊖ b = a ⊕ neg b

  abbrev ◌^◌ : Seq R → ℕ → Seq R
  a ^ n = pow (Series R) a n

  abbrev #◌ : ℕ → Seq R
  # n = cast (Series R) n

  abbrev κ : R.Car → Seq R
  κ c = const R c

  abbrev x : Seq R
  x = ind R

  abbrev t : Seq R
  t = ind R

  -- 3 x² + A, and N' g − 2 N g'
  abbrev pub f' : Seq R
  f' = # 3 ⊗ x ^ 2 ⊕ κ A

  abbrev w : Seq R → Seq R
  w g = W R q g (N R q g)

  unfoldable pub second : Seq R → Seq R
  second g = f' ⊗ w g ⊗ g ⊕ # 2 ⊗ f R q ⊗ (∂ R (w g) ⊗ g ⊖ # 3 ⊗ w g ⊗ ∂ R g) ⊖ # 3 ⊗ N R q g ^ 2 ⊖ κ Ã ⊗ g ^ 4

  module _ (g : Seq R) (r1 : R1 R q g) where
    abbrev G : Seq R
    G = reversed R q g

    abbrev u : Seq R
    u = quot R q (power_sums_of R q g)

    abbrev v : Seq R
    v = u ⊖ D R u

    pub r_W : Reversed R (3 * d) (w g) (v ⊗ G ^ 3)
    r_W = r_down R (r_degree R (omega arith) (I.r_x_W R q g r1))

    x_second : x ⊗ second g
        ≡ x ⊗ f' ⊗ w g ⊗ g ⊕ # 2 ⊗ f R q ⊗ (D R (w g) ⊗ g ⊖ # 3 ⊗ w g ⊗ D R g) ⊖ # 3 ⊗ (x ⊗ N R q g ^ 2) ⊖ x ⊗ (κ Ã ⊗ g ^ 4)
    unfolding second
    x_second =
        ring (Series R) (at (Series R) (x ∷ f' ∷ f R q ∷ w g ∷ ∂ R (w g) ∷ g ∷ ∂ R g ∷ N R q g ∷ κ Ã ∷ []))
        (var 0 :* (var 1 :* var 3 :* var 5 :+ num 2 :* var 2 :* (var 4 :* var 5 :- num 3 :* var 3 :* var 6) :- num 3 :* var 7 :^ 2 :- var 8 :* var 5 :^ 4))
        (var 0 :* var 1 :* var 3 :* var 5 :+ num 2 :* var 2 :* (var 0 :* var 4 :* var 5 :- num 3 :* var 3 :* (var 0 :* var 6))
        :- num 3 :* (var 0 :* var 7 :^ 2) :- var 0 :* (var 8 :* var 5 :^ 4)) tt
        ∙ ap₂ (λ y z. x ⊗ f' ⊗ w g ⊗ g ⊕ # 2 ⊗ f R q ⊗ (y ⊗ g ⊖ # 3 ⊗ w g ⊗ z) ⊖ # 3 ⊗ (x ⊗ N R q g ^ 2) ⊖ x ⊗ (κ Ã ⊗ g ^ 4))
        (D_is R (w g)) (D_is R g)

    D_tangent : D R (v ⊗ G ^ 3) ≡ (D R u ⊖ D R (D R u)) ⊗ G ^ 3 ⊕ # 3 ⊗ v ⊗ G ^ 2 ⊗ D R G
    D_tangent =
        derive (Series R) (Euler R) (u ∷ D R u ∷ G ∷ D R (D R u) ∷ D R G ∷ []) (var 1 ∷ var 3 ∷ var 4 ∷ []) (refl, (refl, (refl, tt)))
        ((var 0 :- var 1) :* var 2 :^ 3) ((var 1 :- var 3) :* var 2 :^ 3 :+ num 3 :* (var 0 :- var 1) :* var 2 :^ 2 :* var 4) tt tt

    -- G⁴ Ψ is a polynomial of degree at most 2 ℓ
    pub r_second : Reversed R (2 * ℓ R q) (second g) (G ^ 4 ⊗ Ψ R q u)
    unfolding E.Ψ F quad slope
    r_second =
        r_down R (r_degree R (omega arith) (r_left R (sym x_second) (r_right R same
        (r_add R (r_add R (r_add R
        (r_mul R (r_mul R (I.r_quad R q) r_W) (I.r_g R q g r1))
        (r_degree R (omega arith) (r_mul R (r_mul R (r_cast R 2) (r_f R q))
        (r_add R (r_mul R (r_D R r_W) (I.r_g R q g r1)) (r_neg R (r_degree R (omega arith) (r_mul R (r_mul R (r_cast R 3) r_W) (I.r_slope R q g r1))))))))
        (r_neg R (r_degree R (omega arith) (r_mul R (r_cast R 3) (r_mul R (r_ind R) (r_pow R (I.r_N R q g r1) 2))))))
        (r_neg R (r_degree R (omega arith) (r_up R (r_up R (r_mul R (r_ind R) (r_mul R (r_const R Ã) (r_pow R (I.r_g R q g r1) 4)))))))))))
      where
        :G : Ex
        :G = var 8

        :G' : Ex
        :G' = var 9

        :d : Ex
        :d = var 10

        same : quad R q ⊗ (v ⊗ G ^ 3) ⊗ G
            ⊕ # 2 ⊗ F R q ⊗ ((# (3 * d) ⊗ (v ⊗ G ^ 3) ⊖ D R (v ⊗ G ^ 3)) ⊗ G ⊖ # 3 ⊗ (v ⊗ G ^ 3) ⊗ (# d ⊗ G ⊖ D R G))
            ⊖ # 3 ⊗ (𝟙 ⊗ (u ⊗ G ^ 2) ^ 2) ⊖ t ⊗ (t ⊗ (𝟙 ⊗ (κ Ã ⊗ G ^ 4)))
            ≡ G ^ 4 ⊗ Ψ R q u
        same =
            ap₂ (λ m y. quad R q ⊗ (v ⊗ G ^ 3) ⊗ G
            ⊕ # 2 ⊗ F R q ⊗ ((m ⊗ (v ⊗ G ^ 3) ⊖ y) ⊗ G ⊖ # 3 ⊗ (v ⊗ G ^ 3) ⊗ (# d ⊗ G ⊖ D R G))
            ⊖ # 3 ⊗ (𝟙 ⊗ (u ⊗ G ^ 2) ^ 2) ⊖ t ⊗ (t ⊗ (𝟙 ⊗ (κ Ã ⊗ G ^ 4)))) (cast_mul (Series R) 3 d) D_tangent
            ∙ ring (Series R) (at (Series R) (t ∷ κ A ∷ κ B ∷ κ Ã ∷ κ B̃ ∷ u ∷ D R u ∷ D R (D R u) ∷ G ∷ D R G ∷ # d ∷ []))
            ((num 3 :+ :a :* :t :^ 2) :* (:v :* :G :^ 3) :* :G
            :+ num 2 :* :F
            :* ((num 3 :* :d :* (:v :* :G :^ 3) :- ((:u' :- :u'') :* :G :^ 3 :+ num 3 :* :v :* :G :^ 2 :* :G')) :* :G :- num 3 :* (:v :* :G :^ 3) :*
            (:d :* :G :- :G'))
            :- num 3 :* (:1 :* (:u :* :G :^ 2) :^ 2) :- :t :* (:t :* (:1 :* (:ã :* :G :^ 4))))
            (:G :^ 4 :* :Ψ) tt

  pub second_zero : 1 ≤ d → (g : Seq R) → Meets R q g → second g ≡ zeros R
  second_zero d≥1 g meets =
      r_back R (ap (λ y. reversed R q g ^ 4 ⊗ y) (Ψ_zero R q d≥1 g meets.r1 meets.r3) ∙ Ring.mul-zero (Series R) _) (r_second g meets.r1)
      (r_zero R (2 * ℓ R q))

  -- where g meets the rules, f' w g + 2 f (W' g − 3 w g') = 3 N² + Ã g⁴
  pub tangent : 1 ≤ d → (g : Seq R) → Meets R q g
      → f' ⊗ w g ⊗ g ⊕ # 2 ⊗ f R q ⊗ (∂ R (w g) ⊗ g ⊖ # 3 ⊗ w g ⊗ ∂ R g) ≡ # 3 ⊗ N R q g ^ 2 ⊕ κ Ã ⊗ g ^ 4
  unfolding second
  tangent d≥1 g meets = Ring.sub-zero (Series R) _ _ (solve3 (Series R) (λ y n a. y :- (n :+ a)) (λ y n a. y :- n :- a) tt _ _ _ ∙ second_zero d≥1 g meets)
