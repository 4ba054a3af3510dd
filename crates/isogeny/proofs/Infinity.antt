-- The rules at infinity. Where g meets R1, N and N' g − 2 N g' reversed are series in t = 1/x times G² and G³, G being g reversed; where it meets
-- R3 too, these series solve Φ = 0.
-- Assumes nothing.
use Rattle.std.specs.Prelude.{◌≡◌, [], ◌∷◌, ℕ, suc, ◌+◌, ◌*◌}
use Rattle.std.proofs.Math.Path.{refl, ap₂, fun_ext}
use Rattle.std.proofs.Common.{sym, ◌∙◌, ap, arith}
use Rattle.ring.specs.Ring.{CRing, cast, cast_add, cast_mul, cast_one, pow}
use Rattle.ring.specs.Identity.{Ex, ring, at, solve2, solve3, solve7}
use Rattle.ring.specs.Identity.Ex.{var, num, :1, ◌:+◌, ◌:-◌, ◌:*◌, ◌:^◌}
use Rattle.ring.specs.Derivation.{d_cast}
use Rattle.series.specs.Series.{Series, Seq, Euler, const, D, ∂}
use Rattle.series.specs.Degree.{Below}
use Rattle.series.specs.ConstantTerm.{cancel_first, pow_first}
use Rattle.series.specs.Indeterminate.{ind, D_is, D_twice}
use Rattle.series.specs.Reversal.{
  rev,
  rev_first,
  Reversed,
  r_degree,
  r_left,
  r_right,
  r_add,
  r_neg,
  r_mul,
  r_pow,
  r_up,
  r_const,
  r_cast,
  r_ind,
  r_down,
  r_D,
  r_same,
}
use Rattle.isogeny.specs.Rules.{Question, R1, R3, ℓ, f, N, W, left, right}
use Rattle.isogeny.proofs.Degrees.{F, r_f, xW}
use Rattle.isogeny.proofs.Numerator as M
use Rattle.isogeny.proofs.Numerator.{slope, bend, power, quotient}
use Rattle.isogeny.proofs.Equation as E
use Rattle.isogeny.proofs.Equation.{:t, :ã, :b̃, :u, :F, :v, :Φ}
use Rattle.isogeny.proofs.Newton.{powers, newton}

module _ (R : CRing) (q : Question R) where
  open q use {A, B, Ã, B̃, d, σ}
  open Series R use {𝟘, 𝟙, add as ◌⊕◌, mul as ◌⊗◌, neg, add-neg}

  infixl 65 ◌⊕◌ ◌⊖◌
  infixl 70 ◌⊗◌
  infixr 75 ◌^◌
  infix 80 #◌
  abbrev ◌⊖◌ : Seq R → Seq R → Seq R
  a ⊖ b = a ⊕ neg b

  abbrev ◌^◌ : Seq R → ℕ → Seq R
  a ^ n = pow (Series R) a n

  abbrev #◌ : ℕ → Seq R
  # n = cast (Series R) n

  abbrev κ : R.Car → Seq R
  κ c = const R c

  abbrev x : Seq R
  x = ind R

  abbrev t : Seq R
  t = ind R

  -- ── 3 x² + A and ℓ x − σ, reversed

  unfoldable pub quad : Seq R
  quad = # 3 ⊕ κ A ⊗ t ^ 2

  unfoldable pub lin : Seq R
  lin = # (ℓ R q) ⊖ κ σ ⊗ t

  pub r_quad : Reversed R 3 (x ⊗ (# 3 ⊗ x ^ 2 ⊕ κ A)) quad
  unfolding quad
  r_quad =
      r_right R (solve2 (Series R) (λ t a. :1 :* (num 3 :* :1 :^ 2 :+ t :* (t :* a))) (λ t a. num 3 :+ a :* t :^ 2) tt t (κ A))
      (r_mul R (r_ind R) (r_add R (r_mul R (r_cast R 3) (r_pow R (r_ind R) 2)) (r_up R (r_up R (r_const R A)))))

  r_lin : Reversed R 3 (x ⊗ (x ⊗ (# (ℓ R q) ⊗ x ⊖ κ σ))) lin
  unfolding lin
  r_lin =
      r_right R (solve3 (Series R) (λ t l s. :1 :* (:1 :* (l :* :1 :- t :* s))) (λ t l s. l :- s :* t) tt t (# (ℓ R q)) (κ σ))
      (r_mul R (r_ind R) (r_mul R (r_ind R) (r_add R (r_mul R (r_cast R (ℓ R q)) (r_ind R)) (r_neg R (r_up R (r_const R σ))))))

  -- ── g reversed, the power sums of its roots (each root counted twice), and N / (x g²) and (N' g − 2 N g') / g³ as series in 1/x

  unfoldable pub reversed : Seq R → Seq R
  reversed g = rev R d g

  unfoldable pub power_sums_of : Seq R → Seq R
  power_sums_of g = power (Series R) (Euler R) (# d) (powers R (reversed g))

  unfoldable pub quot : Seq R → Seq R
  quot s = quotient (Series R) (Euler R) lin quad (F R q) s

  -- the equation that R3 is for such a series u, and what its derivative gives
  abbrev pub Φ : Seq R → Seq R
  Φ u = E.Φ (Series R) (Euler R) t (κ A) (κ B) (κ Ã) (κ B̃) u

  abbrev pub Ψ : Seq R → Seq R
  Ψ u = E.Ψ (Series R) (Euler R) t (κ A) (κ B) (κ Ã) (κ B̃) u

  module _ (g : Seq R) (r1 : R1 R q g) where
    abbrev G : Seq R
    G = reversed g

    abbrev n : Seq R
    n = N R q g

    abbrev u : Seq R
    u = quot (power_sums_of g)

    abbrev v : Seq R
    v = u ⊖ D R u

    pub G_first : G 0 ≡ R.𝟙
    unfolding reversed
    G_first = rev_first R d g ∙ r1.leading

    pub r_g : Reversed R d g G
    unfolding reversed
    r_g = record { below = r1.degree; same = refl }

    -- x g' and x² g''
    pub r_slope : Reversed R d (D R g) (slope (Series R) (Euler R) (# d) G)
    unfolding slope
    r_slope = r_D R r_g

    r_bend : Reversed R d (D R (D R g) ⊖ D R g) (bend (Series R) (Euler R) (# d) G)
    unfolding bend slope
    r_bend = r_add R (r_D R r_slope) (r_neg R r_slope)

    x²N : x ⊗ (x ⊗ n)
        ≡ x ⊗ (x ⊗ (# (ℓ R q) ⊗ x ⊖ κ σ)) ⊗ g ^ 2 ⊖ # 2 ⊗ (x ⊗ (# 3 ⊗ x ^ 2 ⊕ κ A)) ⊗ g ⊗ D R g
        ⊖ # 4 ⊗ f R q ⊗ (g ⊗ (D R (D R g) ⊖ D R g) ⊖ D R g ^ 2)
    unfolding N
    x²N =
        solve7 (Series R)
        (λ x l q f g g' g''. x :* (x :* (l :* g :^ 2 :- num 2 :* q :* g :* g' :- num 4 :* f :* (g :* g'' :- g' :^ 2))))
        (λ x l q f g g' g''. x :* (x :* l) :* g :^ 2 :- num 2 :* (x :* q) :* g :* (x :* g') :- num 4 :* f :* (g :* (x :* (x :* g'')) :- (x :* g') :^ 2))
        tt x (# (ℓ R q) ⊗ x ⊖ κ σ) (# 3 ⊗ x ^ 2 ⊕ κ A) (f R q) g (∂ R g) (∂ R (∂ R g))
        ∙ ap₂ (λ y z. x ⊗ (x ⊗ (# (ℓ R q) ⊗ x ⊖ κ σ)) ⊗ g ^ 2 ⊖ # 2 ⊗ (x ⊗ (# 3 ⊗ x ^ 2 ⊕ κ A)) ⊗ g ⊗ y ⊖ # 4 ⊗ f R q ⊗ (g ⊗ z ⊖ y ^ 2)) (D_is R g)
        (D_twice R g)

    pub r_N : Reversed R (ℓ R q) n (u ⊗ G ^ 2)
    unfolding quot power_sums_of
    r_N =
        r_down R (r_down R (r_left R (sym x²N)
        (r_right R (M.numerator (Series R) (Euler R) (# d) G (powers R G) (d_cast (Series R) (Euler R) d) (newton R G G_first) lin quad (F R q))
        (r_add R
        (r_add R
        (r_degree R (omega arith) (r_mul R r_lin (r_pow R r_g 2)))
        (r_neg R (r_degree R (omega arith) (r_mul R (r_mul R (r_mul R (r_cast R 2) r_quad) r_g) r_slope))))
        (r_neg R (r_degree R (omega arith) (r_mul R (r_mul R (r_cast R 4) (r_f R q))
        (r_add R (r_degree R (omega arith) (r_mul R r_g r_bend)) (r_neg R (r_pow R r_slope 2))))))))))

    -- N' g − 2 N g'
    abbrev w : Seq R
    w = W R q g n

    ℓ-is : # (ℓ R q) ≡ # 2 ⊗ # d ⊕ 𝟙
    ℓ-is = cast_add (Series R) (2 * d) 1 ∙ ap₂ ◌⊕◌ (cast_mul (Series R) 2 d) (cast_one (Series R))

    pub r_x_W : Reversed R (ℓ R q + d) (x ⊗ w) (v ⊗ G ^ 3)
    unfolding slope
    r_x_W =
        r_left R (sym (xW R q g n))
        (r_right R (M.tangent (Series R) (Euler R) (# d) G (powers R G) (d_cast (Series R) (Euler R) d) (newton R G G_first) u (# (ℓ R q)) ℓ-is)
        (r_add R (r_mul R (r_D R r_N) r_g) (r_neg R (r_degree R (omega arith) (r_mul R (r_mul R (r_cast R 2) r_N) r_slope)))))

    -- ── the two sides of R3, of degree at most 3 ℓ

    lower : {P Q : Seq R} → Reversed R (6 * d + 5) (x ^ 2 ⊗ P) Q → Reversed R (3 * ℓ R q) P Q
    lower {P} r = r_down R (r_down R (r_left R twice (r_degree R (omega arith) r)))
      where
        twice : x ^ 2 ⊗ P ≡ x ⊗ (x ⊗ P)
        twice = solve2 (Series R) (λ x p. x :^ 2 :* p) (λ x p. x :* (x :* p)) tt x P

    pub r_left_side : Reversed R (3 * ℓ R q) (left R q g n) (F R q ⊗ (v ⊗ G ^ 3) ^ 2)
    unfolding left
    r_left_side =
        lower (r_left R (solve3 (Series R) (λ x f w. f :* (x :* w) :^ 2) (λ x f w. x :^ 2 :* (f :* w :^ 2)) tt x (f R q) w)
        (r_degree R (omega arith) (r_mul R (r_f R q) (r_pow R r_x_W 2))))

    abbrev pub right' : Seq R
    right' = (u ⊗ G ^ 2) ^ 3 ⊕ t ⊗ (t ⊗ (κ Ã ⊗ (u ⊗ G ^ 2) ⊗ G ^ 4)) ⊕ t ⊗ (t ⊗ (t ⊗ (κ B̃ ⊗ G ^ 6)))

    pub r_right_side : Reversed R (3 * ℓ R q) (right R q g n) right'
    unfolding right
    r_right_side =
        r_add R
        (r_add R (r_pow R r_N 3) (r_degree R (omega arith) (r_up R (r_up R (r_mul R (r_mul R (r_const R Ã) r_N) (r_pow R r_g 4))))))
        (r_degree R (omega arith) (r_up R (r_up R (r_up R (r_mul R (r_const R B̃) (r_pow R r_g 6))))))

    -- ── R3 divided by G⁶

    pub sides : G ^ 6 ⊗ Φ u ≡ F R q ⊗ (v ⊗ G ^ 3) ^ 2 ⊖ right'
    unfolding E.Φ F
    sides =
        ring (Series R) (at (Series R) (t ∷ κ A ∷ κ B ∷ κ Ã ∷ κ B̃ ∷ u ∷ D R u ∷ D R (D R u) ∷ G ∷ []))
        (:G :^ 6 :* :Φ)
        (:F :* (:v :* :G :^ 3) :^ 2 :- ((:u :* :G :^ 2) :^ 3 :+ :t :* (:t :* (:ã :* (:u :* :G :^ 2) :* :G :^ 4)) :+ :t :* (:t :* (:t :* (:b̃ :* :G :^ 6))))) tt
      where
        :G : Ex
        :G = var 8

    pub Φ_zero : R3 R q g n → Φ u ≡ 𝟘
    Φ_zero r3 =
        cancel_first R (G ^ 6) _ (pow_first R G G_first 6)
        (sides ∙ ap (λ y. y ⊖ right') (r_same R (fun_ext r3) r_left_side r_right_side) ∙ add-neg right')

    pub N_below : Below R (suc (ℓ R q)) n
    N_below = r_N.below
