-- The image of a point: R3 taken at u, where g(u) can be cancelled, is the codomain's equation for the image of (u, v).
-- Assumes nothing.
use Rattle.std.specs.Prelude.{◌≢◌, ◌≡◌, List, [], ◌∷◌, ℕ, zero, suc, ◌*◌}
use Rattle.std.proofs.Common.{sym, ◌∙◌, arith}
use Rattle.std.proofs.Math.Path.{ap, ap₂, fun_ext}
use Rattle.ring.specs.Ring
use Rattle.ring.specs.Ring.{CRing, cast, pow, pow-zero, pow-suc}
use Rattle.ring.specs.Field.{Inverse, unit_cancel}
use Rattle.ring.specs.Identity.{solve2, solve3, solve5}
use Rattle.ring.specs.Identity.Ex.{var, num, :1, ◌:+◌, ◌:-◌, ◌:*◌, ◌:^◌}
use Rattle.series.specs.Series.{Seq, const, ∂}
use Rattle.series.specs.Degree.{Below, Poly, Polys, poly_const, ∂-below}
use Rattle.series.specs.Value.{value, at_same, at_eval, at_const}
use Rattle.isogeny.specs.Curve.{OnCurve}
use Rattle.isogeny.specs.Rules.{Question, R3, ℓ, f, W, left, right, g_at, N_at, W_at, Image}
use Rattle.isogeny.proofs.Cubic.{poly_f, f_at}
use Rattle.isogeny.proofs.Degrees.{W_below, left_below, right_below}

module _ (R : CRing) (q : Question R) (g n : Seq R) (g_below : Below R (suc q.d) g) (n_below : Below R (suc (ℓ R q)) n) (u : R.Car) where
  open q use {A, B, Ã, B̃, d}
  open R use {Car, 𝟘, 𝟙, add as ◌⊕◌, mul as ◌⊗◌, neg, add-zero, add-neg}

  infixl 65 ◌⊕◌ ◌⊖◌
  infixl 70 ◌⊗◌
  infixr 75 ◌^◌
  infix 80 #◌
  abbrev ◌⊖◌ : Car → Car → Car
  a ⊖ b = a ⊕ neg b

  abbrev ◌^◌ : Car → ℕ → Car
  a ^ n = pow R a n

  abbrev #◌ : ℕ → Car
  # n = cast R n

  -- g(u), N(u), W(u)
  abbrev G : Car
  G = g_at R q g u

  abbrev N : Car
  N = N_at R q n u

  abbrev w : Car
  w = W_at R q g n u

  abbrev poly_g : Poly R g
  poly_g = (suc d, g_below)

  abbrev poly_n : Poly R n
  poly_n = (suc (ℓ R q), n_below)

  abbrev poly_w : Poly R (W R q g n)
  poly_w = (suc (3 * d), W_below R q g n g_below n_below)

  -- W(u) = N'(u) g(u) − 2 N(u) g'(u)
  pub W_at_is : W_at R q g n u ≡ value R (suc (ℓ R q)) (∂ R n) u ⊗ g_at R q g u ⊖ # 2 ⊗ N_at R q n u ⊗ value R (suc d) (∂ R g) u
  unfolding W
  W_at_is =
      at_eval R (∂ R n ∷ g ∷ n ∷ ∂ R g ∷ [])
      ((suc (ℓ R q), λ i l. ∂-below R (ℓ R q) n n_below i (omega arith)), (poly_g, (poly_n, ((suc d, λ i l. ∂-below R d g g_below i (omega arith)), tt))))
      (var 0 :* var 1 :- num 2 :* var 2 :* var 3) poly_w u

  -- ── R3 at u

  abbrev names : List (Seq R)
  names = f R q ∷ const R Ã ∷ const R B̃ ∷ g ∷ n ∷ W R q g n ∷ []

  abbrev polys : Polys R names
  polys = (poly_f R q, (poly_const R Ã, (poly_const R B̃, (poly_g, (poly_n, (poly_w, tt))))))

  left_at : (below : Below R (suc (3 * ℓ R q)) (left R q g n)) → value R (suc (3 * ℓ R q)) (left R q g n) u ≡ (u ^ 3 ⊕ A ⊗ u ⊕ B) ⊗ w ^ 2
  unfolding left
  left_at below = at_eval R names polys (var 0 :* var 5 :^ 2) (suc (3 * ℓ R q), below) u ∙ ap (λ y. y ⊗ w ^ 2) (f_at R q u)

  right_at : (below : Below R (suc (3 * ℓ R q)) (right R q g n)) → value R (suc (3 * ℓ R q)) (right R q g n) u ≡ N ^ 3 ⊕ Ã ⊗ N ⊗ G ^ 4 ⊕ B̃ ⊗ G ^ 6
  unfolding right
  right_at below =
      at_eval R names polys (var 4 :^ 3 :+ var 1 :* var 4 :* var 3 :^ 4 :+ var 2 :* var 3 :^ 6) (suc (3 * ℓ R q), below) u
      ∙ ap₂ (λ a b. N ^ 3 ⊕ a ⊗ N ⊗ G ^ 4 ⊕ b ⊗ G ^ 6) (at_const R Ã (poly_const R Ã) u) (at_const R B̃ (poly_const R B̃) u)

  -- f(u) W(u)² = N(u)³ + Ã N(u) g(u)⁴ + B̃ g(u)⁶
  pub R3_at : R3 R q g n → (u ^ 3 ⊕ A ⊗ u ⊕ B) ⊗ w ^ 2 ≡ N ^ 3 ⊕ Ã ⊗ N ⊗ G ^ 4 ⊕ B̃ ⊗ G ^ 6
  R3_at r3 =
      sym (left_at (left_below R q g n g_below n_below))
      ∙ at_same R (left R q g n) (right R q g n) (suc (3 * ℓ R q), left_below R q g n g_below n_below) (suc (3 * ℓ R q), right_below R q g n g_below n_below) u
      (fun_ext r3)
      ∙ right_at (right_below R q g n g_below n_below)

  -- ── where g(u) is invertible

  module _ (inverse : Inverse R G) where
    cancel_power : (k : ℕ) (y : Car) → G ^ k ⊗ y ≡ 𝟘 → y ≡ 𝟘
    cancel_power zero y e = sym (Ring.one-mul R y) ∙ ap (λ z. z ⊗ y) (sym (pow-zero R G)) ∙ e
    cancel_power (suc k) y e = cancel_power k y (unit_cancel R G (G ^ k ⊗ y) inverse
        (sym (R.mul_assoc G (G ^ k) y) ∙ ap (λ z. z ⊗ y) (sym (pow-suc R G k)) ∙ e))

    same_quotient : (k : ℕ) (y z : Car) → y ⊗ G ^ k ≡ z ⊗ G ^ k → y ≡ z
    same_quotient k y z e =
        Ring.sub-zero R y z
        (cancel_power k (y ⊖ z) (solve3 R (λ g y z. g :* (y :- z)) (λ g y z. y :* g :- z :* g) tt (G ^ k) y z ∙ ap (λ t. t ⊖ z ⊗ G ^ k) e ∙ add-neg _))

    -- the image is on the codomain
    pub push : R3 R q g n → (v u' v' : Car) → OnCurve R A B u v → Image R q g n u v u' v' → OnCurve R Ã B̃ u' v'
    unfolding OnCurve
    push r3 v u' v' on image =
        Ring.sub-zero R (v' ^ 2) (u' ^ 3 ⊕ Ã ⊗ u' ⊕ B̃)
        (cancel_power 6 _
        (solve5 R (λ g x y a b. g :^ 6 :* (y :^ 2 :- (x :^ 3 :+ a :* x :+ b)))
        (λ g x y a b. (y :* g :^ 3) :^ 2 :- ((x :* g :^ 2) :^ 3 :+ a :* (x :* g :^ 2) :* g :^ 4 :+ b :* g :^ 6)) tt
        G u' v' Ã B̃
        ∙ ap₂ (λ x y. y ^ 2 ⊖ (x ^ 3 ⊕ Ã ⊗ x ⊗ G ^ 4 ⊕ B̃ ⊗ G ^ 6)) image.abscissa image.ordinate
        ∙ ap (λ x. x ⊖ (N ^ 3 ⊕ Ã ⊗ N ⊗ G ^ 4 ⊕ B̃ ⊗ G ^ 6)) (solve2 R (λ v w. (v :* w) :^ 2) (λ v w. v :^ 2 :* w :^ 2) tt v w ∙ ap (λ x. x ⊗ w ^ 2) on
        ∙ R3_at r3)
        ∙ add-neg _))

    pub image_unique : (v u' v' u'' v'' : Car) → Image R q g n u v u' v' → Image R q g n u v u'' v'' → (u' ≡ u'') × (v' ≡ v'')
    image_unique v u' v' u'' v'' a b =
        (same_quotient 2 u' u'' (a.abscissa ∙ sym b.abscissa), same_quotient 3 v' v'' (a.ordinate ∙ sym b.ordinate))

    pub image_exists : G ≢ 𝟘 → (v : Car) → (u' : Car) × (v' : Car) × Image R q g n u v u' v'
    image_exists nonzero v =
        let y : Car = inverse.0 in
        (N ⊗ y ^ 2, v ⊗ w ⊗ y ^ 3, record { defined = nonzero; abscissa = quotient2; ordinate = quotient3 })
      where
        quotient2 : N ⊗ inverse.0 ^ 2 ⊗ G ^ 2 ≡ N
        quotient2 =
            solve3 R (λ n y g. n :* y :^ 2 :* g :^ 2) (λ n y g. n :* (g :* y) :^ 2) tt N inverse.0 G
            ∙ ap (λ x. N ⊗ x ^ 2) inverse.1 ∙ solve2 R (λ n z. n :* :1 :^ 2) (λ n z. n) tt N 𝟘

        quotient3 : v ⊗ w ⊗ inverse.0 ^ 3 ⊗ G ^ 3 ≡ v ⊗ w
        quotient3 =
            solve3 R (λ n y g. n :* y :^ 3 :* g :^ 3) (λ n y g. n :* (g :* y) :^ 3) tt (v ⊗ w) inverse.0 G
            ∙ ap (λ x. v ⊗ w ⊗ x ^ 3) inverse.1 ∙ solve2 R (λ n z. n :* :1 :^ 3) (λ n z. n) tt (v ⊗ w) 𝟘
