-- The composite meets the rules: where g₁ meets them from (A, B) to (A₁, B₁), and g₂ from (A₁, B₁) to (A₂, B₂), `composite_g` meets them from (A, B) to
-- (A₂, B₂). Its N, and its N'g − 2Ng', are those of the second map at N₁ / g₁², cleared.
-- Assumes nothing.
use Rattle.std.specs.Prelude.{◌≡◌, [], ◌∷◌}
use Rattle.std.proofs.Math.Path.{refl, ap, ap₂, fun_ext}
use Rattle.std.proofs.Common.{sym, ◌∙◌}
use Prim.Native.Nat.{ℕ, suc, ◌+◌, ◌*◌, ◌≤◌}
use native.Mathlib.Omega.{arith}
use Rattle.ring.specs.Ring.{CRing, cast, cast_add, cast_mul, cast_one, pow}
use Rattle.ring.specs.Identity.{Ex, ring, at, solve2, solve3, solve4, solve5, solve7}
use Rattle.ring.specs.Identity.Ex.{var, num, ◌:+◌, ◌:-◌, ◌:*◌, ◌:^◌}
use Rattle.ring.specs.Derivation.{d_cast}
use Rattle.ring.specs.Derivative.{derive}
use Rattle.series.specs.Series.{Series, Seq, Formal, const, ∂}
use Rattle.series.specs.Degree.{Below, Poly, Monic, leading, leading_regular, regular_pow, regular_cancel, ∂-below, poly_mul, poly_pow}
use Rattle.series.specs.Indeterminate.{ind, cast_series, const_add, const_mul}
use Rattle.isogeny.specs.Rules.{Question, R1, R3, Meets, ℓ, f, N, W, left, right}
use Rattle.isogeny.proofs.Degrees as Degrees
use Rattle.isogeny.proofs.Infinity as I
use Rattle.isogeny.proofs.Second as Second
use Rattle.isogeny.proofs.Second.{f'}
use Rattle.composition.specs.Substitution as Sub
use Rattle.composition.specs.Homogenized.{Homogenized, h_is, h_degree, h_right, h_same, h_add, h_neg, h_mul, h_pow, h_const, h_cast, h_up, h_ind}
use Rattle.composition.specs.Substitution.{homogenize}
use Rattle.composition.specs.SubstitutionAt.{homogenize_poly}
use Rattle.composition.specs.Composite.{Composable, composite, composite_g, pullback, composite_degree}
use Rattle.composition.proofs.Product as Product
use Rattle.composition.proofs.Leading.{composite_R1}

module _ (R : CRing) (q₁ q₂ : Question R) (d₁≥1 : 1 ≤ q₁.d) (d₂≥1 : 1 ≤ q₂.d) (composable : Composable R q₁ q₂)
    (g₁ g₂ : Seq R) (meets₁ : Meets R q₁ g₁) (r1₂ : R1 R q₂ g₂) where
  open Series R use {𝟘, 𝟙, add as ◌⊕◌, mul as ◌⊗◌, neg}

  infixl 65 ◌⊕◌ ◌⊖◌
  infixl 70 ◌⊗◌
  infixr 75 ◌^◌
  infix 80 #◌
  abbrev ◌⊖◌ : Seq R → Seq R → Seq R
  a ⊖ b = a ⊕ neg b

  abbrev ◌^◌ : Seq R → ℕ → Seq R
  a ^ n = pow (Series R) a n

  abbrev #◌ : ℕ → Seq R
  # n = cast (Series R) n

  abbrev κ : R.Car → Seq R
  κ c = const R c

  abbrev x : Seq R
  x = ind R

  -- ── what the polynomials of the second map become

  abbrev q : Question R
  q = composite R q₁ q₂

  abbrev g : Seq R
  g = composite_g R q₁ q₂.d g₁ g₂

  abbrev X : Seq R
  X = N R q₁ g₁

  abbrev Y : Seq R
  Y = g₁ ^ 2

  abbrev w : Seq R
  w = W R q₁ g₁ (N R q₁ g₁)

  abbrev N₂ : Seq R
  N₂ = N R q₂ g₂

  abbrev e : Seq R
  e = homogenize R X Y q₂.d g₂

  abbrev e₁ : Seq R
  e₁ = homogenize R X Y q₂.d (∂ R g₂)

  abbrev e₂ : Seq R
  e₂ = homogenize R X Y q₂.d (∂ R (∂ R g₂))

  abbrev M : Seq R
  M = homogenize R X Y (ℓ R q₂) N₂

  abbrev M₁ : Seq R
  M₁ = homogenize R X Y (ℓ R q₂) (∂ R N₂)

  -- the cubic of the curve between, and its derivative, at N₁ / g₁², cleared by g₁⁶ and g₁⁴
  abbrev f₁ : Seq R
  f₁ = X ^ 3 ⊕ κ q₁.Ã ⊗ X ⊗ g₁ ^ 4 ⊕ κ q₁.B̃ ⊗ g₁ ^ 6

  abbrev f₁' : Seq R
  f₁' = # 3 ⊗ X ^ 2 ⊕ κ q₁.Ã ⊗ g₁ ^ 4

  derived : (n : ℕ) (P : Seq R) → Below R (suc n) P → Below R (suc n) (∂ R P)
  derived n P h i l = ∂-below R n P h i (omega arith)

  h_g : Homogenized R X Y q₂.d g₂ e
  h_g = h_is R X Y r1₂.degree

  h_g' : Homogenized R X Y q₂.d (∂ R g₂) e₁
  h_g' = h_is R X Y (derived q₂.d g₂ h_g.below)

  h_g'' : Homogenized R X Y q₂.d (∂ R (∂ R g₂)) e₂
  h_g'' = h_is R X Y (derived q₂.d (∂ R g₂) h_g'.below)

  h_N : Homogenized R X Y (ℓ R q₂) N₂ M
  h_N = h_is R X Y (I.N_below R q₂ g₂ (r1₂))

  h_N' : Homogenized R X Y (ℓ R q₂) (∂ R N₂) M₁
  h_N' = h_is R X Y (derived (ℓ R q₂) N₂ h_N.below)

  -- the second domain's coefficients are the first codomain's
  h_A : Homogenized R X Y 0 (κ q₂.A) (κ q₁.Ã)
  h_A = h_right R X Y (ap κ (sym composable.A)) (h_const R X Y q₂.A)

  h_B : Homogenized R X Y 0 (κ q₂.B) (κ q₁.B̃)
  h_B = h_right R X Y (ap κ (sym composable.B)) (h_const R X Y q₂.B)

  h_f : Homogenized R X Y 3 (f R q₂) f₁
  unfolding f
  h_f =
      h_right R X Y
      (solve4 (Series R) (λ x g a b. x :^ 3 :+ g :^ 2 :* (g :^ 2 :* (a :* x)) :+ g :^ 2 :* (g :^ 2 :* (g :^ 2 :* b)))
      (λ x g a b. x :^ 3 :+ a :* x :* g :^ 4 :+ b :* g :^ 6) tt X g₁ (κ q₁.Ã) (κ q₁.B̃))
      (h_add R X Y (h_add R X Y (h_pow R X Y (h_ind R X Y) 3) (h_up R X Y (h_up R X Y (h_mul R X Y h_A (h_ind R X Y)))))
      (h_up R X Y (h_up R X Y (h_up R X Y h_B))))

  h_f' : Homogenized R X Y 2 (# 3 ⊗ x ^ 2 ⊕ κ q₂.A) f₁'
  h_f' =
      h_right R X Y (solve3 (Series R) (λ x g a. num 3 :* x :^ 2 :+ g :^ 2 :* (g :^ 2 :* a)) (λ x g a. num 3 :* x :^ 2 :+ a :* g :^ 4) tt X g₁ (κ q₁.Ã))
      (h_add R X Y (h_mul R X Y (h_cast R X Y 3) (h_pow R X Y (h_ind R X Y) 2)) (h_up R X Y (h_up R X Y h_A)))

  h_linear : Homogenized R X Y 1 (# (ℓ R q₂) ⊗ x ⊖ κ q₂.σ) (# (ℓ R q₂) ⊗ X ⊖ Y ⊗ κ q₂.σ)
  h_linear = h_add R X Y (h_mul R X Y (h_cast R X Y (ℓ R q₂)) (h_ind R X Y)) (h_neg R X Y (h_up R X Y (h_const R X Y q₂.σ)))

  -- R2's N₂, from its parts
  M_is : Y ⊗ (Y ⊗ M)
      ≡ Y ⊗ (Y ⊗ ((# (ℓ R q₂) ⊗ X ⊖ Y ⊗ κ q₂.σ) ⊗ e ^ 2)) ⊖ Y ⊗ (# 2 ⊗ f₁' ⊗ e ⊗ e₁)
      ⊖ # 4 ⊗ f₁ ⊗ (e ⊗ e₂ ⊖ e₁ ^ 2)
  unfolding N
  M_is =
      h_same R X Y refl (h_degree R X Y (omega arith) (h_up R X Y (h_up R X Y h_N)))
      (h_add R X Y (h_add R X Y
      (h_degree R X Y degree (h_up R X Y (h_up R X Y (h_mul R X Y h_linear (h_pow R X Y h_g 2)))))
      (h_neg R X Y (h_degree R X Y (omega arith) (h_up R X Y (h_mul R X Y (h_mul R X Y (h_mul R X Y (h_cast R X Y 2) h_f') h_g) h_g')))))
      (h_neg R X Y (h_degree R X Y (omega arith) (h_mul R X Y (h_mul R X Y (h_cast R X Y 4) h_f)
      (h_add R X Y (h_degree R X Y (omega arith) (h_mul R X Y h_g h_g'')) (h_neg R X Y (h_pow R X Y h_g' 2)))))))
    where
      degree : suc (suc (1 + 2 * q₂.d)) ≡ suc (suc (ℓ R q₂))
      degree = omega arith

  -- ── the chain rule, for Y = g₁²

  chain : (n : ℕ) (P : Seq R) → Below R (suc n) P
      → g₁ ^ 4 ⊗ ∂ R (homogenize R X Y n P) ≡ g₁ ⊗ w ⊗ homogenize R X Y n (∂ R P) ⊕ # 2 ⊗ # n ⊗ g₁ ^ 3 ⊗ ∂ R g₁ ⊗ homogenize R X Y n P
  unfolding W
  chain n P h =
      solve2 (Series R) (λ g y. g :^ 4 :* y) (λ g y. (g :^ 2) :^ 2 :* y) tt g₁ (∂ R (homogenize R X Y n P))
      ∙ Sub.chain R X Y n P h
      ∙ ap (λ y. (∂ R X ⊗ Y ⊖ X ⊗ y) ⊗ homogenize R X Y n (∂ R P) ⊕ # n ⊗ Y ⊗ y ⊗ homogenize R X Y n P)
      (derive (Series R) (Formal R) (g₁ ∷ ∂ R g₁ ∷ []) (var 1 ∷ []) (refl, tt) (var 0 :^ 2) (num 2 :* var 0 :* var 1) tt tt)
      ∙ solve7 (Series R)
      (λ x x' g g' a b n. (x' :* g :^ 2 :- x :* (num 2 :* g :* g')) :* a :+ n :* g :^ 2 :* (num 2 :* g :* g') :* b)
      (λ x x' g g' a b n. g :* (x' :* g :- num 2 :* x :* g') :* a :+ num 2 :* n :* g :^ 3 :* g' :* b) tt
      X (∂ R X) g₁ (∂ R g₁) (homogenize R X Y n (∂ R P)) (homogenize R X Y n P) (# n)

  -- ── R2

  cast_ℓ₂ : # (ℓ R q₂) ≡ # 2 ⊗ # q₂.d ⊕ 𝟙
  cast_ℓ₂ = cast_add (Series R) (2 * q₂.d) 1 ∙ ap₂ ◌⊕◌ (cast_mul (Series R) 2 q₂.d) (cast_one (Series R))

  linear : # (ℓ R q) ⊗ x ⊖ κ q.σ ≡ (# 2 ⊗ # q₂.d ⊕ 𝟙) ⊗ (# (ℓ R q₁) ⊗ x ⊖ κ q₁.σ) ⊖ κ q₂.σ
  linear =
      ap₂ (λ m s. m ⊗ x ⊖ s)
      (ap #◌ (sym (composite_degree R q₁ q₂)) ∙ cast_mul (Series R) (ℓ R q₂) (ℓ R q₁))
      (sym (const_add R q₂.σ _)
      ∙ ap (λ y. κ q₂.σ ⊕ y) (sym (const_mul R (cast R (ℓ R q₂)) q₁.σ) ∙ ap (λ y. y ⊗ κ q₁.σ) (sym (cast_series R (ℓ R q₂)))))
      ∙ solve5 (Series R) (λ l m x s r. l :* m :* x :- (r :+ l :* s)) (λ l m x s r. l :* (m :* x :- s) :- r) tt
      (# (ℓ R q₂)) (# (ℓ R q₁)) x (κ q₁.σ) (κ q₂.σ)
      ∙ ap (λ l. l ⊗ (# (ℓ R q₁) ⊗ x ⊖ κ q₁.σ) ⊖ κ q₂.σ) cast_ℓ₂

  -- f W₁² = N₁³ + A₁ N₁ g₁⁴ + B₁ g₁⁶
  first_R3 : f R q₁ ⊗ w ^ 2 ≡ f₁
  unfolding left right
  first_R3 = fun_ext meets₁.r3

  cleared_M : g₁ ^ 4 ⊗ (g₁ ^ 4 ⊗ ((# 2 ⊗ # q₂.d ⊕ 𝟙) ⊗ X ⊖ κ q₂.σ ⊗ g₁ ^ 2) ⊗ e ^ 2
      ⊖ # 2 ⊗ g₁ ^ 2 ⊗ f₁' ⊗ e ⊗ e₁
      ⊖ # 4 ⊗ f₁ ⊗ (e ⊗ e₂ ⊖ e₁ ^ 2))
      ≡ g₁ ^ 8 ⊗ M
  cleared_M =
      ap (λ m. g₁ ^ 4 ⊗ (g₁ ^ 4 ⊗ (m ⊗ X ⊖ κ q₂.σ ⊗ g₁ ^ 2) ⊗ e ^ 2 ⊖ # 2 ⊗ g₁ ^ 2 ⊗ f₁' ⊗ e ⊗ e₁ ⊖ # 4 ⊗ f₁ ⊗ (e ⊗ e₂ ⊖ e₁ ^ 2))) (sym cast_ℓ₂)
      ∙ ring (Series R) (at (Series R) (g₁ ∷ # (ℓ R q₂) ∷ X ∷ κ q₂.σ ∷ e ∷ e₁ ∷ e₂ ∷ f₁' ∷ f₁ ∷ []))
      (:g :^ 4 :* (:g :^ 4 :* (:m :* :x :- :s :* :g :^ 2) :* :e :^ 2 :- num 2 :* :g :^ 2 :* :a :* :e :* :e₁ :- num 4 :* :b :* (:e :* :e₂ :- :e₁ :^ 2)))
      (:g :^ 4 :* (:g :^ 2 :* (:g :^ 2 :* ((:m :* :x :- :g :^ 2 :* :s) :* :e :^ 2)) :- :g :^ 2 :* (num 2 :* :a :* :e :* :e₁)
      :- num 4 :* :b :* (:e :* :e₂ :- :e₁ :^ 2))) tt
      ∙ ap (λ y. g₁ ^ 4 ⊗ y) (sym M_is) ∙ solve2 (Series R) (λ g m. g :^ 4 :* (g :^ 2 :* (g :^ 2 :* m))) (λ g m. g :^ 8 :* m) tt g₁ M
    where
      :g : Ex
      :g = var 0

      :m : Ex
      :m = var 1

      :x : Ex
      :x = var 2

      :s : Ex
      :s = var 3

      :e : Ex
      :e = var 4

      :e₁ : Ex
      :e₁ = var 5

      :e₂ : Ex
      :e₂ = var 6

      :a : Ex
      :a = var 7

      :b : Ex
      :b = var 8

  cleared_N : g₁ ^ 8 ⊗ N R q g ≡ g₁ ^ 8 ⊗ M
  unfolding N W composite_g f
  cleared_N =
      Product.numerator (Series R) (Formal R) (# q₂.d) g₁ e e₁ e₂ w (f R q₁) (f' R q₁) (# (ℓ R q₁) ⊗ x ⊖ κ q₁.σ) (κ q₂.σ)
      (d_cast (Series R) (Formal R) q₂.d) (chain q₂.d g₂ h_g.below) (chain q₂.d (∂ R g₂) h_g'.below) _ linear
      ∙ ap₂ (λ a b. g₁ ^ 4 ⊗ (g₁ ^ 4 ⊗ ((# 2 ⊗ # q₂.d ⊕ 𝟙) ⊗ X ⊖ κ q₂.σ ⊗ g₁ ^ 2) ⊗ e ^ 2
      ⊖ # 2 ⊗ g₁ ^ 2 ⊗ a ⊗ e ⊗ e₁ ⊖ # 4 ⊗ b ⊗ (e ⊗ e₂ ⊖ e₁ ^ 2))) (Second.tangent R q₁ d₁≥1 g₁ meets₁) first_R3
      ∙ cleared_M

  r1 : R1 R q g
  r1 = composite_R1 R q₁ q₂ d₁≥1 d₂≥1 g₁ g₂ meets₁.r1 r1₂

  poly_g₁ : Poly R g₁
  poly_g₁ = (suc q₁.d, meets₁.r1.degree)

  poly_pullback : (n : ℕ) (P : Seq R) → Poly R (pullback R q₁ g₁ n P)
  poly_pullback = homogenize_poly R X Y (suc (ℓ R q₁), I.N_below R q₁ g₁ meets₁.r1) (poly_pow R g₁ poly_g₁ 2)

  -- g₁ has leading coefficient 1
  cancel : (k : ℕ) (a b : Seq R) → Poly R a → Poly R b → g₁ ^ k ⊗ a ≡ g₁ ^ k ⊗ b → a ≡ b
  cancel k a b pa pb =
      regular_cancel R (g₁ ^ k) a b (regular_pow R g₁ poly_g₁ (leading_regular R q₁.d g₁ (leading R q₁.d g₁ monic)) k) pa pb
    where
      monic : Monic R q₁.d g₁
      monic = record { below = meets₁.r1.degree; one = meets₁.r1.leading }

  -- the N of R2 is N₂ at N₁ / g₁², cleared by g₁^(2 ℓ₂)
  pub composite_N : N R q g ≡ pullback R q₁ g₁ (ℓ R q₂) (N R q₂ g₂)
  composite_N = cancel 8 (N R q g) M (suc (ℓ R q), I.N_below R q g r1) (poly_pullback (ℓ R q₂) N₂) cleared_N

  -- ── W = N' g − 2 N g'

  abbrev W₂ : Seq R
  W₂ = W R q₂ g₂ N₂

  abbrev Z : Seq R
  Z = homogenize R X Y (3 * q₂.d) W₂

  h_W : Homogenized R X Y (3 * q₂.d) W₂ Z
  h_W = h_is R X Y (Degrees.W_below R q₂ g₂ N₂ r1₂.degree h_N.below)

  W_is : Y ⊗ Z ≡ M₁ ⊗ e ⊖ # 2 ⊗ M ⊗ e₁
  unfolding W
  W_is =
      h_same R X Y refl (h_degree R X Y degree (h_up R X Y h_W))
      (h_add R X Y (h_mul R X Y h_N' h_g) (h_neg R X Y (h_degree R X Y (omega arith) (h_mul R X Y (h_mul R X Y (h_cast R X Y 2) h_N) h_g'))))
    where
      degree : suc (3 * q₂.d) ≡ ℓ R q₂ + q₂.d
      degree = omega arith

  cleared_W : g₁ ^ 4 ⊗ W R q g M ≡ g₁ ^ 4 ⊗ (w ⊗ Z)
  unfolding W composite_g
  cleared_W =
      Product.tangent (Series R) (Formal R) (# q₂.d) g₁ e e₁ e₂ w 𝟘 𝟘 𝟘 𝟘
      (d_cast (Series R) (Formal R) q₂.d) (chain q₂.d g₂ h_g.below) (chain q₂.d (∂ R g₂) h_g'.below) M M₁
      (chain (ℓ R q₂) N₂ h_N.below ∙ ap (λ l. g₁ ⊗ w ⊗ M₁ ⊕ # 2 ⊗ l ⊗ g₁ ^ 3 ⊗ ∂ R g₁ ⊗ M) cast_ℓ₂)
      ∙ ap (λ y. g₁ ^ 2 ⊗ w ⊗ y) (sym W_is)
      ∙ solve3 (Series R) (λ g w z. g :^ 2 :* w :* (g :^ 2 :* z)) (λ g w z. g :^ 4 :* (w :* z)) tt g₁ w Z

  -- it is the first map's times the second's at N₁ / g₁², cleared by g₁^(6 d₂)
  pub composite_W : W R q g (N R q g) ≡ W R q₁ g₁ (N R q₁ g₁) ⊗ pullback R q₁ g₁ (3 * q₂.d) (W R q₂ g₂ (N R q₂ g₂))
  composite_W =
      cancel 4 (W R q g (N R q g)) (w ⊗ Z) (suc (3 * q.d), Degrees.W_below R q g (N R q g) r1.degree (I.N_below R q g r1))
      (poly_mul R w Z (suc (3 * q₁.d), Degrees.W_below R q₁ g₁ X meets₁.r1.degree (I.N_below R q₁ g₁ meets₁.r1)) (poly_pullback (3 * q₂.d) W₂))
      (ap (λ n. g₁ ^ 4 ⊗ W R q g n) composite_N ∙ cleared_W)

  -- ── R3

  -- that of the second map, at N₁ / g₁²
  second_R3 : R3 R q₂ g₂ N₂
      → f₁ ⊗ Z ^ 2 ≡ M ^ 3 ⊕ Y ⊗ (Y ⊗ (κ q₂.Ã ⊗ M ⊗ e ^ 4)) ⊕ Y ⊗ (Y ⊗ (Y ⊗ (κ q₂.B̃ ⊗ e ^ 6)))
  unfolding left right
  second_R3 r3 =
      h_same R X Y (fun_ext r3)
      (h_degree R X Y (omega arith) (h_mul R X Y h_f (h_pow R X Y h_W 2)))
      (h_add R X Y
      (h_add R X Y (h_pow R X Y h_N 3)
      (h_degree R X Y (omega arith) (h_up R X Y (h_up R X Y (h_mul R X Y (h_mul R X Y (h_const R X Y q₂.Ã) h_N) (h_pow R X Y h_g 4))))))
      (h_degree R X Y (omega arith) (h_up R X Y (h_up R X Y (h_up R X Y (h_mul R X Y (h_const R X Y q₂.B̃) (h_pow R X Y h_g 6)))))))

  composite_R3 : R3 R q₂ g₂ N₂ → left R q g (N R q g) ≡ right R q g (N R q g)
  unfolding left right composite_g f
  composite_R3 r3 =
      ap (λ y. f R q₁ ⊗ y ^ 2) composite_W
      ∙ solve3 (Series R) (λ f w z. f :* (w :* z) :^ 2) (λ f w z. f :* w :^ 2 :* z :^ 2) tt (f R q₁) w Z
      ∙ ap (λ y. y ⊗ Z ^ 2) first_R3 ∙ second_R3 r3
      ∙ solve5 (Series R)
      (λ g m e a b. m :^ 3 :+ g :^ 2 :* (g :^ 2 :* (a :* m :* e :^ 4)) :+ g :^ 2 :* (g :^ 2 :* (g :^ 2 :* (b :* e :^ 6))))
      (λ g m e a b. m :^ 3 :+ a :* m :* (g :* e) :^ 4 :+ b :* (g :* e) :^ 6) tt g₁ M e (κ q₂.Ã) (κ q₂.B̃)
      ∙ ap (λ n. n ^ 3 ⊕ κ q₂.Ã ⊗ n ⊗ g ^ 4 ⊕ κ q₂.B̃ ⊗ g ^ 6) (sym composite_N)

  -- ── the theorem

  pub composite_meets : Meets R q₂ g₂ → Meets R (composite R q₁ q₂) (composite_g R q₁ q₂.d g₁ g₂)
  composite_meets meets₂ = record { r1 = r1; r3 = λ i. ap (λ s. s i) (composite_R3 meets₂.r3) }
