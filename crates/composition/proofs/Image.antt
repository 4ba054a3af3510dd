-- The composite at a point u, where u' = N₁(u) / g₁(u)²: g(u) = g₁(u)^ℓ₂ g₂(u'), and N(u) and (N'g − 2Ng')(u) in the same way. So, over a field, the image
-- under the composite is the image of the image, and a point is in the kernel exactly when it, or its image, is in one of the two.
-- Assumes nothing.
use Rattle.std.specs.Prelude.{◌↔◌, ◌⊎◌, ◌≢◌, ◌≡◌, ℕ, zero, suc, ◌+◌, ◌*◌, ◌≤◌}
use Rattle.std.proofs.Common.{inl, inr, ◌∙◌, arith}
use Rattle.std.proofs.Math.Path.{refl, sym, ap}
use Rattle.std.proofs.Math.Nat as Nat
use Rattle.ring.specs.Ring
use Rattle.ring.specs.Ring.{CRing, pow, pow-zero, pow-suc}
use Rattle.ring.specs.Field.{Field, unit_cancel, product}
use Rattle.ring.specs.Identity.{solve2, solve3, solve4}
use Rattle.ring.specs.Identity.Ex.{:1, ◌:*◌, ◌:^◌}
use Rattle.series.specs.Series.{Series, Seq}
use Rattle.series.specs.Degree.{Poly, poly_pow}
use Rattle.series.specs.Value as Value
use Rattle.series.specs.Value.{at_same, at_mul, at_pow}
use Rattle.isogeny.specs.Rules.{Question, R1, Meets, ℓ, N, W, g_at, N_at, W_at, Image}
use Rattle.isogeny.proofs.Degrees.{W_below}
use Rattle.isogeny.proofs.Infinity.{N_below}
use Rattle.isogeny.proofs.Image as I
use Rattle.composition.specs.SubstitutionAt.{homogenize_poly, homogenize_at}
use Rattle.composition.specs.Composite.{Composable, composite, composite_g, pullback}
use Rattle.composition.proofs.Leading.{composite_R1}
use Rattle.composition.proofs.Rules.{composite_N, composite_W}

module _ (R : CRing) where
  open R use {Car, 𝟘, mul as ◌⊗◌, mul_assoc}

  infixl 70 ◌⊗◌
  infixr 75 ◌^◌
  abbrev ◌^◌ : Car → ℕ → Car
  a ^ n = pow R a n

  pow-add : (a : Car) (m n : ℕ) → a ^ (m + n) ≡ a ^ m ⊗ a ^ n
  pow-add a zero n = ap (λ k. a ^ k) (Nat.zero-add n) ∙ sym (ap (λ y. y ⊗ a ^ n) (pow-zero R a) ∙ Ring.one-mul R _)
  pow-add a (suc m) n =
      ap (λ k. a ^ k) (Nat.suc-add m n) ∙ pow-suc R a (m + n) ∙ ap (λ y. a ⊗ y) (pow-add a m n) ∙ sym (mul_assoc a (a ^ m) (a ^ n))
      ∙ ap (λ y. y ⊗ a ^ n) (sym (pow-suc R a m))

  pow_square : (a : Car) (n : ℕ) → (a ^ 2) ^ n ≡ (a ^ n) ^ 2
  pow_square a zero = pow-zero R (a ^ 2) ∙ solve2 R (λ x y. :1) (λ x y. (x :^ 0) :^ 2) tt a 𝟘
  pow_square a (suc n) =
      pow-suc R (a ^ 2) n ∙ ap (λ y. a ^ 2 ⊗ y) (pow_square a n) ∙ solve2 R (λ a x. a :^ 2 :* x :^ 2) (λ a x. (a :* x) :^ 2) tt a (a ^ n)
      ∙ ap (λ y. y ^ 2) (sym (pow-suc R a n))

  pow_twice : (a : Car) (n : ℕ) → a ^ (2 * n + 1) ≡ a ⊗ (a ^ n) ^ 2
  pow_twice a n =
      ap (λ k. a ^ k) (omega arith) ∙ pow-suc R a (n + n) ∙ ap (λ y. a ⊗ y) (pow-add a n n) ∙ solve2 R (λ a x. a :* (x :* x)) (λ a x. a :* x :^ 2) tt a (a ^ n)

  pow_thrice : (a : Car) (n : ℕ) → a ^ (3 * n) ≡ (a ^ n) ^ 3
  pow_thrice a n =
      ap (λ k. a ^ k) (omega arith) ∙ pow-add a n (n + n) ∙ ap (λ y. a ^ n ⊗ y) (pow-add a n n)
      ∙ solve2 R (λ a x. x :* (x :* x)) (λ a x. x :^ 3) tt a (a ^ n)

  module _ (q₁ q₂ : Question R) (d₁≥1 : 1 ≤ q₁.d) (d₂≥1 : 1 ≤ q₂.d) (composable : Composable R q₁ q₂)
      (g₁ g₂ : Seq R) (meets₁ : Meets R q₁ g₁) (r1₂ : R1 R q₂ g₂) where
    abbrev q : Question R
    q = composite R q₁ q₂

    abbrev g : Seq R
    g = composite_g R q₁ q₂.d g₁ g₂

    abbrev N₁ : Seq R
    N₁ = N R q₁ g₁

    abbrev N₂ : Seq R
    N₂ = N R q₂ g₂

    r1 : R1 R q g
    r1 = composite_R1 R q₁ q₂ d₁≥1 d₂≥1 g₁ g₂ meets₁.r1 r1₂

    abbrev poly_g₁ : Poly R g₁
    poly_g₁ = (suc q₁.d, meets₁.r1.degree)

    abbrev poly_N₁ : Poly R N₁
    poly_N₁ = (suc (ℓ R q₁), N_below R q₁ g₁ meets₁.r1)

    abbrev poly_W₁ : Poly R (W R q₁ g₁ N₁)
    poly_W₁ = (suc (3 * q₁.d), W_below R q₁ g₁ N₁ meets₁.r1.degree (N_below R q₁ g₁ meets₁.r1))

    poly_pullback : (n : ℕ) (P : Seq R) → Poly R (pullback R q₁ g₁ n P)
    poly_pullback = homogenize_poly R N₁ (pow (Series R) g₁ 2) poly_N₁ (poly_pow R g₁ poly_g₁ 2)

    abbrev poly_g : Poly R g
    poly_g = (suc q.d, r1.degree)

    abbrev poly_N : Poly R (N R q g)
    poly_N = (suc (ℓ R q), N_below R q g r1)

    abbrev poly_W : Poly R (W R q g (N R q g))
    poly_W = (suc (3 * q.d), W_below R q g (N R q g) r1.degree (N_below R q g r1))

    module _ (u : Car) where
      -- g₁(u), and its power d₂
      abbrev γ : Car
      γ = g_at R q₁ g₁ u

      abbrev c : Car
      c = γ ^ q₂.d

      -- g(u) = 0 where g₁(u) = 0
      first_factor : γ ≡ 𝟘 → g_at R q g u ≡ 𝟘
      unfolding composite_g
      first_factor e =
          at_mul R g₁ (pullback R q₁ g₁ q₂.d g₂) g poly_g₁ (poly_pullback q₂.d g₂) poly_g u refl
          ∙ ap (λ y. y ⊗ Value.at R (pullback R q₁ g₁ q₂.d g₂) (poly_pullback q₂.d g₂) u) e ∙ Ring.zero-mul R _

      module _ (u' : Car) (goes : u' ⊗ γ ^ 2 ≡ N_at R q₁ N₁ u) where
        pullback_at : (n : ℕ) (P : Seq R) → Value.at R (pullback R q₁ g₁ n P) (poly_pullback n P) u ≡ (γ ^ 2) ^ n ⊗ Value.value R (suc n) P u'
        pullback_at n P =
            homogenize_at R N₁ (pow (Series R) g₁ 2) poly_N₁ (poly_pow R g₁ poly_g₁ 2) u u' (ap (λ y. u' ⊗ y) square ∙ goes) n P (poly_pullback n P)
            ∙ ap (λ y. y ^ n ⊗ Value.value R (suc n) P u') square
          where
            square : Value.at R (pow (Series R) g₁ 2) (poly_pow R g₁ poly_g₁ 2) u ≡ γ ^ 2
            square = at_pow R g₁ poly_g₁ 2 (poly_pow R g₁ poly_g₁ 2) u

        g_is : g_at R q g u ≡ γ ⊗ c ^ 2 ⊗ g_at R q₂ g₂ u'
        unfolding composite_g
        g_is =
            at_mul R g₁ (pullback R q₁ g₁ q₂.d g₂) g poly_g₁ (poly_pullback q₂.d g₂) poly_g u refl
            ∙ ap (λ y. γ ⊗ y) (pullback_at q₂.d g₂ ∙ ap (λ y. y ⊗ g_at R q₂ g₂ u') (pow_square γ q₂.d)) ∙ sym (mul_assoc _ _ _)

        -- g(u) = g₁(u)^ℓ₂ g₂(u')
        pub composite_at : g_at R q g u ≡ γ ^ ℓ R q₂ ⊗ g_at R q₂ g₂ u'
        composite_at = g_is ∙ ap (λ y. y ⊗ g_at R q₂ g₂ u') (sym (pow_twice γ q₂.d))

        N_is : N_at R q (N R q g) u ≡ (γ ⊗ c ^ 2) ^ 2 ⊗ N_at R q₂ N₂ u'
        N_is =
            at_same R (N R q g) (pullback R q₁ g₁ (ℓ R q₂) N₂) poly_N (poly_pullback (ℓ R q₂) N₂) u
            (composite_N R q₁ q₂ d₁≥1 d₂≥1 composable g₁ g₂ meets₁ r1₂)
            ∙ pullback_at (ℓ R q₂) N₂
            ∙ ap (λ y. y ⊗ N_at R q₂ N₂ u') (pow_square γ (ℓ R q₂) ∙ ap (λ y. y ^ 2) (pow_twice γ q₂.d))

        W_is : W_at R q g (N R q g) u ≡ W_at R q₁ g₁ N₁ u ⊗ (c ^ 2) ^ 3 ⊗ W_at R q₂ g₂ N₂ u'
        W_is =
            at_mul R (W R q₁ g₁ N₁) (pullback R q₁ g₁ (3 * q₂.d) (W R q₂ g₂ N₂)) (W R q g (N R q g))
            poly_W₁ (poly_pullback (3 * q₂.d) (W R q₂ g₂ N₂)) poly_W u (sym (composite_W R q₁ q₂ d₁≥1 d₂≥1 composable g₁ g₂ meets₁ r1₂))
            ∙ ap (λ y. W_at R q₁ g₁ N₁ u ⊗ y)
            (pullback_at (3 * q₂.d) (W R q₂ g₂ N₂)
            ∙ ap (λ y. y ⊗ W_at R q₂ g₂ N₂ u') (pow_thrice (γ ^ 2) q₂.d ∙ ap (λ y. y ^ 3) (pow_square γ q₂.d)))
            ∙ sym (mul_assoc _ _ _)

      -- ── over a field

      module _ (F : Field R) where
        nonzero_pow : (a : Car) → a ≢ 𝟘 → (n : ℕ) → a ^ n ≢ 𝟘
        nonzero_pow a h zero e = F.apart (sym (pow-zero R a) ∙ e)
        nonzero_pow a h (suc n) e = product R F a (a ^ n) h (nonzero_pow a h n) (sym (pow-suc R a n) ∙ e)

        nonzero : (u' : Car) → u' ⊗ γ ^ 2 ≡ N_at R q₁ N₁ u → γ ≢ 𝟘 → g_at R q₂ g₂ u' ≢ 𝟘 → g_at R q g u ≢ 𝟘
        nonzero u' goes h h' e = product R F (γ ^ ℓ R q₂) (g_at R q₂ g₂ u') (nonzero_pow γ h (ℓ R q₂)) h' (sym (composite_at u' goes) ∙ e)

        second_factor : (u' : Car) → u' ⊗ γ ^ 2 ≡ N_at R q₁ N₁ u → g_at R q₂ g₂ u' ≡ 𝟘 → g_at R q g u ≡ 𝟘
        second_factor u' goes e = composite_at u' goes ∙ ap (λ y. γ ^ ℓ R q₂ ⊗ y) e ∙ Ring.mul-zero R _

        -- the image of the image is the image
        pub image_of_image : (v u' v' u'' v'' : Car) → Image R q₁ g₁ N₁ u v u' v' → Image R q₂ g₂ N₂ u' v' u'' v'' → Image R q g (N R q g) u v u'' v''
        image_of_image v u' v' u'' v'' a b = record {
          defined = nonzero u' a.abscissa a.defined b.defined;
          abscissa =
              ap (λ y. u'' ⊗ y ^ 2) (g_is u' a.abscissa)
              ∙ solve3 R (λ x m y. x :* (m :* y) :^ 2) (λ x m y. m :^ 2 :* (x :* y :^ 2)) tt u'' (γ ⊗ c ^ 2) (g_at R q₂ g₂ u')
              ∙ ap (λ y. (γ ⊗ c ^ 2) ^ 2 ⊗ y) b.abscissa ∙ sym (N_is u' a.abscissa);
          ordinate =
              ap (λ y. v'' ⊗ y ^ 3) (g_is u' a.abscissa)
              ∙ solve4 R (λ x g c y. x :* (g :* c :^ 2 :* y) :^ 3) (λ x g c y. g :^ 3 :* (c :^ 2) :^ 3 :* (x :* y :^ 3)) tt v'' γ c (g_at R q₂ g₂ u')
              ∙ ap (λ y. γ ^ 3 ⊗ (c ^ 2) ^ 3 ⊗ y) b.ordinate
              ∙ solve4 R (λ g c x w. g :^ 3 :* (c :^ 2) :^ 3 :* (x :* w)) (λ g c x w. x :* g :^ 3 :* (c :^ 2) :^ 3 :* w) tt γ c v' (W_at R q₂ g₂ N₂ u')
              ∙ ap (λ y. y ⊗ (c ^ 2) ^ 3 ⊗ W_at R q₂ g₂ N₂ u') a.ordinate
              ∙ solve4 R (λ v w c z. v :* w :* (c :^ 2) :^ 3 :* z) (λ v w c z. v :* (w :* (c :^ 2) :^ 3 :* z)) tt v (W_at R q₁ g₁ N₁ u) c (W_at R q₂ g₂ N₂ u')
              ∙ ap (λ y. v ⊗ y) (sym (W_is u' a.abscissa));
        }

        -- and every image is one
        pub image_is_image : (v u'' v'' : Car) → Image R q g (N R q g) u v u'' v''
            → (u' : Car) × (v' : Car) × Image R q₁ g₁ N₁ u v u' v' × Image R q₂ g₂ N₂ u' v' u'' v''
        image_is_image v u'' v'' a = go (I.image_exists R q₁ g₁ N₁ meets₁.r1.degree (N_below R q₁ g₁ meets₁.r1) u (F.invert γ γ≢0) γ≢0 v)
          where
            γ≢0 : γ ≢ 𝟘
            γ≢0 e = a.defined (first_factor e)

            go : (u' : Car) × (v' : Car) × Image R q₁ g₁ N₁ u v u' v'
                → (u' : Car) × (v' : Car) × Image R q₁ g₁ N₁ u v u' v' × Image R q₂ g₂ N₂ u' v' u'' v''
            go (u', v', b) = (u', v', b, again (I.image_exists R q₂ g₂ N₂ r1₂.degree (N_below R q₂ g₂ r1₂) u' (F.invert _ h) h v'))
              where
                h : g_at R q₂ g₂ u' ≢ 𝟘
                h e = a.defined (second_factor u' b.abscissa e)

                again : (u''' : Car) × (v''' : Car) × Image R q₂ g₂ N₂ u' v' u''' v''' → Image R q₂ g₂ N₂ u' v' u'' v''
                again (u''', v''', i) = record {
                  defined = i.defined;
                  abscissa = ap (λ y. y ⊗ pow R (g_at R q₂ g₂ u') 2) same.0 ∙ i.abscissa;
                  ordinate = ap (λ y. y ⊗ pow R (g_at R q₂ g₂ u') 3) same.1 ∙ i.ordinate;
                }
                  where
                    same : (u'' ≡ u''') × (v'' ≡ v''')
                    same =
                        I.image_unique R q g (N R q g) r1.degree (N_below R q g r1) u (F.invert _ a.defined) v u'' v'' u''' v''' a
                        (image_of_image v u' v' u''' v''' b i)

        -- g(u) = 0 exactly when g₁(u) = 0 or g₂(u') = 0
        pub kernel : (g_at R q g u ≡ 𝟘) ↔ ((g_at R q₁ g₁ u ≡ 𝟘) ⊎ ((u' : Car) × (u' ⊗ γ ^ 2 ≡ N_at R q₁ N₁ u) × (g_at R q₂ g₂ u' ≡ 𝟘)))
        kernel = (from, back)
          where
            from : g_at R q g u ≡ 𝟘 → (g_at R q₁ g₁ u ≡ 𝟘) ⊎ ((u' : Car) × (u' ⊗ γ ^ 2 ≡ N_at R q₁ N₁ u) × (g_at R q₂ g₂ u' ≡ 𝟘))
            from e = go (F.zero? γ)
              where
                go : Dec (γ ≡ 𝟘) → (g_at R q₁ g₁ u ≡ 𝟘) ⊎ ((u' : Car) × (u' ⊗ γ ^ 2 ≡ N_at R q₁ N₁ u) × (g_at R q₂ g₂ u' ≡ 𝟘))
                go (yes z) = inl z
                go (no h) =
                    let i : (u' : Car) × (v' : Car) × Image R q₁ g₁ N₁ u 𝟘 u' v' =
                    I.image_exists R q₁ g₁ N₁ meets₁.r1.degree (N_below R q₁ g₁ meets₁.r1) u (F.invert γ h) h 𝟘 in
                    inr (
                      i.0,
                      i.2.abscissa,
                      unit_cancel R (γ ^ ℓ R q₂) (g_at R q₂ g₂ i.0) (F.invert _ (nonzero_pow γ h (ℓ R q₂)))
                          (sym (composite_at i.0 i.2.abscissa) ∙ e),
                    )

            back : (g_at R q₁ g₁ u ≡ 𝟘) ⊎ ((u' : Car) × (u' ⊗ γ ^ 2 ≡ N_at R q₁ N₁ u) × (g_at R q₂ g₂ u' ≡ 𝟘)) → g_at R q g u ≡ 𝟘
            back (inl e) = first_factor e
            back (inr (u', goes, e)) = second_factor u' goes e
