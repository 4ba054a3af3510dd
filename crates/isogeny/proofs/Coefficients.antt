-- The coefficients of products with f and 3 x² + A reversed, and those of N / (x g²) as a series in 1/x: document 01's h_i in the power sums s.
-- Assumes nothing.
use Rattle.std.specs.Prelude.{◌≡◌}
use Rattle.std.proofs.Common.{sym, ◌∙◌}
use Rattle.std.proofs.Math.Path.{ap, ap₂, fun_ext}
use Prim.Native.Nat.{ℕ, zero, suc, ◌+◌, ◌*◌}
use Rattle.ring.specs.Ring
use Rattle.ring.specs.Ring.{CRing, cast, cast_suc, cast_add, cast_mul}
use Rattle.ring.specs.Identity.{solve1, solve3, solve4, solve5, solve6}
use Rattle.ring.specs.Identity.Ex.{num, :0, :1, ◌:+◌, ◌:-◌, ◌:*◌, :-◌, ◌:^◌}
use Rattle.series.specs.Series.{Series, Seq, const, conv_const, D, D_at, head_then}
use Rattle.series.specs.Indeterminate.{ind, conv_ind, conv_cast, cast_series}
use Rattle.isogeny.specs.Rules.{Question, ℓ}
use Rattle.isogeny.proofs.Numerator.{quotient}
use Rattle.isogeny.proofs.Degrees.{F}
use Rattle.isogeny.proofs.Infinity.{quot, quad, lin}

module _ (R : CRing) where
  open Series R use {𝟙 as 1ₛ, add as ◌+ₛ◌, mul as ◌*ₛ◌, neg as -ₛ◌}
  open R use {Car, 𝟘, 𝟙, add as ◌⊕◌, mul as ◌⊗◌, neg}

  infixl 65 ◌⊕◌ ◌⊖◌ ◌+ₛ◌ ◌-ₛ◌
  infixl 70 ◌⊗◌ ◌*ₛ◌
  infix 80 #◌
  abbrev ◌⊖◌ : Car → Car → Car
  a ⊖ b = a ⊕ neg b

  abbrev ◌-ₛ◌ : Seq R → Seq R → Seq R
  a -ₛ b = a +ₛ -ₛ◌ b

  abbrev #◌ : ℕ → Car
  # n = cast R n

  abbrev κ : Car → Seq R
  κ c = const R c

  abbrev t : Seq R
  t = ind R

  -- ── numbers of R

  pub up2 : (j : ℕ) → # (suc (suc j)) ≡ # j ⊕ # 2
  up2 j = cast_suc R (suc j) ∙ ap (λ x. x ⊕ 𝟙) (cast_suc R j) ∙ solve1 R (λ x. x :+ :1 :+ :1) (λ x. x :+ num 2) tt (# j)

  pub up3 : (j : ℕ) → # (suc (suc (suc j))) ≡ # j ⊕ # 3
  up3 j = cast_suc R (suc (suc j)) ∙ ap (λ x. x ⊕ 𝟙) (up2 j) ∙ solve1 R (λ x. x :+ num 2 :+ :1) (λ x. x :+ num 3) tt (# j)

  pub up4 : (j : ℕ) → # (suc (suc (suc (suc j)))) ≡ # j ⊕ # 4
  up4 j = cast_suc R (suc (suc (suc j))) ∙ ap (λ x. x ⊕ 𝟙) (up3 j) ∙ solve1 R (λ x. x :+ num 3 :+ :1) (λ x. x :+ num 4) tt (# j)

  pub cast_twice : (j k : ℕ) → # (2 * j + k) ≡ # 2 ⊗ # j ⊕ # k
  cast_twice j k = cast_add R (2 * j) k ∙ ap (λ x. x ⊕ # k) (cast_mul R 2 j)

  -- ── coefficients of products with t, f and 3 x² + A

  -- t² a and t³ a
  abbrev pub t² : Seq R → Seq R
  t² a = head_then R 𝟘 (head_then R 𝟘 a)

  abbrev pub t³ : Seq R → Seq R
  t³ a = head_then R 𝟘 (t² a)

  pub t²_is : (a : Seq R) → t *ₛ (t *ₛ a) ≡ t² a
  t²_is a = conv_ind R (t *ₛ a) ∙ ap (head_then R 𝟘) (conv_ind R a)

  pub t³_is : (a : Seq R) → t *ₛ (t *ₛ (t *ₛ a)) ≡ t³ a
  t³_is a = conv_ind R (t *ₛ (t *ₛ a)) ∙ ap (head_then R 𝟘) (t²_is a)

  module _ (q : Question R) where
    open q use {A, B, Ã, B̃, d, σ}

    pub F_at : (a : Seq R) (i : ℕ) → (F R q *ₛ a) i ≡ a i ⊕ A ⊗ t² a i ⊕ B ⊗ t³ a i
    unfolding F
    F_at a i =
        ap (λ f. f i)
        (solve4 (Series R) (λ t a b y. (:1 :+ a :* t :^ 2 :+ b :* t :^ 3) :* y) (λ t a b y. y :+ a :* (t :* (t :* y)) :+ b :* (t :* (t :* (t :* y)))) tt
        t (κ A) (κ B) a
        ∙ ap₂ (λ y z. a +ₛ κ A *ₛ y +ₛ κ B *ₛ z) (t²_is a) (t³_is a))
        ∙ ap₂ (λ y z. a i ⊕ y ⊕ z) (conv_const R A (t² a) i) (conv_const R B (t³ a) i)

    pub quad_at : (a : Seq R) (i : ℕ) → (quad R q *ₛ a) i ≡ # 3 ⊗ a i ⊕ A ⊗ t² a i
    unfolding quad
    quad_at a i =
        ap (λ f. f i)
        (solve3 (Series R) (λ t a y. (num 3 :+ a :* t :^ 2) :* y) (λ t a y. num 3 :* y :+ a :* (t :* (t :* y))) tt t (κ A) a
        ∙ ap (λ y. cast (Series R) 3 *ₛ a +ₛ κ A *ₛ y) (t²_is a))
        ∙ ap₂ ◌⊕◌ (conv_cast R 3 a i) (conv_const R A (t² a) i)

    lin_at : (i : ℕ) → lin R q i ≡ head_then R (# (ℓ R q)) (κ (neg σ)) i
    unfolding lin
    lin_at i =
        ap (λ f. f i) (ap₂ ◌-ₛ◌ (cast_series R (ℓ R q)) (CRing.mul_comm (Series R) (κ σ) t ∙ conv_ind R (κ σ))) ∙ go i
      where
        go : (i : ℕ) → κ (# (ℓ R q)) i ⊖ head_then R 𝟘 (κ σ) i ≡ head_then R (# (ℓ R q)) (κ (neg σ)) i
        go zero = solve1 R (λ l. l :- :0) (λ l. l) tt _
        go (suc zero) = Ring.zero-add R (neg σ)
        go (suc (suc i)) = R.add-neg 𝟘

    -- ── the coefficients of N / (x g²)

    -- the terms of s + D s
    abbrev more : Seq R → Seq R
    more s i = s i ⊕ # i ⊗ s i

    u_at : (s : Seq R) (i : ℕ) → quot R q s i
        ≡ head_then R (# (ℓ R q)) (κ (neg σ)) i ⊖ (# 3 ⊗ s i ⊕ A ⊗ t² s i) ⊕ # 2 ⊗ (more s i ⊕ A ⊗ t² (more s) i ⊕ B ⊗ t³ (more s) i)
    unfolding quot quotient
    u_at s i =
        ap (λ f. f i)
        (solve5 (Series R) (λ l q s f y. l :- q :* s :+ num 2 :* f :* y) (λ l q s f y. l :- q :* s :+ num 2 :* (f :* y)) tt
        (lin R q) (quad R q) s (F R q) (s +ₛ D R s))
        ∙ ap₂ ◌⊕◌ (ap₂ ◌⊖◌ (lin_at i) (quad_at s i))
        (conv_cast R 2 (F R q *ₛ (s +ₛ D R s)) i
        ∙ ap (λ y. # 2 ⊗ y) (F_at (s +ₛ D R s) i ∙ ap (λ y. y i ⊕ A ⊗ t² y i ⊕ B ⊗ t³ y i) (fun_ext λ j. ap (λ x. s j ⊕ x) (D_at R s j))))

    pub u_zero : (s : Seq R) → quot R q s 0 ≡ # (ℓ R q) ⊖ s 0
    u_zero s =
        u_at s 0
        ∙ solve4 R (λ a b l s. l :- (num 3 :* s :+ a :* :0) :+ num 2 :* (s :+ num 0 :* s :+ a :* :0 :+ b :* :0)) (λ a b l s. l :- s) tt
        A B (# (ℓ R q)) (s 0)

    pub u_one : (s : Seq R) → quot R q s 1 ≡ s 1 ⊖ σ
    u_one s =
        u_at s 1
        ∙ solve4 R (λ a b m s. :- m :- (num 3 :* s :+ a :* :0) :+ num 2 :* (s :+ num 1 :* s :+ a :* :0 :+ b :* :0)) (λ a b m s. s :- m) tt
        A B σ (s 1)

    -- h₁
    pub u_two : (s : Seq R) → quot R q s 2 ≡ # 3 ⊗ s 2 ⊕ A ⊗ s 0
    u_two s =
        u_at s 2
        ∙ solve4 R (λ a b y z. :0 :- (num 3 :* y :+ a :* z) :+ num 2 :* (y :+ num 2 :* y :+ a :* (z :+ num 0 :* z) :+ b :* :0))
        (λ a b y z. num 3 :* y :+ a :* z) tt A B (s 2) (s 0)

    -- h_(j + 2)
    pub u_more : (s : Seq R) (j : ℕ) → quot R q s (suc (suc (suc j)))
        ≡ # (2 * j + 5) ⊗ s (suc (suc (suc j))) ⊕ # (2 * j + 3) ⊗ A ⊗ s (suc j) ⊕ # (2 * j + 2) ⊗ B ⊗ s j
    u_more s j =
        u_at s (suc (suc (suc j)))
        ∙ ap₂ (λ m n. 𝟘 ⊖ (# 3 ⊗ s3 ⊕ A ⊗ s1) ⊕ # 2 ⊗ (s3 ⊕ m ⊗ s3 ⊕ A ⊗ (s1 ⊕ n ⊗ s1) ⊕ B ⊗ (s j ⊕ # j ⊗ s j))) (up3 j) (cast_suc R j)
        ∙ solve6 R
        (λ j a b x y z. :0 :- (num 3 :* x :+ a :* y) :+ num 2 :* (x :+ (j :+ num 3) :* x :+ a :* (y :+ (j :+ :1) :* y) :+ b :* (z :+ j :* z)))
        (λ j a b x y z. (num 2 :* j :+ num 5) :* x :+ (num 2 :* j :+ num 3) :* a :* y :+ (num 2 :* j :+ num 2) :* b :* z) tt
        (# j) A B s3 s1 (s j)
        ∙ sym (ap₂ (λ x y. x ⊗ s3 ⊕ y ⊗ A ⊗ s1 ⊕ # (2 * j + 2) ⊗ B ⊗ s j) (cast_twice j 5) (cast_twice j 3)
        ∙ ap (λ x. (# 2 ⊗ # j ⊕ # 5) ⊗ s3 ⊕ (# 2 ⊗ # j ⊕ # 3) ⊗ A ⊗ s1 ⊕ x ⊗ B ⊗ s j) (cast_twice j 2))
      where
        s3 : Car
        s3 = s (suc (suc (suc j)))

        s1 : Car
        s1 = s (suc j)
