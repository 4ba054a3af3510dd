-- A polynomial P at X / Y, cleared of denominators: `homogenize n P` is the sum of P_i Xⁱ Y^(n − i), i from 0 to n, which is Yⁿ P(X / Y) where P has
-- degree at most n. Sums and products go through, and the derivative obeys the chain rule.
-- Assumes nothing.
use Rattle.std.specs.Prelude.{◌≡◌, [], ◌∷◌}
use Rattle.std.proofs.Common.{sym, ◌∙◌, ap, arith}
use Rattle.std.proofs.Math.Path.{ap₂, fun_ext}
use Prim.Native.Nat.{ℕ, zero, suc, ◌+◌, ◌-◌}
use Rattle.std.proofs.Math.Nat as Nat
use Rattle.ring.specs.Ring
use Rattle.ring.specs.Ring.{CRing, cast, cast_suc, pow, pow-suc}
use Rattle.ring.specs.Identity.{Ex, ring, at, solve1, solve2, solve3, solve4, solve5, solve6, solve8}
use Rattle.ring.specs.Identity.Ex.{var, num, :0, :1, ◌:+◌, ◌:-◌, ◌:*◌, ◌:^◌}
use Rattle.ring.specs.Derivation.{d_pow}
use Rattle.series.specs.Series as S
use Rattle.series.specs.Series.{Series, Seq, Formal, negs, scaled, zeros, tail, head_then, const, ∂, ∂-at, ∂-add, ∂-leibniz, sum}
use Rattle.series.specs.Degree.{Below}
use Rattle.series.specs.Indeterminate.{const_add, const_mul, ∂-const}

module _ (R : CRing) where
  open Series R use {𝟘, 𝟙, add as ◌⊕◌, mul as ◌⊗◌, neg}

  infixl 65 ◌⊕◌ ◌⊖◌
  infixl 70 ◌⊗◌
  infixr 75 ◌^◌
  infix 80 #◌
  abbrev ◌⊖◌ : Seq R → Seq R → Seq R
  a ⊖ b = a ⊕ neg b

  abbrev ◌^◌ : Seq R → ℕ → Seq R
  a ^ n = pow (Series R) a n

  abbrev #◌ : ℕ → Seq R
  # n = cast (Series R) n

  abbrev κ : R.Car → Seq R
  κ c = const R c

  κ_zero : κ R.𝟘 ≡ 𝟘
  κ_zero = fun_ext (S.const_null R)

  -- the derivative of c + x T is T + x T'
  ∂-split : (P : Seq R) → ∂ R P ≡ tail R P ⊕ head_then R R.𝟘 (∂ R (tail R P))
  ∂-split P = fun_ext go
    where
      go : (i : ℕ) → ∂ R P i ≡ R.add (P (suc i)) (head_then R R.𝟘 (∂ R (tail R P)) i)
      go zero = ∂-at R P 0 ∙ solve1 R (λ y. num 1 :* y) (λ y. y :+ :0) tt (P 1)
      go (suc i) =
          ∂-at R P (suc i)
          ∙ ap (λ k. R.mul k (P (suc (suc i)))) (cast_suc R (suc i))
          ∙ solve2 R (λ k y. (k :+ :1) :* y) (λ k y. y :+ k :* y) tt (cast R (suc i)) (P (suc (suc i)))
          ∙ ap (R.add (P (suc (suc i)))) (sym (∂-at R (tail R P) i))

  -- ── the substitution

  module _ (X Y : Seq R) where
    -- P₀ Yⁿ + P₁ X Y^(n − 1) + .. + P_n Xⁿ
    unfoldable pub homogenize : ℕ → Seq R → Seq R
    homogenize n P = sum (Series R) (λ i. κ (P i) ⊗ X ^ i ⊗ Y ^ (n - i)) (suc n)

    abbrev H : ℕ → Seq R → Seq R
    H n P = homogenize n P

    -- by recursion on the degree, from the constant term up
    pub homogenize_zero : (P : Seq R) → homogenize zero P ≡ κ (P 0)
    unfolding homogenize sum
    homogenize_zero P = solve3 (Series R) (λ p x y. :0 :+ p :* x :^ 0 :* y :^ 0) (λ p x y. p) tt (κ (P 0)) X Y

    pub homogenize_suc : (n : ℕ) (P : Seq R) → homogenize (suc n) P ≡ κ (P 0) ⊗ Y ^ suc n ⊕ X ⊗ homogenize n (tail R P)
    unfolding homogenize
    homogenize_suc n P =
        S.sum_first (Series R) (λ i. κ (P i) ⊗ X ^ i ⊗ Y ^ (suc n - i)) (suc n)
        ∙ ap₂ ◌⊕◌
        (ap (λ m. κ (P 0) ⊗ X ^ 0 ⊗ Y ^ m) (Nat.sub-zero (suc n))
        ∙ solve3 (Series R) (λ p x y. p :* x :^ 0 :* y) (λ p x y. p :* y) tt (κ (P 0)) X (Y ^ suc n))
        (ap (λ a. sum (Series R) a (suc n)) (fun_ext λ i. term i)
        ∙ S.sum_scaled (Series R) X (λ i. κ (P (suc i)) ⊗ X ^ i ⊗ Y ^ (n - i)) (suc n))
      where
        term : (i : ℕ) → κ (P (suc i)) ⊗ X ^ suc i ⊗ Y ^ (suc n - suc i) ≡ X ⊗ (κ (P (suc i)) ⊗ X ^ i ⊗ Y ^ (n - i))
        term i =
            ap₂ (λ z m. κ (P (suc i)) ⊗ z ⊗ Y ^ m) (pow-suc (Series R) X i) (Nat.suc-sub-suc n i)
            ∙ solve4 (Series R) (λ x p z y. p :* (x :* z) :* y) (λ x p z y. x :* (p :* z :* y)) tt X (κ (P (suc i))) (X ^ i) (Y ^ (n - i))

    homogenize_zeros : (n : ℕ) → H n (zeros R) ≡ 𝟘
    homogenize_zeros zero = homogenize_zero (zeros R) ∙ κ_zero
    homogenize_zeros (suc n) =
        homogenize_suc n (zeros R)
        ∙ ap₂ (λ y z. y ⊗ Y ^ suc n ⊕ X ⊗ z) κ_zero (homogenize_zeros n) ∙ solve2 (Series R) (λ y z. :0 :* y :+ z :* :0) (λ y z. :0) tt (Y ^ suc n) X

    pub homogenize_add : (n : ℕ) (P Q : Seq R) → homogenize n (P ⊕ Q) ≡ homogenize n P ⊕ homogenize n Q
    homogenize_add zero P Q =
        homogenize_zero (P ⊕ Q) ∙ sym (const_add R (P 0) (Q 0)) ∙ sym (ap₂ ◌⊕◌ (homogenize_zero P) (homogenize_zero Q))
    homogenize_add (suc n) P Q =
        homogenize_suc n (P ⊕ Q)
        ∙ ap₂ (λ y z. y ⊗ Y ^ suc n ⊕ X ⊗ z) (sym (const_add R (P 0) (Q 0))) (homogenize_add n (tail R P) (tail R Q))
        ∙ solve6 (Series R) (λ p q d n y z. (p :+ q) :* d :+ n :* (y :+ z)) (λ p q d n y z. p :* d :+ n :* y :+ (q :* d :+ n :* z)) tt
        (κ (P 0)) (κ (Q 0)) (Y ^ suc n) X (H n (tail R P)) (H n (tail R Q))
        ∙ sym (ap₂ ◌⊕◌ (homogenize_suc n P) (homogenize_suc n Q))

    pub homogenize_neg : (n : ℕ) (P : Seq R) → homogenize n (neg P) ≡ neg (homogenize n P)
    homogenize_neg n P =
        Ring.neg_unique (Series R) (H n P) (H n (negs R P))
        (sym (homogenize_add n P (negs R P)) ∙ ap (H n) (CRing.add-neg (Series R) P) ∙ homogenize_zeros n)

    homogenize_scaled : (n : ℕ) (c : R.Car) (P : Seq R) → H n (scaled R c P) ≡ κ c ⊗ H n P
    homogenize_scaled zero c P = homogenize_zero (scaled R c P) ∙ sym (const_mul R c (P 0)) ∙ ap (λ y. κ c ⊗ y) (sym (homogenize_zero P))
    homogenize_scaled (suc n) c P =
        homogenize_suc n (scaled R c P)
        ∙ ap₂ (λ y z. y ⊗ Y ^ suc n ⊕ X ⊗ z) (sym (const_mul R c (P 0))) (homogenize_scaled n c (tail R P))
        ∙ solve5 (Series R) (λ c p d n y. c :* p :* d :+ n :* (c :* y)) (λ c p d n y. c :* (p :* d :+ n :* y)) tt
        (κ c) (κ (P 0)) (Y ^ suc n) X (H n (tail R P))
        ∙ ap (λ y. κ c ⊗ y) (sym (homogenize_suc n P))

    homogenize_times_x : (n : ℕ) (P : Seq R) → H (suc n) (head_then R R.𝟘 P) ≡ X ⊗ H n P
    homogenize_times_x n P =
        homogenize_suc n (head_then R R.𝟘 P)
        ∙ ap (λ y. y ⊗ Y ^ suc n ⊕ X ⊗ H n P) κ_zero ∙ solve2 (Series R) (λ y z. :0 :* y :+ z) (λ y z. z) tt (Y ^ suc n) (X ⊗ H n P)

    -- read as of one degree more
    pub homogenize_up : (n : ℕ) (P : Seq R) → Below R (suc n) P → homogenize (suc n) P ≡ Y ⊗ homogenize n P
    homogenize_up zero P h =
        homogenize_suc 0 P
        ∙ ap (λ y. κ (P 0) ⊗ Y ^ 1 ⊕ X ⊗ y) (homogenize_zero (tail R P) ∙ ap κ (h 1 (omega arith)) ∙ κ_zero)
        ∙ solve3 (Series R) (λ p d n. p :* d :^ 1 :+ n :* :0) (λ p d n. d :* p) tt (κ (P 0)) Y X
        ∙ ap (λ y. Y ⊗ y) (sym (homogenize_zero P))
    homogenize_up (suc n) P h =
        homogenize_suc (suc n) P
        ∙ ap₂ (λ y z. κ (P 0) ⊗ y ⊕ X ⊗ z) (pow-suc (Series R) Y (suc n)) (homogenize_up n (tail R P) (λ i l. h (suc i) (omega arith)))
        ∙ solve5 (Series R) (λ p d e n y. p :* (d :* e) :+ n :* (d :* y)) (λ p d e n y. d :* (p :* e :+ n :* y)) tt
        (κ (P 0)) Y (Y ^ suc n) X (H n (tail R P))
        ∙ ap (λ y. Y ⊗ y) (sym (homogenize_suc n P))

    homogenize_raise : (k n : ℕ) (P : Seq R) → Below R (suc n) P → H (k + n) P ≡ Y ^ k ⊗ H n P
    homogenize_raise zero n P h =
        ap (λ m. H m P) (Nat.zero-add n) ∙ solve2 (Series R) (λ d y. y) (λ d y. d :^ 0 :* y) tt Y (H n P)
    homogenize_raise (suc k) n P h =
        ap (λ m. H m P) (Nat.suc-add k n) ∙ homogenize_up (k + n) P (λ i l. h i (omega arith))
        ∙ ap (λ y. Y ⊗ y) (homogenize_raise k n P h)
        ∙ sym (ap (λ y. y ⊗ H n P) (pow-suc (Series R) Y k) ∙ CRing.mul_assoc (Series R) Y (Y ^ k) (H n P))

    pub homogenize_mul : (m n : ℕ) (P Q : Seq R) → Below R (suc m) P → Below R (suc n) Q
        → homogenize (m + n) (P ⊗ Q) ≡ homogenize m P ⊗ homogenize n Q
    homogenize_mul zero n P Q hP hQ =
        ap₂ H (Nat.zero-add n) (ap (λ f. f ⊗ Q) (S.split R P ∙ ap (head_then R (P 0)) (fun_ext λ i. hP (suc i) (omega arith))) ∙ sym (S.conv_scalar R (P 0) Q))
        ∙ homogenize_scaled n (P 0) Q ∙ ap (λ y. y ⊗ H n Q) (sym (homogenize_zero P))
    homogenize_mul (suc m) n P Q hP hQ =
        ap₂ H (Nat.suc-add m n) (S.conv_split R P Q)
        ∙ homogenize_add (suc (m + n)) (scaled R (P 0) Q) (head_then R R.𝟘 (tail R P ⊗ Q))
        ∙ ap₂ ◌⊕◌
        (homogenize_scaled (suc (m + n)) (P 0) Q ∙ ap (λ y. κ (P 0) ⊗ y) (ap (λ k. H k Q) (sym (Nat.suc-add m n)) ∙ homogenize_raise (suc m) n Q hQ))
        (homogenize_times_x (m + n) (tail R P ⊗ Q) ∙ ap (λ y. X ⊗ y) (homogenize_mul m n (tail R P) Q (λ i h. hP (suc i) (omega arith)) hQ))
        ∙ solve5 (Series R) (λ p d n y z. p :* (d :* z) :+ n :* (y :* z)) (λ p d n y z. (p :* d :+ n :* y) :* z) tt
        (κ (P 0)) (Y ^ suc m) X (H m (tail R P)) (H n Q)
        ∙ ap (λ y. y ⊗ H n Q) (sym (homogenize_suc m P))

    -- ── the chain rule

    homogenize_∂ : (n : ℕ) (P : Seq R) → Below R (suc (suc n)) P → H (suc n) (∂ R P) ≡ Y ⊗ H n (tail R P) ⊕ X ⊗ H n (∂ R (tail R P))
    homogenize_∂ n P h =
        ap (H (suc n)) (∂-split P) ∙ homogenize_add (suc n) (tail R P) (head_then R R.𝟘 (∂ R (tail R P)))
        ∙ ap₂ ◌⊕◌ (homogenize_up n (tail R P) (λ i l. h (suc i) (omega arith))) (homogenize_times_x n (∂ R (tail R P)))

    -- Y² (H n P)' = (X' Y − X Y') H n P' + n Y Y' H n P
    pub chain : (n : ℕ) (P : Seq R) → Below R (suc n) P
        → Y ^ 2 ⊗ ∂ R (homogenize n P) ≡ (∂ R X ⊗ Y ⊖ X ⊗ ∂ R Y) ⊗ homogenize n (∂ R P) ⊕ # n ⊗ Y ⊗ ∂ R Y ⊗ homogenize n P
    chain zero P h =
        ap (λ y. Y ^ 2 ⊗ y) (ap (∂ R) (homogenize_zero P) ∙ ∂-const R (P 0))
        ∙ solve4 (Series R) (λ w y y' p. y :^ 2 :* :0) (λ w y y' p. w :* :0 :+ num 0 :* y :* y' :* p) tt (∂ R X ⊗ Y ⊖ X ⊗ ∂ R Y) Y (∂ R Y) (κ (P 0))
        ∙ ap₂ (λ y z. (∂ R X ⊗ Y ⊖ X ⊗ ∂ R Y) ⊗ y ⊕ # 0 ⊗ Y ⊗ ∂ R Y ⊗ z)
        (sym (homogenize_zero (∂ R P) ∙ ap κ (∂-at R P 0 ∙ ap (R.mul (cast R 1)) (h 1 (omega arith)) ∙ Ring.mul-zero R _) ∙ κ_zero))
        (sym (homogenize_zero P))
    chain (suc n) P h =
        ap (λ y. Y ^ 2 ⊗ y)
        (ap (∂ R) (homogenize_suc n P) ∙ ∂-add R (κ (P 0) ⊗ Y ^ suc n) (X ⊗ k)
        ∙ ap₂ ◌⊕◌ (∂-leibniz R (κ (P 0)) (Y ^ suc n) ∙ ap (λ z. z ⊗ Y ^ suc n ⊕ κ (P 0) ⊗ ∂ R (Y ^ suc n)) (∂-const R (P 0))) (∂-leibniz R X k))
        ∙ solve8 (Series R) (λ y p z z' x x' k k'. y :^ 2 :* (:0 :* z :+ p :* z' :+ (x' :* k :+ x :* k')))
        (λ y p z z' x x' k k'. p :* y :* (y :* z') :+ y :^ 2 :* x' :* k :+ x :* (y :^ 2 :* k')) tt
        Y (κ (P 0)) (Y ^ suc n) (∂ R (Y ^ suc n)) X (∂ R X) k (∂ R k)
        ∙ ap₂ (λ a b. κ (P 0) ⊗ Y ⊗ a ⊕ Y ^ 2 ⊗ ∂ R X ⊗ k ⊕ X ⊗ b)
        (d_pow (Series R) (Formal R) Y (suc n) ∙ ap (λ m. m ⊗ Y ^ suc n ⊗ ∂ R Y) (cast_suc (Series R) n))
        (chain n (tail R P) (λ i l. h (suc i) (omega arith)))
        ∙ ring (Series R) (at (Series R) (Y ∷ ∂ R Y ∷ κ (P 0) ∷ Y ^ suc n ∷ X ∷ ∂ R X ∷ k ∷ k₁ ∷ # n ∷ []))
        (:p :* :y :* ((:n :+ :1) :* :z :* :y') :+ :y :^ 2 :* :x' :* :k :+ :x :* ((:x' :* :y :- :x :* :y') :* :k₁ :+ :n :* :y :* :y' :* :k))
        ((:x' :* :y :- :x :* :y') :* (:y :* :k :+ :x :* :k₁) :+ (:n :+ :1) :* :y :* :y' :* (:p :* :z :+ :x :* :k)) tt
        ∙ sym (ap₂ (λ a m. (∂ R X ⊗ Y ⊖ X ⊗ ∂ R Y) ⊗ a ⊕ m ⊗ Y ⊗ ∂ R Y ⊗ (κ (P 0) ⊗ Y ^ suc n ⊕ X ⊗ k)) (homogenize_∂ n P h) (cast_suc (Series R) n))
        ∙ ap (λ y. (∂ R X ⊗ Y ⊖ X ⊗ ∂ R Y) ⊗ H (suc n) (∂ R P) ⊕ # (suc n) ⊗ Y ⊗ ∂ R Y ⊗ y) (sym (homogenize_suc n P))
      where
        k : Seq R
        k = H n (tail R P)

        k₁ : Seq R
        k₁ = H n (∂ R (tail R P))

        :y : Ex
        :y = var 0

        :y' : Ex
        :y' = var 1

        :p : Ex
        :p = var 2

        :z : Ex
        :z = var 3

        :x : Ex
        :x = var 4

        :x' : Ex
        :x' = var 5

        :k : Ex
        :k = var 6

        :k₁ : Ex
        :k₁ = var 7

        :n : Ex
        :n = var 8
