-- A polynomial f by its first m coefficients and the rest: f = b + t^m r, so f(u) = b(u) + u^m r(u) and f'(u) = b'(u) + u^m r'(u) + m u^(m − 1) r(u).
-- Assumes nothing.
use mathlib.Core.Path.{◌≡◌, sym, ◌∙◌, ap, ap₂, fun_ext}
use Prim.Native.Nat.{ℕ, zero, suc, ◌+◌}
use native.Mathlib.Nat as N
use Rattle.ring.specs.Ring
use Rattle.ring.specs.Ring.{CRing, cast, cast_one, cast_suc, pow, pow-zero, pow-suc}
use Rattle.ring.specs.Identity.{solve1, solve2, solve3, solve5, solve6, solve7}
use Rattle.ring.specs.Identity.Ex.{:0, :1, ◌:+◌, ◌:*◌}
use Rattle.series.specs.Series.{Seq, tail, sums, head_then, sum, sum_first, sum_scaled, ∂, ∂-at}
use Rattle.series.specs.Value.{value, value_sums}
use Rattle.evaluation.specs.Tables.{rise, weighed}

module _ (R : CRing) where
  open R use {Car, 𝟘, 𝟙, add as ◌⊕◌, mul as ◌⊗◌, add-zero}

  infixl 65 ◌⊕◌
  infixl 70 ◌⊗◌
  module _ (u : Car) where
    -- (t^(i + 1))' = t^i + t (t^i)'
    rise_suc : (i : ℕ) → rise R u (suc i) ≡ pow R u i ⊕ u ⊗ rise R u i
    rise_suc zero = ap (λ c. c ⊗ pow R u 0) (cast_one R) ∙ solve2 R (λ x y. :1 :* y) (λ x y. y :+ x :* :0) tt u (pow R u 0)
    rise_suc (suc i) =
        ap₂ ◌⊗◌ (cast_suc R (suc i)) (pow-suc R u i)
        ∙ solve3 R (λ c x y. (c :+ :1) :* (x :* y)) (λ c x y. x :* y :+ x :* (c :* y)) tt (cast R (suc i)) u (pow R u i)
        ∙ ap (λ y. y ⊕ u ⊗ rise R u (suc i)) (sym (pow-suc R u i))

    weighed_sum : (f v w : Seq R) (n : ℕ) → weighed R f (λ i. v i ⊕ u ⊗ w i) n ≡ weighed R f v n ⊕ u ⊗ weighed R f w n
    unfolding sum
    weighed_sum f v w zero = solve1 R (λ u. :0) (λ u. :0 :+ u :* :0) tt u
    weighed_sum f v w (suc n) =
        ap (λ x. x ⊕ f n ⊗ (v n ⊕ u ⊗ w n)) (weighed_sum f v w n)
        ∙ solve6 R (λ s t u f v w. s :+ u :* t :+ f :* (v :+ u :* w)) (λ s t u f v w. s :+ f :* v :+ u :* (t :+ f :* w)) tt _ _ u (f n) (v n) (w n)

    powers_suc : (f : Seq R) (m : ℕ) → weighed R f (pow R u) (suc m) ≡ f 0 ⊕ u ⊗ weighed R (tail R f) (pow R u) m
    powers_suc f m =
        sum_first R (λ i. f i ⊗ pow R u i) m
        ∙ ap₂ ◌⊕◌ (ap (λ x. f 0 ⊗ x) (pow-zero R u) ∙ CRing.mul-one R (f 0))
        (ap (λ s. sum R s m) (fun_ext λ i. ap (λ x. f (suc i) ⊗ x) (pow-suc R u i) ∙ Ring.mul_left_comm R (f (suc i)) u (pow R u i))
        ∙ sum_scaled R u (λ i. f (suc i) ⊗ pow R u i) m)

    rises_suc : (f : Seq R) (m : ℕ)
        → weighed R f (rise R u) (suc m) ≡ weighed R (tail R f) (pow R u) m ⊕ u ⊗ weighed R (tail R f) (rise R u) m
    rises_suc f m =
        sum_first R (λ i. f i ⊗ rise R u i) m
        ∙ ap₂ ◌⊕◌ (Ring.mul-zero R (f 0)) (ap (λ s. sum R s m) (fun_ext λ i. ap (λ x. f (suc i) ⊗ x) (rise_suc i)))
        ∙ Ring.zero-add R _ ∙ weighed_sum (tail R f) (pow R u) (rise R u) m

    pub value_block : (m n : ℕ) (f : Seq R) → value R (m + n) f u ≡ weighed R f (pow R u) m ⊕ pow R u m ⊗ value R n (λ j. f (m + j)) u
    unfolding value sum
    value_block zero n f =
        ap₂ (λ k g. value R k g u) (N.zero-add n) (fun_ext λ j. ap f (sym (N.zero-add j)))
        ∙ solve1 R (λ y. y) (λ y. :0 :+ :1 :* y) tt _ ∙ ap (λ x. 𝟘 ⊕ x ⊗ value R n (λ j. f (0 + j)) u) (sym (pow-zero R u))
    value_block (suc m) n f =
        ap (λ k. value R k f u) (N.suc-add m n)
        ∙ ap (λ y. f 0 ⊕ u ⊗ y) (value_block m n (tail R f))
        ∙ solve5 R (λ a u s x y. a :+ u :* (s :+ x :* y)) (λ a u s x y. a :+ u :* s :+ u :* x :* y) tt (f 0) u _ _ _
        ∙ ap₂ ◌⊕◌ (sym (powers_suc f m)) (ap₂ (λ x g. x ⊗ value R n g u) (sym (pow-suc R u m)) (fun_ext λ j. ap f (sym (N.suc-add m j))))

    -- (f(0) + t g)' = g + t g'
    ∂-split : (f : Seq R) → ∂ R f ≡ sums R (tail R f) (head_then R 𝟘 (∂ R (tail R f)))
    ∂-split f = fun_ext go
      where
        go : (i : ℕ) → ∂ R f i ≡ sums R (tail R f) (head_then R 𝟘 (∂ R (tail R f))) i
        go zero = ∂-at R f 0 ∙ ap (λ c. c ⊗ f 1) (cast_one R) ∙ Ring.one-mul R (f 1) ∙ sym (add-zero (f 1))
        go (suc i) =
            ∂-at R f (suc i) ∙ ap (λ c. c ⊗ f (suc (suc i))) (cast_suc R (suc i))
            ∙ solve2 R (λ c x. (c :+ :1) :* x) (λ c x. x :+ c :* x) tt (cast R (suc i)) (f (suc (suc i)))
            ∙ ap (λ y. f (suc (suc i)) ⊕ y) (sym (∂-at R (tail R f) i))

    slope_suc : (n : ℕ) (f : Seq R) → value R (suc n) (∂ R f) u ≡ value R (suc n) (tail R f) u ⊕ u ⊗ value R n (∂ R (tail R f)) u
    unfolding value
    slope_suc n f =
        ap (λ g. value R (suc n) g u) (∂-split f) ∙ value_sums R (suc n) (tail R f) (head_then R 𝟘 (∂ R (tail R f))) u
        ∙ ap (λ y. value R (suc n) (tail R f) u ⊕ y) (Ring.zero-add R _)

    pub slope_block : (m n : ℕ) (f : Seq R)
        → value R (m + n) (∂ R f) u
        ≡ weighed R f (rise R u) m ⊕ pow R u m ⊗ value R n (∂ R (λ j. f (m + j))) u ⊕ rise R u m ⊗ value R (suc n) (λ j. f (m + j)) u
    unfolding sum
    slope_block zero n f =
        ap₂ (λ k g. value R k (∂ R g) u) (N.zero-add n) (fun_ext λ j. ap f (sym (N.zero-add j)))
        ∙ solve2 R (λ y z. y) (λ y z. :0 :+ :1 :* y :+ :0 :* z) tt _ (value R (suc n) (λ j. f (0 + j)) u)
        ∙ ap (λ x. 𝟘 ⊕ x ⊗ value R n (∂ R (λ j. f (0 + j))) u ⊕ 𝟘 ⊗ value R (suc n) (λ j. f (0 + j)) u) (sym (pow-zero R u))
    slope_block (suc m) n f =
        ap (λ k. value R k (∂ R f) u) (N.suc-add m n) ∙ slope_suc (m + n) f
        ∙ ap₂ (λ x y. x ⊕ u ⊗ y) (ap (λ k. value R k (tail R f) u) (sym (N.add-suc m n)) ∙ value_block m (suc n) (tail R f)) (slope_block m n (tail R f))
        ∙ apart _ _ _ _ _ _
        ∙ ap₂ ◌⊕◌ (ap₂ ◌⊕◌ (sym (rises_suc f m)) (ap₂ (λ x g. x ⊗ value R n (∂ R g) u) (sym (pow-suc R u m)) shifted))
        (ap₂ (λ x g. x ⊗ value R (suc n) g u) (sym (rise_suc m)) shifted)
      where
        shifted : ◌≡◌ {A = Seq R} (λ j. f (suc (m + j))) (λ j. f (suc m + j))
        shifted = fun_ext λ j. ap f (sym (N.suc-add m j))

        apart : (a b x y v w : Car) → a ⊕ x ⊗ v ⊕ u ⊗ (b ⊕ x ⊗ w ⊕ y ⊗ v) ≡ a ⊕ u ⊗ b ⊕ u ⊗ x ⊗ w ⊕ (x ⊕ u ⊗ y) ⊗ v
        apart a b x y v w =
            solve7 R (λ a b x y v w u. a :+ x :* v :+ u :* (b :+ x :* w :+ y :* v))
            (λ a b x y v w u. a :+ u :* b :+ u :* x :* w :+ (x :+ u :* y) :* v) tt a b x y v w u
