-- `Homogenized n P Q`: P has degree at most n, and Q is `homogenize n P`; it goes along with sums, products, powers and a substitution in P itself.
-- Assumes nothing.
use Rattle.std.specs.Prelude.{◌≡◌, refl, ℕ, zero, suc, ◌+◌, ◌*◌}
use Rattle.std.proofs.Common.{sym, ◌∙◌, ap, subst, arith}
use Rattle.std.proofs.Math.Path.{ap₂, fun_ext}
use Rattle.std.proofs.Math.Nat as Nat
use Rattle.ring.specs.Ring
use Rattle.ring.specs.Ring.{CRing, cast, pow, pow-zero, pow-suc}
use Rattle.ring.specs.Identity.{solve2}
use Rattle.ring.specs.Identity.Ex.{:0, :1, ◌:+◌, ◌:*◌}
use Rattle.series.specs.Series as S
use Rattle.series.specs.Series.{Series, Seq, tail, const}
use Rattle.series.specs.Degree.{Below, const_below, degree_mul}
use Rattle.series.specs.Indeterminate.{ind, cast_series}
use Rattle.series.specs.Reversal.{r_ind}
use Rattle.composition.specs.Substitution.{homogenize, homogenize_zero, homogenize_suc}
use Rattle.composition.specs.Substitution.{homogenize_add, homogenize_neg, homogenize_mul, homogenize_up}

module _ (R : CRing) where
  open Series R use {𝟙, add as ◌⊕◌, mul as ◌⊗◌, neg}

  infixl 65 ◌⊕◌
  infixl 70 ◌⊗◌
  infixr 75 ◌^◌
  infix 80 #◌
  abbrev ◌^◌ : Seq R → ℕ → Seq R
  a ^ n = pow (Series R) a n

  abbrev #◌ : ℕ → Seq R
  # n = cast (Series R) n

  abbrev κ : R.Car → Seq R
  κ c = const R c

  module _ (X Y : Seq R) where
    pub record Homogenized (n : ℕ) (P Q : Seq R) : Type 0 where
      pub below : Below R (suc n) P
      pub same : homogenize R X Y n P ≡ Q

    pub h_is : {n : ℕ} {P : Seq R} → Below R (suc n) P → Homogenized n P (homogenize R X Y n P)
    h_is h = record { below = h; same = refl }

    pub h_degree : {m n : ℕ} {P Q : Seq R} → m ≡ n → Homogenized m P Q → Homogenized n P Q
    h_degree {P = P} {Q = Q} e h = subst (λ k. Homogenized k P Q) e h

    h_left : {n : ℕ} {P P' Q : Seq R} → P ≡ P' → Homogenized n P Q → Homogenized n P' Q
    h_left {n = n} {Q = Q} e h = subst (λ p. Homogenized n p Q) e h

    pub h_right : {n : ℕ} {P Q Q' : Seq R} → Q ≡ Q' → Homogenized n P Q → Homogenized n P Q'
    h_right {n = n} {P = P} e h = subst (λ q. Homogenized n P q) e h

    pub h_same : {n : ℕ} {P P' Q Q' : Seq R} → P ≡ P' → Homogenized n P Q → Homogenized n P' Q' → Q ≡ Q'
    h_same {n} e h h' = sym h.same ∙ ap (homogenize R X Y n) e ∙ h'.same

    pub h_add : {n : ℕ} {P Q P' Q' : Seq R} → Homogenized n P Q → Homogenized n P' Q' → Homogenized n (P ⊕ P') (Q ⊕ Q')
    h_add {n} {P} {Q} {P'} h h' = record {
      below = λ i g. ap₂ R.add (h.below i g) (h'.below i g) ∙ R.add-zero R.𝟘;
      same = homogenize_add R X Y n P P' ∙ ap₂ ◌⊕◌ h.same h'.same;
    }

    pub h_neg : {n : ℕ} {P Q : Seq R} → Homogenized n P Q → Homogenized n (neg P) (neg Q)
    h_neg {n} {P} h = record {
      below = λ i g. ap R.neg (h.below i g) ∙ Ring.neg-zero R;
      same = homogenize_neg R X Y n P ∙ ap neg h.same;
    }

    pub h_mul : {m n : ℕ} {P Q P' Q' : Seq R} → Homogenized m P Q → Homogenized n P' Q' → Homogenized (m + n) (P ⊗ P') (Q ⊗ Q')
    h_mul {m} {n} {P} {Q} {P'} h h' = record {
      below = degree_mul R m n P P' h.below h'.below;
      same = homogenize_mul R X Y m n P P' h.below h'.below ∙ ap₂ ◌⊗◌ h.same h'.same;
    }

    pub h_const : (c : R.Car) → Homogenized 0 (κ c) (κ c)
    h_const c = record { below = const_below R c; same = homogenize_zero R X Y (κ c) }

    pub h_cast : (n : ℕ) → Homogenized 0 (# n) (# n)
    h_cast n = subst (λ p. Homogenized 0 p p) (sym (cast_series R n)) (h_const (cast R n))

    pub h_pow : {n : ℕ} {P Q : Seq R} → Homogenized n P Q → (k : ℕ) → Homogenized (k * n) (P ^ k) (Q ^ k)
    h_pow {n} {P} {Q} h zero =
        h_degree (sym (Nat.zero-mul n)) (h_left (sym (pow-zero (Series R) P)) (h_right (sym (pow-zero (Series R) Q)) (h_const R.𝟙)))
    h_pow {n} {P} {Q} h (suc k) =
        h_degree (Nat.add_comm n (k * n) ∙ sym (Nat.suc-mul k n))
        (h_left (sym (pow-suc (Series R) P k)) (h_right (sym (pow-suc (Series R) Q k)) (h_mul h (h_pow h k))))

    pub h_up : {n : ℕ} {P Q : Seq R} → Homogenized n P Q → Homogenized (suc n) P (Y ⊗ Q)
    h_up {n} {P} h = record { below = λ i g. h.below i (omega arith); same = homogenize_up R X Y n P h.below ∙ ap (λ y. Y ⊗ y) h.same }

    pub h_ind : Homogenized 1 (ind R) X
    unfolding ind
    h_ind = record {
      below = (r_ind R).below;
      same =
          homogenize_suc R X Y 0 (ind R)
          ∙ ap₂ (λ y z. y ⊗ Y ^ 1 ⊕ X ⊗ z) (fun_ext (S.const_null R)) (homogenize_zero R X Y (tail R (ind R)))
          ∙ solve2 (Series R) (λ x y. :0 :* y :+ x :* :1) (λ x y. x) tt X (Y ^ 1);
    }

  -- a substitution in a substitution: what A and B are at X / Y takes their places
  pub h_homogenize : {X Y A B A' B' : Seq R} {m : ℕ} → Homogenized X Y m A A' → Homogenized X Y m B B'
      → (n : ℕ) (P : Seq R) → Homogenized X Y (n * m) (homogenize R A B n P) (homogenize R A' B' n P)
  h_homogenize {X} {Y} {A} {B} {A'} {B'} {m} a b zero P =
      h_left X Y (sym (homogenize_zero R A B P)) (h_right X Y (sym (homogenize_zero R A' B' P)) (h_degree X Y (sym (Nat.zero-mul m)) (h_const X Y (P 0))))
  h_homogenize {X} {Y} {A} {B} {A'} {B'} {m} a b (suc n) P =
      h_left X Y (sym (homogenize_suc R A B n P)) (h_right X Y (sym (homogenize_suc R A' B' n P))
      (h_add X Y (h_degree X Y (Nat.zero-add (suc n * m)) (h_mul X Y (h_const X Y (P 0)) (h_pow X Y b (suc n))))
      (h_degree X Y (Nat.add_comm m (n * m) ∙ sym (Nat.suc-mul n m)) (h_mul X Y a (h_homogenize a b n (tail R P))))))
