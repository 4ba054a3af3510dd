-- The first power sums of g from the first coefficients of D = g² = x^(ℓ−1) − σ x^(ℓ−2) + σ₂ x^(ℓ−3) − σ₃ x^(ℓ−4) + ..: Newton's identities in closed
-- form, s₁ = σ, s₂ = σ² − 2σ₂ and s₃ = σ³ − 3σσ₂ + 3σ₃. So Vélu's codomain by D and by power sums are the same.
-- Assumes nothing.
use Rattle.std.specs.Prelude.{◌≡◌, ℕ, suc, ◌*◌}
use Rattle.std.proofs.Math.Path.{refl, ap, ap₂}
use Rattle.std.proofs.Common.{sym, ◌∙◌, arith}
use Rattle.ring.specs.Ring.{CRing, cast, pow}
use Rattle.ring.specs.Identity.{solve1, solve2, solve3, solve4, solve5}
use Rattle.ring.specs.Identity.Ex.{num, :0, :1, ◌:+◌, ◌:-◌, ◌:*◌, :-◌, ◌:^◌}
use Rattle.series.specs.Series.{Seq, conv, sum}
use Rattle.series.specs.Degree.{Below}
use Rattle.series.specs.Reversal.{rev, rev_first, Reversed, r_mul}
use Rattle.isogeny.specs.Expansion.{from_sums, PowerSums}
use Rattle.isogeny.specs.Kernel.{codomain_A, codomain_B}
use Rattle.isogeny.specs.Velu.{sigma, sigma₂, sigma₃, t, w, velu_A, velu_B}
use Rattle.isogeny.proofs.Sums.{Solved, newton_solved}

module _ (R : CRing) (d : ℕ) (g : Seq R) (below : Below R (suc d) g) (leading : g d ≡ R.𝟙) where
  open R use {Car, 𝟘, 𝟙, add as ◌⊕◌, mul as ◌⊗◌, neg}

  infixl 65 ◌⊕◌ ◌⊖◌
  infixl 70 ◌⊗◌
  infixr 75 ◌^◌
  infix 80 #◌
  abbrev ◌⊖◌ : Car → Car → Car
  a ⊖ b = a ⊕ neg b

  abbrev ◌^◌ : Car → ℕ → Car
  a ^ n = pow R a n

  abbrev #◌ : ℕ → Car
  # n = cast R n

  -- g's coefficients from x^d down: 1, c₁, c₂, ..
  abbrev c : Seq R
  c = rev R d g

  one : c 0 ≡ 𝟙
  one = rev_first R d g ∙ leading

  -- ── those of D

  square : rev R (2 * d) (conv R g g) ≡ conv R c c
  square = ap (λ n. rev R n (conv R g g)) (omega arith) ∙ (r_mul R same same).same
    where
      same : Reversed R d g c
      same = record { below = below; same = refl }

  -- D = x^(2d) + 2c₁ x^(2d−1) + (2c₂ + c₁²) x^(2d−2) + 2(c₃ + c₁c₂) x^(2d−3) + ..
  pub square_one : rev R (2 * d) (conv R g g) 1 ≡ # 2 ⊗ c 1
  unfolding conv
  square_one = ap (λ a. a 1) square ∙ ap (λ y. y ⊗ c 1 ⊕ c 1 ⊗ y) one ∙ solve1 R (λ a. :1 :* a :+ a :* :1) (λ a. num 2 :* a) tt (c 1)

  square_two : rev R (2 * d) (conv R g g) 2 ≡ # 2 ⊗ c 2 ⊕ c 1 ^ 2
  unfolding conv
  square_two =
      ap (λ a. a 2) square ∙ ap (λ y. y ⊗ c 2 ⊕ (c 1 ⊗ c 1 ⊕ c 2 ⊗ y)) one
      ∙ solve2 R (λ a b. :1 :* b :+ (a :* a :+ b :* :1)) (λ a b. num 2 :* b :+ a :^ 2) tt (c 1) (c 2)

  square_three : rev R (2 * d) (conv R g g) 3 ≡ # 2 ⊗ (c 3 ⊕ c 1 ⊗ c 2)
  unfolding conv
  square_three =
      ap (λ a. a 3) square ∙ ap (λ y. y ⊗ c 3 ⊕ (c 1 ⊗ c 2 ⊕ (c 2 ⊗ c 1 ⊕ c 3 ⊗ y))) one
      ∙ solve3 R (λ a b e. :1 :* e :+ (a :* b :+ (b :* a :+ e :* :1))) (λ a b e. num 2 :* (e :+ a :* b)) tt (c 1) (c 2) (c 3)

  -- ── the power sums

  module _ (s : Seq R) (sums : PowerSums R d g 3 s) where
    solved_one : Solved R c s 0
    solved_one = newton_solved R c s 0 one (sums.newton 1 (omega arith) (omega arith))

    solved_two : Solved R c s 1
    solved_two = newton_solved R c s 1 one (sums.newton 2 (omega arith) (omega arith))

    solved_three : Solved R c s 2
    solved_three = newton_solved R c s 2 one (sums.newton 3 (omega arith) (omega arith))

    -- by g's coefficients
    by_one : s 1 ≡ neg (# 2 ⊗ c 1)
    unfolding sum
    by_one = solved_one ∙ solve1 R (λ a. :- (num 2 :* a) :- :0) (λ a. :- (num 2 :* a)) tt (c 1)

    by_two : s 2 ≡ # 2 ⊗ c 1 ^ 2 ⊖ # 4 ⊗ c 2
    unfolding sum
    by_two =
        solved_two ∙ ap (λ y. neg (# 4 ⊗ c 2) ⊖ (𝟘 ⊕ y ⊗ c 1)) by_one
        ∙ solve2 R (λ a b. :- (num 4 :* b) :- (:0 :+ :- (num 2 :* a) :* a)) (λ a b. num 2 :* a :^ 2 :- num 4 :* b) tt (c 1) (c 2)

    by_three : s 3 ≡ # 6 ⊗ c 1 ⊗ c 2 ⊖ # 6 ⊗ c 3 ⊖ # 2 ⊗ c 1 ^ 3
    unfolding sum
    by_three =
        solved_three ∙ ap₂ (λ y z. neg (# 6 ⊗ c 3) ⊖ (𝟘 ⊕ y ⊗ c 2 ⊕ z ⊗ c 1)) by_one by_two
        ∙ solve3 R (λ a b e. :- (num 6 :* e) :- (:0 :+ :- (num 2 :* a) :* b :+ (num 2 :* a :^ 2 :- num 4 :* b) :* a))
        (λ a b e. num 6 :* a :* b :- num 6 :* e :- num 2 :* a :^ 3) tt (c 1) (c 2) (c 3)

    -- by D's: σ, σ₂ and σ₃ are those of D, up to their signs
    sum_one : {σ : Car} → σ ≡ neg (rev R (2 * d) (conv R g g) 1) → s 1 ≡ σ
    sum_one e = by_one ∙ ap neg (sym square_one) ∙ sym e

    sum_two : {σ σ₂ : Car} → σ ≡ neg (rev R (2 * d) (conv R g g) 1) → σ₂ ≡ rev R (2 * d) (conv R g g) 2 → s 2 ≡ σ ^ 2 ⊖ # 2 ⊗ σ₂
    sum_two e e₂ =
        by_two ∙ solve2 R (λ a b. num 2 :* a :^ 2 :- num 4 :* b) (λ a b. (:- (num 2 :* a)) :^ 2 :- num 2 :* (num 2 :* b :+ a :^ 2)) tt (c 1) (c 2)
        ∙ sym (ap₂ (λ y z. y ^ 2 ⊖ # 2 ⊗ z) (e ∙ ap neg square_one) (e₂ ∙ square_two))

    sum_three : {σ σ₂ σ₃ : Car} → σ ≡ neg (rev R (2 * d) (conv R g g) 1) → σ₂ ≡ rev R (2 * d) (conv R g g) 2
        → σ₃ ≡ neg (rev R (2 * d) (conv R g g) 3) → s 3 ≡ σ ^ 3 ⊖ # 3 ⊗ σ ⊗ σ₂ ⊕ # 3 ⊗ σ₃
    sum_three {σ} {σ₂} {σ₃} e e₂ e₃ =
        by_three
        ∙ solve3 R (λ a b e. num 6 :* a :* b :- num 6 :* e :- num 2 :* a :^ 3)
        (λ a b e.
        (:- (num 2 :* a)) :^ 3 :- num 3 :* (:- (num 2 :* a)) :* (num 2 :* b :+ a :^ 2) :+ num 3 :* (:- (num 2 :* (e :+ a :* b)))) tt
        (c 1) (c 2) (c 3)
        ∙ sym (ap₂ (λ y z. y ^ 3 ⊖ # 3 ⊗ y ⊗ z ⊕ # 3 ⊗ σ₃) (e ∙ ap neg square_one) (e₂ ∙ square_two)
        ∙ ap (λ y. neg (# 2 ⊗ c 1) ^ 3 ⊖ # 3 ⊗ neg (# 2 ⊗ c 1) ⊗ (# 2 ⊗ c 2 ⊕ c 1 ^ 2) ⊕ # 3 ⊗ y) (e₃ ∙ ap neg square_three))

  -- ── so t is h₁ and w is h₂

  module _ (A B : Car) (s : Seq R) (sums : PowerSums R d g 3 s) where
    t_is : t R A B d (conv R g g) ≡ from_sums R A B s 1
    unfolding t sigma sigma₂
    t_is =
        ap₂ (λ y z. A ⊗ y ⊕ # 3 ⊗ z) (sym sums.first) (sym (sum_two s sums refl refl))
        ∙ solve4 R (λ a b y z. a :* y :+ num 3 :* z) (λ a b y z. num 3 :* z :+ num 1 :* a :* y :+ num 0 :* b :* y) tt A B (s 0) (s 2)

    w_is : w R A B d (conv R g g) ≡ from_sums R A B s 2
    unfolding w sigma sigma₂ sigma₃
    w_is =
        ap₂ (λ y z. # 3 ⊗ A ⊗ y ⊕ # 2 ⊗ B ⊗ # (2 * d) ⊕ # 5 ⊗ z) (sym (sum_one s sums refl)) (sym (sum_three s sums refl refl refl))
        ∙ ap (λ y. # 3 ⊗ A ⊗ s 1 ⊕ # 2 ⊗ B ⊗ y ⊕ # 5 ⊗ s 3) (sym sums.first)
        ∙ solve5 R (λ a b x y z. num 3 :* a :* y :+ num 2 :* b :* x :+ num 5 :* z)
        (λ a b x y z. num 5 :* z :+ num 3 :* a :* y :+ num 2 :* b :* x) tt A B (s 0) (s 1) (s 3)

    pub same_codomain : (velu_A R A B d (conv R g g) ≡ codomain_A R A B s) × (velu_B R A B d (conv R g g) ≡ codomain_B R A B s)
    same_codomain = (ap (λ y. A ⊖ # 5 ⊗ y) t_is, ap (λ y. B ⊖ # 7 ⊗ y) w_is)
