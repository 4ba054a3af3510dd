-- What the equations Ψ = 0 and Φ = 0 say of the coefficients h_i = u_(i + 1) of the expansion at infinity: document 01's recurrence from h₃ on,
-- and h₁ and h₂.
-- Assumes nothing.
use Rattle.std.specs.Prelude.{◌≡◌, List, [], ◌∷◌, ℕ, zero, suc, ◌+◌, ◌*◌}
use Rattle.std.proofs.Common.{sym, ◌∙◌}
use Rattle.std.proofs.Math.Path.{ap, ap₂, fun_ext}
use Rattle.ring.specs.Ring
use Rattle.ring.specs.Ring.{CRing, cast, cast_suc, pow}
use Rattle.ring.specs.Identity.{Ex, eval, ring, at, solve1, solve2, solve5, solve7, solve8}
use Rattle.ring.specs.Identity.Ex.{var, num, :0, :1, ◌:+◌, ◌:-◌, ◌:*◌, :-◌, ◌:^◌}
use Rattle.series.specs.Series as S
use Rattle.series.specs.Series.{Series, Seq, conv, const, conv_const, D, D_at, D_zero, tail, zeros}
use Rattle.series.specs.Indeterminate.{ind, conv_cast}
use Rattle.isogeny.specs.Rules.{Question}
use Rattle.isogeny.proofs.Equation as E
use Rattle.isogeny.proofs.Equation.{:t, :a, :b, :ã, :b̃, :F}
use Rattle.isogeny.proofs.Degrees.{F}
use Rattle.isogeny.proofs.Infinity.{quad, Φ, Ψ}
use Rattle.isogeny.proofs.Coefficients.{t², t³, t²_is, F_at, quad_at, up2, up4, cast_twice}

-- the series that Φ is made of below are t, A, B, Ã, B̃ and these two
abbrev :p : Ex
:p = var 5

abbrev :r : Ex
:r = var 6

-- what Φ has from t⁴ on, divided by t⁴
abbrev :rest : Ex
:rest = :r :^ 2 :+ num 2 :* (:a :+ :b :* :t) :* :r :+ :t :^ 2 :* (:a :+ :b :* :t) :* :r :^ 2 :- num 3 :* :p :^ 2 :- :t :^ 2 :* :p :^ 3 :- :ã :* :p

module _ (R : CRing) (q : Question R) (u : Seq R) where
  open q use {A, B, Ã, B̃}
  open Series R use {𝟙 as 1ₛ, add as ◌+ₛ◌, mul as ◌*ₛ◌, neg as -ₛ◌}
  open R use {Car, 𝟘, 𝟙, add as ◌⊕◌, mul as ◌⊗◌, neg}

  infixl 65 ◌⊕◌ ◌⊖◌ ◌+ₛ◌ ◌-ₛ◌
  infixl 70 ◌⊗◌ ◌*ₛ◌
  infixr 75 ◌^ₛ◌
  infix 80 #◌ #ₛ◌
  abbrev ◌⊖◌ : Car → Car → Car
  a ⊖ b = a ⊕ neg b

  abbrev ◌-ₛ◌ : Seq R → Seq R → Seq R
  a -ₛ b = a +ₛ -ₛ◌ b

  abbrev ◌^ₛ◌ : Seq R → ℕ → Seq R
  a ^ₛ n = pow (Series R) a n

  abbrev #◌ : ℕ → Car
  # n = cast R n

  abbrev #ₛ◌ : ℕ → Seq R
  #ₛ n = cast (Series R) n

  abbrev κ : Car → Seq R
  κ c = const R c

  abbrev t : Seq R
  t = ind R

  -- ── the recurrence

  -- the coefficients of u'' − u' and of v = u − u', where ' is D
  abbrev w : Seq R
  w i = # i ⊗ (# i ⊗ u i) ⊖ # i ⊗ u i

  abbrev v : Seq R
  v i = u i ⊖ # i ⊗ u i

  pub Ψ_at : (i : ℕ) → Ψ R q u i
      ≡ # 2 ⊗ (w i ⊕ A ⊗ t² R w i ⊕ B ⊗ t³ R w i) ⊕ (# 3 ⊗ v i ⊕ A ⊗ t² R v i) ⊖ # 3 ⊗ conv R u u i ⊖ Ã ⊗ t² R (κ 𝟙) i
  unfolding E.Ψ F quad
  Ψ_at i =
      ap (λ f. f i)
      (solve7 (Series R)
      (λ f y q v u c t. num 2 :* f :* y :+ q :* v :- num 3 :* u :^ 2 :- c :* t :^ 2)
      (λ f y q v u c t. num 2 :* (f :* y) :+ q :* v :- num 3 :* (u :* u) :- c :* (t :* (t :* :1))) tt
      (F R q) (D R (D R u) -ₛ D R u) (quad R q) (u -ₛ D R u) u (κ Ã) t)
      ∙ ap₂ ◌⊖◌
      (ap₂ ◌⊖◌
      (ap₂ ◌⊕◌
      (conv_cast R 2 (F R q *ₛ (D R (D R u) -ₛ D R u)) i
      ∙ ap (λ x. # 2 ⊗ x) (F_at R q (D R (D R u) -ₛ D R u) i
      ∙ ap (λ y. y i ⊕ A ⊗ t² R y i ⊕ B ⊗ t³ R y i) (fun_ext λ j. ap₂ ◌⊖◌ (D_at R (D R u) j ∙ ap (λ x. # j ⊗ x) (D_at R u j)) (D_at R u j))))
      (quad_at R q (u -ₛ D R u) i ∙ ap (λ y. # 3 ⊗ y i ⊕ A ⊗ t² R y i) (fun_ext λ j. ap (λ x. u j ⊖ x) (D_at R u j))))
      (conv_cast R 3 (u *ₛ u) i))
      (ap (λ f. conv R (κ Ã) f i) (t²_is R 1ₛ) ∙ conv_const R Ã (t² R 1ₛ) i)

  pub v_first : u 0 ≡ 𝟙 → (u -ₛ D R u) 0 ≡ 𝟙
  v_first e = ap₂ ◌⊖◌ e (D_zero R u) ∙ solve1 R (λ x. :1 :- :0) (λ x. :1) tt 𝟘

  pub square_at : u 0 ≡ 𝟙 → (i : ℕ) → conv R u u (suc (suc i)) ≡ # 2 ⊗ u (suc (suc i)) ⊕ conv R (tail R u) (tail R u) i
  square_at e i =
      S.conv_suc R u u (suc i)
      ∙ ap₂ (λ x y. x ⊗ u (suc (suc i)) ⊕ y) e (S.conv_last R (tail R u) u i ∙ ap (λ x. u (suc (suc i)) ⊗ x ⊕ conv R (tail R u) (tail R u) i) e)
      ∙ solve2 R (λ x y. :1 :* x :+ (x :* :1 :+ y)) (λ x y. num 2 :* x :+ y) tt (u (suc (suc i))) (conv R (tail R u) (tail R u) i)

  -- the right side of the recurrence for h_(j + 3), where h_i = u_(i + 1)
  abbrev pub right : ℕ → Car
  right j = # 3 ⊗ conv R (tail R u) (tail R u) (suc (suc j)) ⊖ # (suc j) ⊗ # (2 * j + 3) ⊗ A ⊗ u (suc (suc j)) ⊖ # 2 ⊗ # (suc j) ⊗ # j ⊗ B ⊗ u (suc j)

  -- its sides differ by the coefficient of Ψ at j + 4
  pub recurrence_at : u 0 ≡ 𝟙 → (j : ℕ) → # (suc j) ⊗ # (2 * j + 9) ⊗ u (suc (suc (suc (suc j)))) ≡ right j ⊕ Ψ R q u (suc (suc (suc (suc j))))
  recurrence_at e j =
      ap₂ (λ m n. m ⊗ n ⊗ x) (cast_suc R j) (cast_twice R j 9)
      ∙ solve8 R
      (λ j a b ã x y z c. (j :+ :1) :* (num 2 :* j :+ num 9) :* x)
      (λ j a b ã x y z c. num 3 :* c :- (j :+ :1) :* (num 2 :* j :+ num 3) :* a :* y :- num 2 :* (j :+ :1) :* j :* b :* z
      :+ (num 2 :* (((j :+ num 4) :* ((j :+ num 4) :* x) :- (j :+ num 4) :* x) :+ a :* ((j :+ num 2) :* ((j :+ num 2) :* y) :- (j :+ num 2) :* y)
      :+ b :* ((j :+ :1) :* ((j :+ :1) :* z) :- (j :+ :1) :* z))
      :+ (num 3 :* (x :- (j :+ num 4) :* x) :+ a :* (y :- (j :+ num 2) :* y)) :- num 3 :* (num 2 :* x :+ c) :- ã :* :0)) tt
      (# j) A B Ã x y z c
      ∙ ap₂ (λ m n. # 3 ⊗ c ⊖ m ⊗ n ⊗ A ⊗ y ⊖ # 2 ⊗ m ⊗ # j ⊗ B ⊗ z ⊕ form (# j ⊕ # 4) (# j ⊕ # 2) (# j ⊕ 𝟙) (# 2 ⊗ x ⊕ c))
      (sym (cast_suc R j)) (sym (cast_twice R j 3))
      ∙ ap (λ y. right j ⊕ y) (sym form_is)
    where
      x : Car
      x = u (suc (suc (suc (suc j))))

      y : Car
      y = u (suc (suc j))

      z : Car
      z = u (suc j)

      c : Car
      c = conv R (tail R u) (tail R u) (suc (suc j))

      -- the coefficient of Ψ at j + 4
      form : Car → Car → Car → Car → Car
      form k l m c =
          # 2 ⊗ ((k ⊗ (k ⊗ x) ⊖ k ⊗ x) ⊕ A ⊗ (l ⊗ (l ⊗ y) ⊖ l ⊗ y) ⊕ B ⊗ (m ⊗ (m ⊗ z) ⊖ m ⊗ z))
          ⊕ (# 3 ⊗ (x ⊖ k ⊗ x) ⊕ A ⊗ (y ⊖ l ⊗ y)) ⊖ # 3 ⊗ c ⊖ Ã ⊗ 𝟘

      form_is : Ψ R q u (suc (suc (suc (suc j)))) ≡ form (# j ⊕ # 4) (# j ⊕ # 2) (# j ⊕ 𝟙) (# 2 ⊗ x ⊕ c)
      form_is =
          Ψ_at (suc (suc (suc (suc j))))
          ∙ ap₂ (λ k c. form k (# (suc (suc j))) (# (suc j)) c) (up4 R j) (square_at e (suc (suc j)))
          ∙ ap₂ (λ l m. form (# j ⊕ # 4) l m (# 2 ⊗ x ⊕ c)) (up2 R j) (cast_suc R j)

  pub recurrence : u 0 ≡ 𝟙 → Ψ R q u ≡ zeros R → (j : ℕ) → # (suc j) ⊗ # (2 * j + 9) ⊗ u (suc (suc (suc (suc j)))) ≡ right j
  recurrence e z j = recurrence_at e j ∙ ap (λ f. right j ⊕ f (suc (suc (suc (suc j))))) z ∙ R.add-zero (right j)

  -- a series that begins 1 + 0 t
  begins : (a : Seq R) → a 0 ≡ 𝟙 → a 1 ≡ 𝟘 → a ≡ 1ₛ +ₛ t *ₛ (t *ₛ tail R (tail R a))
  begins a e₀ e₁ = fun_ext go ∙ ap (λ y. 1ₛ +ₛ y) (sym (t²_is R (tail R (tail R a))))
    where
      go : (i : ℕ) → a i ≡ 1ₛ i ⊕ t² R (tail R (tail R a)) i
      go zero = e₀ ∙ sym (R.add-zero 𝟙)
      go (suc zero) = e₁ ∙ sym (R.add-zero 𝟘)
      go (suc (suc i)) = sym (Ring.zero-add R _)

  -- ── h₁ and h₂

  module _ (e₀ : u 0 ≡ 𝟙) (e₁ : u 1 ≡ 𝟘) where
    -- u = 1 + t² p and v = 1 + t² r
    p : Seq R
    p = tail R (tail R u)

    r : Seq R
    r = tail R (tail R (u -ₛ D R u))

    abbrev names : List (Seq R)
    names = t ∷ κ A ∷ κ B ∷ κ Ã ∷ κ B̃ ∷ p ∷ r ∷ []

    rest : Seq R
    rest = eval (Series R) (at (Series R) names) :rest

    v_second : (u -ₛ D R u) 1 ≡ 𝟘
    v_second = ap₂ ◌⊖◌ e₁ (D_at R u 1 ∙ ap (λ x. # 1 ⊗ x) e₁) ∙ solve1 R (λ x. :0 :- num 1 :* :0) (λ x. :0) tt 𝟘

    Φ_is : Φ R q u ≡ t *ₛ (t *ₛ (κ A +ₛ κ B *ₛ t +ₛ #ₛ 2 *ₛ r -ₛ #ₛ 3 *ₛ p -ₛ κ Ã -ₛ κ B̃ *ₛ t +ₛ t *ₛ (t *ₛ rest)))
    unfolding E.Φ rest p r
    Φ_is =
        ap₂ (λ u v. (1ₛ +ₛ κ A *ₛ t ^ₛ 2 +ₛ κ B *ₛ t ^ₛ 3) *ₛ v ^ₛ 2 -ₛ u ^ₛ 3 -ₛ κ Ã *ₛ t ^ₛ 2 *ₛ u -ₛ κ B̃ *ₛ t ^ₛ 3)
        (begins u e₀ e₁) (begins (u -ₛ D R u) (v_first e₀) v_second)
        ∙ ring (Series R) (at (Series R) names)
        (:F :* (:1 :+ :t :* (:t :* :r)) :^ 2 :- (:1 :+ :t :* (:t :* :p)) :^ 3 :- :ã :* :t :^ 2 :* (:1 :+ :t :* (:t :* :p)) :- :b̃ :* :t :^ 3)
        (:t :* (:t :* (:a :+ :b :* :t :+ num 2 :* :r :- num 3 :* :p :- :ã :- :b̃ :* :t :+ :t :* (:t :* :rest)))) tt

    Φ_at : (i : ℕ) → Φ R q u (suc (suc i)) ≡ κ A i ⊕ B ⊗ t i ⊕ # 2 ⊗ r i ⊖ # 3 ⊗ p i ⊖ κ Ã i ⊖ B̃ ⊗ t i ⊕ t² R rest i
    Φ_at i =
        ap (λ f. f (suc (suc i))) (Φ_is ∙ t²_is R _)
        ∙ ap₂ ◌⊕◌
        (ap₂ ◌⊖◌
        (ap (λ x. x ⊖ κ Ã i) (ap₂ ◌⊖◌ (ap₂ ◌⊕◌ (ap (λ x. κ A i ⊕ x) (conv_const R B t i)) (conv_cast R 2 r i)) (conv_cast R 3 p i)))
        (conv_const R B̃ t i))
        (ap (λ f. f i) (t²_is R rest))

    -- 5 h₁ = A − Ã, but for the coefficient of Φ at 2
    pub first_at : # 5 ⊗ u 2 ≡ A ⊖ Ã ⊖ Φ R q u 2
    unfolding ind p r
    first_at =
        solve5 R (λ a b ã b̃ x. num 5 :* x)
        (λ a b ã b̃ x. a :- ã :- (a :+ b :* :0 :+ num 2 :* (x :- num 2 :* x) :- num 3 :* x :- ã :- b̃ :* :0 :+ :0)) tt A B Ã B̃ (u 2)
        ∙ ap (λ x. A ⊖ Ã ⊖ (A ⊕ B ⊗ 𝟘 ⊕ # 2 ⊗ (u 2 ⊖ x) ⊖ # 3 ⊗ u 2 ⊖ Ã ⊖ B̃ ⊗ 𝟘 ⊕ 𝟘)) (sym (D_at R u 2))
        ∙ ap (λ x. A ⊖ Ã ⊖ x) (sym (Φ_at 0))

    -- 7 h₂ = B − B̃, but for the coefficient of Φ at 3
    pub second_at : # 7 ⊗ u 3 ≡ B ⊖ B̃ ⊖ Φ R q u 3
    unfolding ind p r
    second_at =
        solve5 R (λ a b ã b̃ x. num 7 :* x)
        (λ a b ã b̃ x. b :- b̃ :- (:0 :+ b :* :1 :+ num 2 :* (x :- num 3 :* x) :- num 3 :* x :- :0 :- b̃ :* :1 :+ :0)) tt A B Ã B̃ (u 3)
        ∙ ap (λ x. B ⊖ B̃ ⊖ (𝟘 ⊕ B ⊗ 𝟙 ⊕ # 2 ⊗ (u 3 ⊖ x) ⊖ # 3 ⊗ u 3 ⊖ 𝟘 ⊖ B̃ ⊗ 𝟙 ⊕ 𝟘)) (sym (D_at R u 3))
        ∙ ap (λ x. B ⊖ B̃ ⊖ x) (sym (Φ_at 1))

    pub first : Φ R q u ≡ zeros R → # 5 ⊗ u 2 ≡ A ⊖ Ã
    first z = first_at ∙ ap (λ f. A ⊖ Ã ⊖ f 2) z ∙ solve2 R (λ x y. x :- y :- :0) (λ x y. x :- y) tt A Ã

    pub second : Φ R q u ≡ zeros R → # 7 ⊗ u 3 ≡ B ⊖ B̃
    second z = second_at ∙ ap (λ f. B ⊖ B̃ ⊖ f 3) z ∙ solve2 R (λ x y. x :- y :- :0) (λ x y. x :- y) tt B B̃
