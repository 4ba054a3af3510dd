-- R3 by ℓ conditions: where g meets R1 and the integers from 1 to 3 ℓ − 3 can be cancelled, R3 holds (with the N of R2) if and only if
-- 5 h₁ = A − Ã, 7 h₂ = B − B̃ and document 01's recurrence holds for h₃ to h_ℓ. Where one integer e cannot be cancelled, one coefficient of R3,
-- that of x^(3 ℓ − 3 − e), is to be compared besides.
-- The conditions say that Ψ, R3's derivative divided by N' g − 2 N g', has no coefficient up to ℓ + 1; it is a polynomial of degree ℓ + 1 over G², so it is
-- zero; so (k − 3) Φ_k = 0 for every k; so Φ, a polynomial of degree 3 ℓ over G⁶, is zero, and that is R3.
-- Assumes nothing.
use Rattle.std.specs.Prelude.{◌↔◌, ◌≢◌, ◌≡◌, ℕ, zero, suc, ◌+◌, ◌*◌, ◌-◌, ◌≤◌}
use Rattle.std.proofs.Common.{sym, ◌∙◌, ap, ap₂, arith}
use Rattle.std.proofs.Math.Path.{fun_ext}
use Rattle.std.proofs.Math.Decide.{dec_le, ℕ_discrete}
use Rattle.ring.specs.Ring
use Rattle.ring.specs.Ring.{CRing, cast, cast_add, pow}
use Rattle.ring.specs.Identity.{solve1, solve2, solve3, solve5, solve6, solve7}
use Rattle.ring.specs.Identity.Ex.{num, :0, :1, ◌:+◌, ◌:-◌, ◌:*◌, :-◌}
use Rattle.series.specs.Series as S
use Rattle.series.specs.Series.{Series, Seq, Euler, conv, const, tail, zeros, D, D_at}
use Rattle.series.specs.Degree.{Below}
use Rattle.series.specs.ConstantTerm.{pow_first, zero_upto, begins}
use Rattle.series.specs.Recursion.{Before}
use Rattle.series.specs.Indeterminate.{ind, conv_cast, D_ind, D_const}
use Rattle.series.specs.Reversal.{rev, rev_at, r_past, r_back}
use Rattle.isogeny.specs.Rules.{Question, R1, R3, N, ℓ, left, right}
use Rattle.isogeny.specs.Expansion.{Recurs, expansion, PowerSums, power_sums_of, Short, Extra}
use Rattle.isogeny.proofs.Cancelling.{Cancels, CancelsBut}
use Rattle.isogeny.proofs.Equation as E
use Rattle.isogeny.proofs.Infinity as I
use Rattle.isogeny.proofs.Infinity.{reversed, quot, Φ, Ψ}
use Rattle.isogeny.proofs.Recurrence as Rec
use Rattle.isogeny.proofs.FactorAtInfinity as Factor
use Rattle.isogeny.proofs.Conditions as C
use Rattle.isogeny.proofs.Sums.{h_is, G_first, sums_only}
use Rattle.isogeny.proofs.Terms.{expansion_same, short_same}

module _ (R : CRing) (q : Question R) (d≥1 : 1 ≤ q.d) (g : Seq R) (r1 : R1 R q g) where
  open q use {A, B, Ã, B̃, d}
  open R use {Car, 𝟘, 𝟙, add as ◌⊕◌, mul as ◌⊗◌, neg}

  infixl 65 ◌⊕◌ ◌⊖◌
  infixl 70 ◌⊗◌
  infix 80 #◌
  abbrev ◌⊖◌ : Car → Car → Car
  a ⊖ b = a ⊕ neg b

  abbrev #◌ : ℕ → Car
  # n = cast R n

  abbrev G : Seq R
  G = reversed R q g

  abbrev u : Seq R
  u = quot R q (I.power_sums_of R q g)

  abbrev h : Seq R
  h = expansion R A B (power_sums_of R d g)

  abbrev e₀ : u 0 ≡ 𝟙
  e₀ = C.u_first R q d≥1 g r1

  abbrev e₁ : u 1 ≡ 𝟘
  e₁ = C.u_second R q d≥1 g r1

  -- ── the coefficients of Ψ that are no recurrence

  Ψ_0 : Ψ R q u 0 ≡ 𝟘
  Ψ_0 =
      Rec.Ψ_at R q u 0
      ∙ solve5 R
      (λ a b ã x c. num 2 :* (num 0 :* (num 0 :* x) :- num 0 :* x :+ a :* :0 :+ b :* :0) :+ (num 3 :* (x :- num 0 :* x) :+ a :* :0) :- num 3 :* c :- ã :* :0)
      (λ a b ã x c. num 3 :* (x :- c)) tt A B Ã (u 0) (conv R u u 0)
      ∙ ap₂ (λ x c. # 3 ⊗ (x ⊖ c)) e₀ (S.conv_zero R u u ∙ ap₂ ◌⊗◌ e₀ e₀)
      ∙ solve1 R (λ x. num 3 :* (:1 :- :1 :* :1)) (λ x. :0) tt 𝟘

  Ψ_1 : Ψ R q u 1 ≡ 𝟘
  Ψ_1 =
      Rec.Ψ_at R q u 1
      ∙ solve5 R
      (λ a b ã y c. num 2 :* (num 1 :* (num 1 :* y) :- num 1 :* y :+ a :* :0 :+ b :* :0) :+ (num 3 :* (y :- num 1 :* y) :+ a :* :0) :- num 3 :* c :- ã :* :0)
      (λ a b ã y c. :- (num 3 :* c)) tt A B Ã (u 1) (conv R u u 1)
      ∙ ap (λ c. neg (# 3 ⊗ c)) (S.conv_suc R u u 0 ∙ ap₂ (λ y z. u 0 ⊗ y ⊕ z) e₁ (S.conv_zero R (tail R u) u ∙ ap (λ y. y ⊗ u 0) e₁))
      ∙ solve1 R (λ x. :- (num 3 :* (x :* :0 :+ :0 :* x))) (λ x. :0) tt (u 0)

  -- A − Ã − 5 h₁
  Ψ_2 : Ψ R q u 2 ≡ A ⊖ Ã ⊖ # 5 ⊗ u 2
  Ψ_2 =
      Rec.Ψ_at R q u 2
      ∙ solve6 R
      (λ a b ã x z c. num 2 :* (num 2 :* (num 2 :* z) :- num 2 :* z :+ a :* (num 0 :* (num 0 :* x) :- num 0 :* x) :+ b :* :0)
      :+ (num 3 :* (z :- num 2 :* z) :+ a :* (x :- num 0 :* x)) :- num 3 :* c :- ã :* :1)
      (λ a b ã x z c. a :* x :+ z :- num 3 :* c :- ã) tt A B Ã (u 0) (u 2) (conv R u u 2)
      ∙ ap₂ (λ x c. A ⊗ x ⊕ u 2 ⊖ # 3 ⊗ c ⊖ Ã) e₀
      (Rec.square_at R q u e₀ 0 ∙ ap (λ y. # 2 ⊗ u 2 ⊕ y) (S.conv_zero R (tail R u) (tail R u) ∙ ap₂ ◌⊗◌ e₁ e₁))
      ∙ solve3 R (λ a ã z. a :* :1 :+ z :- num 3 :* (num 2 :* z :+ :0 :* :0) :- ã) (λ a ã z. a :- ã :- num 5 :* z) tt A Ã (u 2)

  Ψ_3 : Ψ R q u 3 ≡ 𝟘
  Ψ_3 =
      Rec.Ψ_at R q u 3
      ∙ solve7 R
      (λ a b ã x y w c. num 2 :* (num 3 :* (num 3 :* w) :- num 3 :* w :+ a :* (num 1 :* (num 1 :* y) :- num 1 :* y) :+ b :*
      (num 0 :* (num 0 :* x) :- num 0 :* x))
      :+ (num 3 :* (w :- num 3 :* w) :+ a :* (y :- num 1 :* y)) :- num 3 :* c :- ã :* :0)
      (λ a b ã x y w c. num 6 :* w :- num 3 :* c) tt A B Ã (u 0) (u 1) (u 3) (conv R u u 3)
      ∙ ap (λ c. # 6 ⊗ u 3 ⊖ # 3 ⊗ c)
      (Rec.square_at R q u e₀ 1
      ∙ ap (λ y. # 2 ⊗ u 3 ⊕ y) (S.conv_suc R (tail R u) (tail R u) 0 ∙ ap₂ (λ y z. y ⊗ u 2 ⊕ z) e₁
      (S.conv_zero R (tail R (tail R u)) (tail R u) ∙ ap (λ y. u 2 ⊗ y) e₁)))
      ∙ solve2 R (λ z w. num 6 :* w :- num 3 :* (num 2 :* w :+ (:0 :* z :+ z :* :0))) (λ z w. :0) tt (u 2) (u 3)

  -- ── from the conditions, Ψ is zero

  module _ (short : Short R q h) where
    Ψ_more : (j : ℕ) → suc (suc (suc (suc j))) ≤ suc (ℓ R q) → Ψ R q u (suc (suc (suc (suc j)))) ≡ 𝟘
    Ψ_more j l =
        Ring.add_right_cancel R _ _ (Rec.right R q u j)
        (R.add_comm _ _ ∙ sym (Rec.recurrence_at R q u e₀ j) ∙ sym (C.left_is R q d≥1 g r1 j) ∙ short.recurs (suc (suc (suc j))) (omega arith) (omega arith)
        ∙ C.right_is R q d≥1 g r1 j
        ∙ sym (Ring.zero-add R _))

    Ψ_upto : (i : ℕ) → i ≤ suc (ℓ R q) → Ψ R q u i ≡ 𝟘
    Ψ_upto zero l = Ψ_0
    Ψ_upto (suc zero) l = Ψ_1
    Ψ_upto (suc (suc zero)) l =
        Ψ_2 ∙ ap (λ y. A ⊖ Ã ⊖ y) (ap (λ y. # 5 ⊗ y) (sym (h_is R q d≥1 g r1 1)) ∙ short.first) ∙ R.add-neg (A ⊖ Ã)
    Ψ_upto (suc (suc (suc zero))) l = Ψ_3
    Ψ_upto (suc (suc (suc (suc j)))) l = Ψ_more j l

    Ψ_zero : Ψ R q u ≡ zeros R
    Ψ_zero = zero_upto R (suc (ℓ R q)) (pow (Series R) G 2) _ (pow_first R G (I.G_first R q g r1) 2) (r_past R (Factor.r_M R q g r1)) Ψ_upto

    -- ── so Φ is zero

    Φ_3 : Φ R q u 3 ≡ 𝟘
    Φ_3 =
        solve2 R (λ y z. z) (λ y z. y :- (y :- z)) tt (B ⊖ B̃) (Φ R q u 3)
        ∙ ap (λ y. B ⊖ B̃ ⊖ y) (sym (Rec.second_at R q u e₀ e₁) ∙ ap (λ y. # 7 ⊗ y) (sym (h_is R q d≥1 g r1 2)) ∙ short.second)
        ∙ R.add-neg (B ⊖ B̃)

    -- 3 Φ = D Φ
    Φ_scaled : (i : ℕ) → # 3 ⊗ Φ R q u i ≡ # i ⊗ Φ R q u i
    Φ_scaled i =
        Ring.sub-zero R _ _
        (sym (ap₂ ◌⊖◌ (conv_cast R 3 (Φ R q u) i) (D_at R (Φ R q u) i))
        ∙ ap (λ f. f i)
        (sym (E.identity (Series R) (Euler R) (ind R) (const R A) (const R B) (const R Ã) (const R B̃) u
        (D_ind R) (fun_ext (D_const R A)) (fun_ext (D_const R B)) (fun_ext (D_const R Ã)) (fun_ext (D_const R B̃)))
        ∙ ap (conv R (S.sums R u (S.negs R (D R u)))) Ψ_zero ∙ Ring.mul-zero (Series R) _))

    gap : (i m : ℕ) (y : Car) → # (i + m) ⊗ y ≡ # i ⊗ y → # m ⊗ y ≡ 𝟘
    gap i m y e =
        solve3 R (λ i m y. m :* y) (λ i m y. (i :+ m) :* y :- i :* y) tt (# i) (# m) y
        ∙ ap (λ z. z ⊖ # i ⊗ y) (ap (λ z. z ⊗ y) (sym (cast_add R i m)) ∙ e) ∙ R.add-neg _

    module _ (e : ℕ) (e≥4 : 4 ≤ e) (cancel : CancelsBut R (3 * ℓ R q - 3) e) (extra : Extra R q g e) where
      -- but at e + 3
      Φ_but : (i : ℕ) → i ≤ 3 * ℓ R q → i ≢ e + 3 → Φ R q u i ≡ 𝟘
      Φ_but i l ne = go (dec_le i 2) (dec_le 4 i)
        where
          y : Car
          y = Φ R q u i

          go : Dec (i ≤ 2) → Dec (4 ≤ i) → Φ R q u i ≡ 𝟘
          go (yes a) b = cancel (3 - i) (omega arith) (omega arith) (omega arith) y (gap i (3 - i) y (ap (λ n. # n ⊗ y) (omega arith) ∙ Φ_scaled i))
          go (no a) (yes b) =
              cancel (i - 3) (omega arith) (omega arith) (omega arith) y (gap 3 (i - 3) y (ap (λ n. # n ⊗ y) (omega arith) ∙ sym (Φ_scaled i)))
          go (no a) (no b) = ap (Φ R q u) (omega arith) ∙ Φ_3

      abbrev G⁶Φ : Seq R
      G⁶Φ = conv R (pow (Series R) G 6) (Φ R q u)

      -- the coefficient of x^i in R3, where i + j = 3 ℓ
      G⁶Φ_at : (i j : ℕ) → i + j ≡ 3 * ℓ R q → G⁶Φ j ≡ left R q g (N R q g) i ⊖ right R q g (N R q g) i
      G⁶Φ_at i j s =
          ap (λ f. f j) (I.sides R q g r1)
          ∙ ap₂ ◌⊖◌
          (ap (λ f. f j) (sym (I.r_left_side R q g r1).same) ∙ ap (λ m. rev R m (left R q g (N R q g)) j) (sym s) ∙ rev_at R i j _)
          (ap (λ f. f j) (sym (I.r_right_side R q g r1).same) ∙ ap (λ m. rev R m (right R q g (N R q g)) j) (sym s) ∙ rev_at R i j _)

      Φ_there : e + 3 ≤ 3 * ℓ R q → Φ R q u (e + 3) ≡ 𝟘
      Φ_there l =
          sym (begins R (e + 3) (pow (Series R) G 6) (Φ R q u) (pow_first R G (I.G_first R q g r1) 6) (λ i m. Φ_but i (omega arith) (omega arith)))
          ∙ G⁶Φ_at (3 * ℓ R q - 3 - e) (e + 3) (omega arith) ∙ ap (λ y. y ⊖ right R q g (N R q g) (3 * ℓ R q - 3 - e)) (extra (omega arith)) ∙ R.add-neg _

      Φ_upto : (i : ℕ) → i ≤ 3 * ℓ R q → Φ R q u i ≡ 𝟘
      Φ_upto i l = go (ℕ_discrete i (e + 3))
        where
          go : Dec (i ≡ e + 3) → Φ R q u i ≡ 𝟘
          go (yes s) = ap (Φ R q u) s ∙ Φ_there (omega arith)
          go (no ne) = Φ_but i l ne

      past : Below R (suc (3 * ℓ R q)) G⁶Φ
      past i l =
          ap (λ f. f i) (I.sides R q g r1) ∙ ap₂ ◌⊖◌ (r_past R (I.r_left_side R q g r1) i l) (r_past R (I.r_right_side R q g r1) i l) ∙ R.add-neg 𝟘

      Φ_zero : Φ R q u ≡ zeros R
      Φ_zero = zero_upto R (3 * ℓ R q) (pow (Series R) G 6) _ (pow_first R G (I.G_first R q g r1) 6) past Φ_upto

      R3_holds : R3 R q g (N R q g)
      R3_holds i =
          ap (λ f. f i)
          (r_back R
          (Ring.sub-zero (Series R) _ _ (sym (I.sides R q g r1) ∙ ap (conv R (pow (Series R) G 6)) Φ_zero ∙ Ring.mul-zero (Series R) _))
          (I.r_left_side R q g r1) (I.r_right_side R q g r1))

  -- ── the theorem

  -- for power sums of which s₀ to s_(ℓ + 1) are known to obey Newton's identities
  module _ (s : Seq R) (sums : PowerSums R d g (suc (ℓ R q)) s) where
    same : Before Car (suc (ℓ R q)) (expansion R A B s) h
    same = expansion_same R A B (suc (ℓ R q)) s (power_sums_of R d g) (sums_only R d g (G_first R q d≥1 g r1) (suc (ℓ R q)) s sums)

    there : R3 R q g (N R q g) → Short R q (expansion R A B s)
    there r3 = short_same R q h (expansion R A B s) (λ i l. sym (same i l)) d≥1 (C.conditions R q d≥1 g r1 r3)

    back : Short R q (expansion R A B s) → Short R q h
    back = short_same R q (expansion R A B s) h same d≥1

    -- where the integers from 1 to 3 ℓ − 3 but e can be cancelled, R3 holds if and only if the short conditions hold and the one coefficient agrees
    pub fast_but : (e : ℕ) → 4 ≤ e → CancelsBut R (3 * ℓ R q - 3) e → R3 R q g (N R q g) ↔ (Short R q (expansion R A B s) × Extra R q g e)
    fast_but e e≥4 cancel = (λ r3. (there r3, λ l. r3 _), λ c. R3_holds (back c.0) e e≥4 cancel c.1)

    -- where all of them can be cancelled, R3 holds if and only if the short conditions hold
    pub fast : Cancels R (3 * ℓ R q - 3) → R3 R q g (N R q g) ↔ Short R q (expansion R A B s)
    fast cancel =
        (there, λ short. R3_holds (back short) (3 * ℓ R q) (omega arith) (λ k l m ne. cancel k l m) (λ l. absurd (omega arith)))

-- to the codomain that h gives, the short conditions are the recurrence
pub short_kernel : (R : CRing) (q : Question R) (h : Seq R)
    → q.Ã ≡ R.add q.A (R.neg (R.mul (cast R 5) (h 1))) → q.B̃ ≡ R.add q.B (R.neg (R.mul (cast R 7) (h 2)))
    → Short R q h ↔ ((k : ℕ) → 3 ≤ k → k ≤ ℓ R q → Recurs R q.A q.B h k)
short_kernel R q h a b = (λ short. short.recurs, λ rec. record { first = back q.A _ q.Ã a; second = back q.B _ q.B̃ b; recurs = rec })
  where
    back : (x y z : R.Car) → z ≡ R.add x (R.neg y) → y ≡ R.add x (R.neg z)
    back x y z c = solve2 R (λ x y. y) (λ x y. x :- (x :- y)) tt x y ∙ ap (λ t. R.add x (R.neg t)) (sym c)
