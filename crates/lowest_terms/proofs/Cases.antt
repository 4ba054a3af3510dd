-- An irreducible factor π of g, where g meets the rules, over any field in which 1 to ℓ − 1 are not zero: g = πᵐ k with k coprime to π. If π divided f,
-- 2 m would be 1 in the field; so it does not, m is 1, and π does not divide g'.
-- Assumes nothing.
use Rattle.std.specs.Prelude.{◌≡◌, ◌≢◌, [], ◌∷◌, ℕ, suc, ◌*◌, ◌-◌, ◌≤◌, ◌<◌}
use Rattle.std.proofs.Common.{sym, ◌∙◌, subst}
use Rattle.std.proofs.Math.Path.{ap, ap₂, fun_ext}
use Rattle.std.proofs.Math.Decide.{dec_le}
use native.Mathlib.Omega.{arith}
use Rattle.ring.specs.Ring
use Rattle.ring.specs.Ring.{CRing, cast, cast_suc, cast_mul, pow}
use Rattle.ring.specs.Field.{Field}
use Rattle.ring.specs.Identity.{Ex, eval, at, solve2, solve3}
use Rattle.ring.specs.Identity.Ex.{◌:+◌, ◌:-◌, ◌:*◌, ◌:^◌}
use Rattle.ring.specs.Derivation.{d_cast, d_pow}
use Rattle.series.specs.Series.{Series, Seq, Formal, const, zeros, ∂, ∂-at, ∂-leibniz}
use Rattle.series.specs.Degree.{Poly, Leading, leading, monic_poly, poly_eval, poly_const, poly_cast, poly_add, poly_neg, poly_mul, poly_pow, poly_∂}
use Rattle.series.specs.Degree.{∂-below, leading_regular, regular_pow}
use Rattle.series.specs.Indeterminate.{cast_series}
use Rattle.isogeny.specs.Curve.{Nonsingular}
use Rattle.isogeny.specs.Rules as Rules
use Rattle.isogeny.specs.Rules.{Question, Meets, ℓ}
use Rattle.isogeny.specs.Source as Source
use Rattle.isogeny.proofs.Cubic.{poly_f, ∂-f}
use Rattle.divisibility.specs.Divides.{Divides, divides_zero, divides_degree}
use Rattle.divisibility.specs.Coprime.{Coprime, coprime_mul, coprime_pow, coprime_const}
use Rattle.divisibility.proofs.Coprime.{divisor_not_coprime}
use Rattle.divisibility.specs.Irreducible.{Irreducible, Multiplicity}
use Rattle.divisibility.proofs.Irreducible.{coprime_undivided, multiplicity}
use Rattle.lowest_terms.proofs.Discriminant.{square_free_f}
use Rattle.lowest_terms.proofs.Numerator.{poly_quadratic, poly_line}
use Rattle.lowest_terms.proofs.Factor as Factor
use Rattle.lowest_terms.proofs.Factor.{numerator, rest, :M, :E, :M₁, :E₁}
use Rattle.lowest_terms.proofs.Modulo as Modulo
use Rattle.lowest_terms.proofs.Modulo.{:S, :S₁, :T, :whole, :once}

module _ (R : CRing) (F : Field R) (q : Question R) (nonsingular : Nonsingular R q.A q.B)
    (units : (j : ℕ) → 1 ≤ j → j < ℓ R q → cast R j ≢ R.𝟘) (g : Seq R) (meets : Meets R q g) where
  open q use {A, B, Ã, B̃, d}
  open Series R use {𝟘, 𝟙, add as ◌⊕◌, mul as ◌⊗◌, neg}

  infixl 65 ◌⊕◌ ◌⊖◌
  infixl 70 ◌⊗◌
  infixr 75 ◌^◌
  infix 80 #◌
  abbrev ◌⊖◌ : Seq R → Seq R → Seq R
  a ⊖ b = a ⊕ neg b

  abbrev ◌^◌ : Seq R → ℕ → Seq R
  a ^ n = pow (Series R) a n

  abbrev #◌ : ℕ → Seq R
  # n = cast (Series R) n

  abbrev κ : R.Car → Seq R
  κ c = const R c

  abbrev K : CRing
  K = Series R

  abbrev f : Seq R
  f = Rules.f R q

  abbrev f' : Seq R
  f' = Source.quadratic R q

  abbrev line : Seq R
  line = Source.line R q

  g_nonzero : g ≢ zeros R
  g_nonzero z = F.apart (sym meets.r1.leading ∙ ap (λ s. s d) z)

  -- ── an irreducible factor π of degree e

  module _ (e : ℕ) (π : Seq R) (I : Irreducible R e π) (π∣g : Divides R π g) where
    L : Leading R e π
    L = leading R e π I.monic

    poly_π : Poly R π
    poly_π = monic_poly R e π I.monic

    -- π cannot both divide a and be coprime to it
    refute : (a : Seq R) → Coprime R π a → Divides R π a → ⊥
    refute a = divisor_not_coprime R F e π a I.positive L

    -- π divides g, so its degree is at most d
    degree_most : e ≤ d
    degree_most = divides_degree R e π g L π∣g g_nonzero d meets.r1.degree

    -- the numbers 1 to ℓ − 1 are units, so π is coprime to them
    number : (j : ℕ) → 1 ≤ j → j < ℓ R q → Coprime R π (# j)
    number j h l = subst (Coprime R π) (sym (cast_series R j)) (coprime_const R π (cast R j) (F.invert (cast R j) (units j h l)))

    -- π is coprime to π', which has a lower degree and is not zero
    separable : Coprime R π (∂ R π)
    separable = coprime_undivided R F e π I (∂ R π) (poly_∂ R π poly_π) undivided
      where
        undivided : Divides R π (∂ R π) → ⊥
        undivided D =
            let h : 1 ≤ e = I.positive in
            let l : e ≤ d = degree_most in
            units e h (omega arith)
            (sym (R.mul-one _) ∙ ap (R.mul (cast R e)) (sym I.monic.one) ∙ ap (λ j. R.mul (cast R j) (π j)) (omega arith)
            ∙ sym (∂-at R π (e - 1)) ∙ ap (λ s. s (e - 1)) (divides_zero R e π (∂ R π) L (∂-below R e π I.monic.below) D))

    -- M = c Z + π E and Z M² = M³ + π S cannot hold with Z coprime to π and 2 ≤ c = j + 1 < ℓ
    impossible : (j : ℕ) → 1 ≤ j → suc j < ℓ R q → (Z E S M : Seq R) → Poly R Z → Poly R E → Poly R S → Coprime R π Z
        → M ≡ # (suc j) ⊗ Z ⊕ π ⊗ E → Z ⊗ M ^ 2 ≡ M ^ 3 ⊕ π ⊗ S → ⊥
    unfolding Modulo.T
    impossible j h l Z E S M pZ pE pS cZ hM hS =
        refute (# j ⊗ (# j ⊕ 𝟙) ^ 2 ⊗ Z ^ 3)
        (coprime_mul R π _ _ (poly_mul R _ _ (poly_cast R j) (poly_pow R _ poly_next 2))
        (coprime_mul R π _ _ (poly_cast R j) (number j h (omega arith))
        (coprime_pow R π _ poly_next (subst (Coprime R π) next (number (suc j) (omega arith) l)) 2))
        (coprime_pow R π Z pZ cZ 3))
        (record {
          cofactor = Modulo.T K (Formal R) π (# j) Z E S;
          poly = poly_eval R (π ∷ # j ∷ Z ∷ E ∷ S ∷ []) (poly_π, (poly_cast R j, (pZ, (pE, (pS, tt))))) :T;
          is = Modulo.multiple K (Formal R) π (# j) Z E S M (hM ∙ ap (λ y. y ⊗ Z ⊕ π ⊗ E) next) hS;
        })
      where
        next : # (suc j) ≡ # j ⊕ 𝟙
        next = cast_suc K j

        poly_next : Poly R (# j ⊕ 𝟙)
        poly_next = poly_add R _ _ (poly_cast R j) (poly_const R R.𝟙)

    -- ── g = πᵐ k

    module _ (μ : Multiplicity R π g (suc d)) where
      open μ use {m, k, below as m_below, poly as poly_k, is, coprime as coprime_k}

      -- m is d at most and 1 at least
      m≤d : m ≤ d
      m≤d = let l : m < suc d = m_below in omega arith

      m≥1 : 1 ≤ m
      m≥1 = go (dec_le 1 m)
        where
          go : Dec (1 ≤ m) → 1 ≤ m
          go (yes h) = h
          go (no h) =
              absurd (refute k coprime_k
              (subst (Divides R π) (sym is ∙ ap (λ i. π ^ i ⊗ k) (omega arith) ∙ solve2 K (λ π k. π :^ 0 :* k) (λ π k. k) tt π k) π∣g))

      P : Seq R
      P = π ^ m

      poly_P : Poly R P
      unfolding P
      poly_P = poly_pow R π poly_π m

      M : Seq R
      M = Factor.M K (Formal R) π k (# m) line f f'

      -- expressions in π, k, .. are polynomials
      poly_names : (a a' : Seq R) → Poly R a → Poly R a' → (t : Ex) → Poly R (eval K (at K (Factor.names K (Formal R) π k (# m) line a a')) t)
      poly_names a a' p p' =
          let p₁ : Poly R (∂ R π) = poly_∂ R π poly_π in
          let k₁ : Poly R (∂ R k) = poly_∂ R k poly_k in
          poly_eval R (Factor.names K (Formal R) π k (# m) line a a')
          (poly_π, (p₁, (poly_∂ R _ p₁, (poly_k, (k₁, (poly_∂ R _ k₁, (poly_cast R m, (poly_line R q, (p, (p', tt))))))))))

      poly_letters : (a b : Seq R) → Poly R a → Poly R b → (t : Ex) → Poly R (eval K (at K (Modulo.letters K (Formal R) π k a b (κ Ã) (κ B̃))) t)
      poly_letters a b p p' =
          poly_eval R (Modulo.letters K (Formal R) π k a b (κ Ã) (κ B̃))
          (poly_π, (poly_∂ R π poly_π, (poly_k, (poly_∂ R k poly_k, (p, (p', (poly_∂ R b p', (poly_const R Ã, (poly_const R B̃, tt)))))))))

      poly_M : Poly R M
      unfolding M Factor.M
      poly_M = poly_names f f' (poly_f R q) (poly_quadratic R q) :M

      ∂-P : π ⊗ ∂ R P ≡ # m ⊗ P ⊗ ∂ R π
      unfolding P
      ∂-P = d_pow K (Formal R) π m

      R3_left : f ⊗ rest K (Formal R) π k M ^ 2 ≡ M ^ 3 ⊕ κ Ã ⊗ π ^ 4 ⊗ M ⊗ k ^ 4 ⊕ κ B̃ ⊗ π ^ 6 ⊗ k ^ 6
      unfolding M P Rules.N Rules.W Rules.left Rules.right
      R3_left =
          Ring.sub-zero K _ _
          (regular_pow R P poly_P (regular_pow R π poly_π (leading_regular R e π L) m) 6 _ (poly_letters f M (poly_f R q) poly_M :whole)
          (Factor.R3_at K (Formal R) π k (# m) line f f' P (d_cast K (Formal R) m) ∂-P (κ Ã) (κ B̃)
          (subst (λ y. f ⊗ Factor.W K (Formal R) (numerator K (Formal R) line f f' y) y ^ 2
          ≡ numerator K (Formal R) line f f' y ^ 3 ⊕ κ Ã ⊗ numerator K (Formal R) line f f' y ⊗ y ^ 4 ⊕ κ B̃ ⊗ y ^ 6) (sym is) (fun_ext meets.r3))))

      -- ── where π divides f = π f₁

      module _ (D : Divides R π f) where
        abbrev f₁ : Seq R
        f₁ = D.cofactor

        coprime_f₁ : Coprime R π f₁
        coprime_f₁ =
            coprime_undivided R F e π I f₁ D.poly
            (λ h. F.apart (sym I.monic.one ∙ square_free_f R q F nonsingular π poly_π (twice h) e I.positive))
          where
            twice : Divides R π f₁ → Divides R (π ^ 2) f
            twice h = record {
              cofactor = h.cofactor;
              poly = h.poly;
              is = solve2 K (λ π c. π :^ 2 :* c) (λ π c. π :* (π :* c)) tt π h.cofactor ∙ ap (λ y. π ⊗ y) h.is ∙ D.is;
            }

        f'_is : f' ≡ ∂ R π ⊗ f₁ ⊕ π ⊗ ∂ R f₁
        f'_is = sym (∂-f R q) ∙ ap (∂ R) (sym D.is) ∙ ∂-leibniz R π f₁

        Y : Seq R
        Y = f₁ ⊗ (∂ R π ⊗ k) ^ 2

        poly_π'k : Poly R (∂ R π ⊗ k)
        poly_π'k = poly_mul R _ k (poly_∂ R π poly_π) poly_k

        poly_Y : Poly R Y
        unfolding Y
        poly_Y = poly_mul R f₁ _ D.poly (poly_pow R _ poly_π'k 2)

        coprime_Y : Coprime R π Y
        unfolding Y
        coprime_Y =
            coprime_mul R π f₁ _ D.poly coprime_f₁
            (coprime_pow R π _ poly_π'k (coprime_mul R π _ k (poly_∂ R π poly_π) separable coprime_k) 2)

        M₁ : Seq R
        M₁ = Factor.M₁ K (Formal R) π k (# m) line f₁ (∂ R f₁)

        poly_M₁ : Poly R M₁
        unfolding M₁ Factor.M₁
        poly_M₁ = poly_names f₁ (∂ R f₁) D.poly (poly_∂ R f₁ D.poly) :M₁

        E₁ : Seq R
        E₁ = Factor.E₁ K (Formal R) π k (# m) line f₁ (∂ R f₁)

        poly_E₁ : Poly R E₁
        unfolding E₁ Factor.E₁
        poly_E₁ = poly_names f₁ (∂ R f₁) D.poly (poly_∂ R f₁ D.poly) :E₁

        M_once : M ≡ π ⊗ M₁
        unfolding M M₁
        M_once = ap₂ (Factor.M K (Formal R) π k (# m) line) (sym D.is) f'_is ∙ Factor.M_once K (Formal R) π k (# m) line f₁ (∂ R f₁)

        M₁_is : M₁ ≡ # 2 ⊗ # m ⊗ Y ⊕ π ⊗ E₁
        unfolding M₁ E₁ Y
        M₁_is = Factor.M₁_is K (Formal R) π k (# m) line f₁ (∂ R f₁)

        once : Modulo.once K (Formal R) π k f₁ M₁ (κ Ã) (κ B̃) ≡ 𝟘
        once =
            regular_pow R π poly_π (leading_regular R e π L) 3 _ (poly_letters f₁ M₁ D.poly poly_M₁ :once)
            (Modulo.once_zero K (Formal R) π k f₁ M₁ (κ Ã) (κ B̃)
            (ap₂ (λ y z. y ⊗ rest K (Formal R) π k z ^ 2) D.is (sym M_once) ∙ R3_left
            ∙ ap (λ z. z ^ 3 ⊕ κ Ã ⊗ π ^ 4 ⊗ z ⊗ k ^ 4 ⊕ κ B̃ ⊗ π ^ 6 ⊗ k ^ 6) M_once))

        -- with c = 2 m, which is not 1
        f_case : ⊥
        unfolding Y Modulo.S₁
        f_case =
            let l : m ≤ d = m≤d in
            let h : 1 ≤ m = m≥1 in
            impossible (2 * m - 1) (omega arith) (omega arith) Y E₁ (Modulo.S₁ K (Formal R) π k f₁ M₁ (κ Ã) (κ B̃)) M₁
            poly_Y poly_E₁ (poly_letters f₁ M₁ D.poly poly_M₁ :S₁) coprime_Y
            (M₁_is ∙ ap (λ y. y ⊗ Y ⊕ π ⊗ E₁) (sym (cast_mul K 2 m) ∙ ap #◌ (omega arith)))
            (Modulo.modulo_once K (Formal R) π k f₁ M₁ (κ Ã) (κ B̃) once)

      -- ── so it does not

      coprime_f : Coprime R π f
      coprime_f = coprime_undivided R F e π I f (poly_f R q) f_case

      Z : Seq R
      Z = f ⊗ (# 2 ⊗ ∂ R π ⊗ k) ^ 2

      poly_2π'k : Poly R (# 2 ⊗ ∂ R π ⊗ k)
      poly_2π'k = poly_mul R _ k (poly_mul R _ _ (poly_cast R 2) (poly_∂ R π poly_π)) poly_k

      poly_Z : Poly R Z
      unfolding Z
      poly_Z = poly_mul R f _ (poly_f R q) (poly_pow R _ poly_2π'k 2)

      coprime_Z : Coprime R π Z
      unfolding Z
      coprime_Z =
          coprime_mul R π f _ (poly_f R q) coprime_f
          (coprime_pow R π _ poly_2π'k
          (coprime_mul R π _ k (poly_mul R _ _ (poly_cast R 2) (poly_∂ R π poly_π))
          (coprime_mul R π (# 2) _ (poly_cast R 2) (number 2 (omega arith) (let l : m ≤ d = m≤d in let h : 1 ≤ m = m≥1 in omega arith)) separable)
          coprime_k) 2)

      E₀ : Seq R
      E₀ = Factor.E K (Formal R) π k (# m) line f f'

      poly_E₀ : Poly R E₀
      unfolding E₀ Factor.E
      poly_E₀ = poly_names f f' (poly_f R q) (poly_quadratic R q) :E

      M_is : M ≡ # m ⊗ Z ⊕ π ⊗ E₀
      unfolding M Z E₀
      M_is = Factor.M_is K (Formal R) π k (# m) line f f'

      -- with c = m, if that is not 1
      m_one : m ≡ 1
      unfolding Z Modulo.S
      m_one = go (dec_le m 1)
        where
          go : Dec (m ≤ 1) → m ≡ 1
          go (yes l) = let h : 1 ≤ m = m≥1 in omega arith
          go (no h) =
              let l : m ≤ d = m≤d in
              absurd (impossible (m - 1) (omega arith) (omega arith) Z E₀ (Modulo.S K (Formal R) π k f M (κ Ã) (κ B̃)) M
              poly_Z poly_E₀ (poly_letters f M (poly_f R q) poly_M :S) coprime_Z
              (M_is ∙ ap (λ i. # i ⊗ Z ⊕ π ⊗ E₀) (omega arith)) (Modulo.modulo K (Formal R) π k f M (κ Ã) (κ B̃) R3_left))

      -- g = π k, so π does not divide g' = π' k + π k'
      derivative_case : Divides R π (∂ R g) → ⊥
      derivative_case D =
          refute (∂ R π ⊗ k) (coprime_mul R π (∂ R π) k (poly_∂ R π poly_π) separable coprime_k)
          (record { cofactor = D.cofactor ⊖ ∂ R k; poly = poly_add R _ _ D.poly (poly_neg R _ (poly_∂ R k poly_k)); is = divided })
        where
          g_is : π ⊗ k ≡ g
          g_is = solve2 K (λ π k. π :* k) (λ π k. π :^ 1 :* k) tt π k ∙ ap (λ i. π ^ i ⊗ k) (sym m_one) ∙ is

          divided : π ⊗ (D.cofactor ⊖ ∂ R k) ≡ ∂ R π ⊗ k
          divided =
              solve3 K (λ π y z. π :* (y :- z)) (λ π y z. π :* y :- π :* z) tt π D.cofactor (∂ R k)
              ∙ ap (λ y. y ⊖ π ⊗ ∂ R k) (D.is ∙ ap (∂ R) (sym g_is) ∙ ∂-leibniz R π k)
              ∙ solve2 K (λ y z. y :+ z :- z) (λ y z. y) tt (∂ R π ⊗ k) (π ⊗ ∂ R k)

    -- ── for use

    multiplicity_g : Multiplicity R π g (suc d)
    multiplicity_g = multiplicity R F e π I (suc d) g meets.r1.degree g_nonzero

    pub not_f : Divides R π f → ⊥
    not_f = f_case multiplicity_g

    pub not_derivative : Divides R π (∂ R g) → ⊥
    not_derivative = derivative_case multiplicity_g
