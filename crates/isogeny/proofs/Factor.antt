-- The polynomial of `Second` has the factor g², for every g: f'Wg + 2f(W'g − 3Wg') − 3N² − Ãg⁴ = g² M with W = N'g − 2Ng' and the N of R2, where
-- R3 is not asked. So it is M that tells at infinity, of degree at most ℓ + 1: there it is G² Ψ.
-- Assumes nothing.
use Rattle.std.specs.Prelude.{◌≡◌, refl, List, [], ◌∷◌, ℕ}
use Rattle.std.proofs.Common.{◌∙◌}
use Rattle.std.proofs.Math.Path.{ap, ap₂}
use Rattle.ring.specs.Ring.{CRing, cast, pow}
use Rattle.ring.specs.Identity.{Ex, eval, ring, at}
use Rattle.ring.specs.Identity.Ex.{var, num, :0, :1, ◌:+◌, ◌:-◌, ◌:*◌, :-◌, ◌:^◌}
use Rattle.ring.specs.Derivation as Deriv
use Rattle.ring.specs.Derivative.{Along, deriv, rules, derive}
use Rattle.series.specs.Series.{Series, Seq, Formal, const, ∂}
use Rattle.series.specs.Indeterminate.{ind, ∂-ind, ∂-const}
use Rattle.isogeny.specs.Rules.{Question, ℓ, f, N, W}
use Rattle.isogeny.proofs.Cubic.{∂-f}
use Rattle.isogeny.proofs.Second.{second}

module _ (R : CRing) (q : Question R) where
  open q use {A, B, Ã, d, σ}
  open Series R use {𝟘, 𝟙, add as ◌⊕◌, mul as ◌⊗◌, neg}

  infixl 65 ◌⊕◌ ◌⊖◌
  infixl 70 ◌⊗◌
  infixr 75 ◌^◌
  infix 80 #◌
  abbrev ◌⊖◌ : Seq R → Seq R → Seq R
  a ⊖ b = a ⊕ neg b

  abbrev ◌^◌ : Seq R → ℕ → Seq R
  a ^ n = pow (Series R) a n

  abbrev #◌ : ℕ → Seq R
  # n = cast (Series R) n

  abbrev κ : R.Car → Seq R
  κ c = const R c

  abbrev x : Seq R
  x = ind R

  -- ── as expressions in x, A, f, ℓ, σ, Ã, g and its derivatives up to the fourth

  module _ (g : Seq R) where
    abbrev g₁ : Seq R
    g₁ = ∂ R g

    abbrev g₂ : Seq R
    g₂ = ∂ R g₁

    abbrev g₃ : Seq R
    g₃ = ∂ R g₂

    abbrev g₄ : Seq R
    g₄ = ∂ R g₃

    abbrev pub xs : List (Seq R)
    xs = x ∷ κ A ∷ f R q ∷ # (ℓ R q) ∷ κ σ ∷ κ Ã ∷ g ∷ g₁ ∷ g₂ ∷ g₃ ∷ g₄ ∷ []

    abbrev value : Ex → Seq R
    value = eval (Series R) (at (Series R) xs)

    abbrev :x : Ex
    :x = var 0

    abbrev :f : Ex
    :f = var 2

    abbrev :ã : Ex
    :ã = var 5

    abbrev :g : Ex
    :g = var 6

    abbrev :g₁ : Ex
    :g₁ = var 7

    abbrev :g₂ : Ex
    :g₂ = var 8

    abbrev :g₃ : Ex
    :g₃ = var 9

    abbrev :g₄ : Ex
    :g₄ = var 10

    -- f' = 3x² + A, and ℓx − σ
    abbrev :f' : Ex
    :f' = num 3 :* :x :^ 2 :+ var 1

    abbrev :L : Ex
    :L = var 3 :* :x :- var 4

    abbrev es : List Ex
    es = :1 ∷ :0 ∷ :f' ∷ :0 ∷ :0 ∷ :0 ∷ :g₁ ∷ :g₂ ∷ :g₃ ∷ :g₄ ∷ []

    along : Along (Series R) (Formal R) (at (Series R) xs) xs es
    along =
        (∂-ind R, (∂-const R A, (∂-f R q, (Deriv.d_cast (Series R) (Formal R) (ℓ R q), (∂-const R σ, (∂-const R Ã, (refl, (refl, (refl, (refl, tt))))))))))

    -- the derivative of an expression
    abbrev :∂ : Ex → Ex
    :∂ = deriv (rules es)

    abbrev :N : Ex
    :N = :L :* :g :^ 2 :- num 2 :* :f' :* :g :* :g₁ :- num 4 :* :f :* (:g :* :g₂ :- :g₁ :^ 2)

    abbrev :W : Ex
    :W = :∂ :N :* :g :- num 2 :* :N :* :g₁

    abbrev pub :M : Ex
    :M =
        :- num 6 :* :f' :^ 2 :* (:g :* :g₂ :+ :g₁ :^ 2) :+ num 12 :* :f' :* (:L :- :x) :* :g :* :g₁ :- num 3 :* :L :^ 2 :* :g :^ 2
        :+ (var 3 :* :f' :- :ã) :* :g :^ 2
        :+ :f :* (:- num 24 :* :f' :* (:g :* :g₃ :- :g₁ :* :g₂) :+ num 24 :* (:L :- num 4 :* :x) :* (:g :* :g₂ :- :g₁ :^ 2) :- num 24 :* :g :* :g₁)
        :+ :f :^ 2 :* (:- num 8 :* :g :* :g₄ :+ num 32 :* :g₁ :* :g₃ :- num 24 :* :g₂ :^ 2)

    unfoldable pub M : Seq R
    M = value :M

    N' : ∂ R (N R q g) ≡ value (:∂ :N)
    unfolding N
    N' = derive (Series R) (Formal R) xs es along :N (:∂ :N) tt tt

    W_is : W R q g (N R q g) ≡ value :W
    unfolding W N
    W_is = ap (λ y. y ⊗ g ⊖ # 2 ⊗ N R q g ⊗ g₁) N'

    W' : ∂ R (W R q g (N R q g)) ≡ value (:∂ :W)
    W' = ap (∂ R) W_is ∙ derive (Series R) (Formal R) xs es along :W (:∂ :W) tt tt

    pub second_is : second R q g ≡ g ^ 2 ⊗ M
    unfolding second N M
    second_is =
        ap₂ (λ w w'. (# 3 ⊗ x ^ 2 ⊕ κ A) ⊗ w ⊗ g ⊕ # 2 ⊗ f R q ⊗ (w' ⊗ g ⊖ # 3 ⊗ w ⊗ g₁) ⊖ # 3 ⊗ N R q g ^ 2 ⊖ κ Ã ⊗ g ^ 4) W_is W'
        ∙ ring (Series R) (at (Series R) xs)
        (:f' :* :W :* :g :+ num 2 :* :f :* (:∂ :W :* :g :- num 3 :* :W :* :g₁) :- num 3 :* :N :^ 2 :- :ã :* :g :^ 4)
        (:g :^ 2 :* :M) tt
