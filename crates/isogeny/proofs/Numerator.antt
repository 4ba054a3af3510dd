-- What N and N' g − 2 N g' are after reversal, in any commutative ring with a derivation d: G stands for g reversed, n for its degree, and P is
-- such that d G = −P G.
-- Assumes nothing.
use Rattle.std.specs.Prelude.{◌≡◌, List, [], ◌∷◌, ℕ, T}
use Rattle.std.proofs.Math.Path.{refl, ap, ap₂}
use Rattle.std.proofs.Common.{sym, ◌∙◌}
use Rattle.ring.specs.Ring.{CRing, cast, pow}
use Rattle.ring.specs.Identity.{Ex, eval, same, at, solve3, solve4, solve5, solve7}
use Rattle.ring.specs.Identity.Ex.{var, num, :0, :1, ◌:+◌, ◌:-◌, ◌:*◌, :-◌, ◌:^◌}
use Rattle.ring.specs.Derivation.{Derivation}
use Rattle.ring.specs.Derivative.{derive, deriv, known, rules}

module _ (K : CRing) (δ : Derivation K) where
  open K use {Car, 𝟘, 𝟙, add as ◌⊕◌, mul as ◌⊗◌, neg}
  open δ use {d}

  infixl 65 ◌⊕◌ ◌⊖◌
  infixl 70 ◌⊗◌
  infixr 75 ◌^◌
  infix 80 #◌
  abbrev ◌⊖◌ : Car → Car → Car
  a ⊖ b = a ⊕ neg b

  abbrev ◌^◌ : Car → ℕ → Car
  a ^ n = pow K a n

  abbrev #◌ : ℕ → Car
  # n = cast K n

  -- x g', and x² g''
  unfoldable pub slope : Car → Car → Car
  slope n G = n ⊗ G ⊖ d G

  slope_at : (n G : Car) → slope n G ≡ n ⊗ G ⊖ d G
  unfolding slope
  slope_at n G = refl

  unfoldable pub bend : Car → Car → Car
  bend n G = slope n (slope n G) ⊖ slope n G

  -- the power sums, each root counted twice, and N / g²
  unfoldable pub power : Car → Car → Car
  power n P = # 2 ⊗ (n ⊕ P)

  unfoldable pub quotient : Car → Car → Car → Car → Car
  quotient lin quad F S = lin ⊖ quad ⊗ S ⊕ # 2 ⊗ F ⊗ (S ⊕ d S)

  module _ (n G P : Car) (dn : d n ≡ 𝟘) (dG : d G ≡ neg (P ⊗ G)) where
    slope_is : slope n G ≡ (n ⊕ P) ⊗ G
    unfolding slope
    slope_is = ap (λ x. n ⊗ G ⊖ x) dG ∙ solve3 K (λ n G P. n :* G :- :- (P :* G)) (λ n G P. (n :+ P) :* G) tt n G P

    -- the derivative of an expression in n, G, P, u is one in those, d P and d u
    module _ (u : Car) where
      abbrev names : List Car
      names = n ∷ G ∷ P ∷ u ∷ d P ∷ d u ∷ []

      abbrev laws : List Ex
      laws = :0 ∷ :- (var 2 :* var 1) ∷ var 4 ∷ var 5 ∷ []

      d_by_laws : (a b : Ex) → T (known laws a) → T (same (deriv (rules laws) a) b) → d (eval K (at K names) a) ≡ eval K (at K names) b
      d_by_laws = derive K δ names laws (dn, (dG, (refl, (refl, tt))))

      d_slope : d ((n ⊕ P) ⊗ G) ≡ (d P ⊖ (n ⊕ P) ⊗ P) ⊗ G
      d_slope = d_by_laws ((var 0 :+ var 2) :* var 1) ((var 4 :- (var 0 :+ var 2) :* var 2) :* var 1) tt tt

      d_power : d (# 2 ⊗ (n ⊕ P)) ≡ # 2 ⊗ d P
      d_power = d_by_laws (num 2 :* (var 0 :+ var 2)) (num 2 :* var 4) tt tt

      d_numerator : d (u ⊗ G ^ 2) ≡ (d u ⊖ # 2 ⊗ P ⊗ u) ⊗ G ^ 2
      d_numerator = d_by_laws (var 3 :* var 1 :^ 2) ((var 5 :- num 2 :* var 2 :* var 3) :* var 1 :^ 2) tt tt

    bend_is : bend n G ≡ ((n ⊕ P) ^ 2 ⊖ (n ⊕ P) ⊖ d P) ⊗ G
    unfolding bend slope
    bend_is =
        ap (λ s. n ⊗ s ⊖ d s ⊖ s) slope_is
        ∙ ap (λ y. n ⊗ ((n ⊕ P) ⊗ G) ⊖ y ⊖ (n ⊕ P) ⊗ G) (d_slope 𝟘)
        ∙ solve4 K (λ n G P e. n :* ((n :+ P) :* G) :- (e :- (n :+ P) :* P) :* G :- (n :+ P) :* G) (λ n G P e. ((n :+ P) :^ 2 :- (n :+ P) :- e) :* G) tt
        n G P (d P)

    -- N reversed
    pub numerator : (lin quad F : Car) → lin ⊗ G ^ 2 ⊖ # 2 ⊗ quad ⊗ G ⊗ slope n G ⊖ # 4 ⊗ F ⊗ (G ⊗ bend n G ⊖ slope n G ^ 2)
        ≡ quotient lin quad F (power n P) ⊗ G ^ 2
    unfolding quotient power
    numerator lin quad F =
        ap₂ (λ s b. lin ⊗ G ^ 2 ⊖ # 2 ⊗ quad ⊗ G ⊗ s ⊖ # 4 ⊗ F ⊗ (G ⊗ b ⊖ s ^ 2)) slope_is bend_is
        ∙ solve7 K
        (λ n G P e l q f. l :* G :^ 2 :- num 2 :* q :* G :* ((n :+ P) :* G) :- num 4 :* f :*
        (G :* (((n :+ P) :^ 2 :- (n :+ P) :- e) :* G) :- ((n :+ P) :* G) :^ 2))
        (λ n G P e l q f. (l :- q :* (num 2 :* (n :+ P)) :+ num 2 :* f :* (num 2 :* (n :+ P) :+ num 2 :* e)) :* G :^ 2) tt
        n G P (d P) lin quad F
        ∙ ap (λ y. (lin ⊖ quad ⊗ (# 2 ⊗ (n ⊕ P)) ⊕ # 2 ⊗ F ⊗ (# 2 ⊗ (n ⊕ P) ⊕ y)) ⊗ G ^ 2) (sym (d_power 𝟘))

    -- x (N' g − 2 N g') reversed, where N reversed is u G²
    pub tangent : (u l : Car) → l ≡ # 2 ⊗ n ⊕ 𝟙 → slope l (u ⊗ G ^ 2) ⊗ G ⊖ # 2 ⊗ (u ⊗ G ^ 2) ⊗ slope n G ≡ (u ⊖ d u) ⊗ G ^ 3
    tangent u l e =
        ap₂ (λ x y. x ⊗ G ⊖ # 2 ⊗ (u ⊗ G ^ 2) ⊗ y) (slope_at l (u ⊗ G ^ 2) ∙ ap₂ (λ l y. l ⊗ (u ⊗ G ^ 2) ⊖ y) e (d_numerator u)) slope_is
        ∙ solve5 K
        (λ n G P u e. ((num 2 :* n :+ :1) :* (u :* G :^ 2) :- (e :- num 2 :* P :* u) :* G :^ 2) :* G :- num 2 :* (u :* G :^ 2) :* ((n :+ P) :* G))
        (λ n G P u e. (u :- e) :* G :^ 3) tt n G P u (d u)
