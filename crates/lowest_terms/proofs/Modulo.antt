-- What is left of R3 at a factor π of g, read modulo π: Z M² = M³ + π S. There M = c Z + π E, so that (c − 1) c² Z³ is a multiple of π, where c is m if
-- π does not divide f, and 2 m if it does.
-- Assumes nothing.
use Rattle.std.specs.Prelude.{◌≡◌, List, [], ◌∷◌, ℕ}
use Rattle.std.proofs.Common.{sym, ◌∙◌}
use Rattle.std.proofs.Math.Path.{ap}
use Rattle.ring.specs.Ring.{CRing, cast, pow}
use Rattle.ring.specs.Identity.{Ex, eval, ring, at, combine1}
use Rattle.ring.specs.Identity.Ex.{var, num, :0, :1, ◌:+◌, ◌:-◌, ◌:*◌, :-◌, ◌:^◌}
use Rattle.ring.specs.Derivation.{Derivation}
use Rattle.lowest_terms.proofs.Factor.{rest}

abbrev :π : Ex
:π = var 0

abbrev :π' : Ex
:π' = var 1

abbrev :k : Ex
:k = var 2

abbrev :k' : Ex
:k' = var 3

abbrev :f : Ex
:f = var 4

abbrev :M : Ex
:M = var 5

abbrev :M' : Ex
:M' = var 6

abbrev :ã : Ex
:ã = var 7

abbrev :b̃ : Ex
:b̃ = var 8

-- M' k − 2 M k'
abbrev :U : Ex
:U = :M' :* :k :- num 2 :* :M :* :k'

-- what R3 leaves; and the same with π f and π M for f and M, divided by π³
abbrev pub :whole : Ex
:whole = :f :* (:π :* :U :- num 2 :* :π' :* :k :* :M) :^ 2 :- (:M :^ 3 :+ :ã :* :π :^ 4 :* :M :* :k :^ 4 :+ :b̃ :* :π :^ 6 :* :k :^ 6)

abbrev pub :once : Ex
:once = :f :* (:π :* :U :- :π' :* :k :* :M) :^ 2 :- (:M :^ 3 :+ :ã :* :π :^ 2 :* :M :* :k :^ 4 :+ :b̃ :* :π :^ 3 :* :k :^ 6)

-- S where π does not divide f, and where it does
abbrev pub :S : Ex
:S = :ã :* :π :^ 3 :* :M :* :k :^ 4 :+ :b̃ :* :π :^ 5 :* :k :^ 6 :+ num 4 :* :f :* :π' :* :k :* :M :* :U :- :f :* :π :* :U :^ 2

abbrev pub :S₁ : Ex
:S₁ = :ã :* :π :* :M :* :k :^ 4 :+ :b̃ :* :π :^ 2 :* :k :^ 6 :+ num 2 :* :f :* :π' :* :k :* :M :* :U :- :f :* :π :* :U :^ 2

-- π T = (c − 1) c² Z³, in π, j = c − 1, Z, E, S
abbrev pub :T : Ex
:T =
    :- ((num 2 :* (var 1 :+ :1) :* var 2 :* var 3 :+ var 0 :* var 3 :^ 2) :* (var 1 :* var 2 :+ var 0 :* var 3))
    :- (var 1 :+ :1) :^ 2 :* var 2 :^ 2 :* var 3 :- var 4

module _ (K : CRing) (δ : Derivation K) where
  open K use {Car, 𝟘, 𝟙, add as ◌⊕◌, mul as ◌⊗◌, neg}
  open δ use {d, d_mul}

  infixl 65 ◌⊕◌ ◌⊖◌
  infixl 70 ◌⊗◌
  infixr 75 ◌^◌
  infix 80 #◌
  abbrev ◌⊖◌ : Car → Car → Car
  a ⊖ b = a ⊕ neg b

  abbrev ◌^◌ : Car → ℕ → Car
  a ^ n = pow K a n

  abbrev #◌ : ℕ → Car
  # n = cast K n

  module _ (π k f M ã b̃ : Car) where
    abbrev pub letters : List Car
    letters = π ∷ d π ∷ k ∷ d k ∷ f ∷ M ∷ d M ∷ ã ∷ b̃ ∷ []

    unfoldable pub S : Car
    S = eval K (at K letters) :S

    unfoldable pub S₁ : Car
    S₁ = eval K (at K letters) :S₁

    pub modulo : f ⊗ rest K δ π k M ^ 2 ≡ M ^ 3 ⊕ ã ⊗ π ^ 4 ⊗ M ⊗ k ^ 4 ⊕ b̃ ⊗ π ^ 6 ⊗ k ^ 6
        → f ⊗ (# 2 ⊗ d π ⊗ k) ^ 2 ⊗ M ^ 2 ≡ M ^ 3 ⊕ π ⊗ S
    unfolding S
    modulo e =
        combine1 K _ _ 𝟙 _ _ e
        (ring K (at K letters) (:f :* (num 2 :* :π' :* :k) :^ 2 :* :M :^ 2 :- (:M :^ 3 :+ :π :* :S)) (:1 :* :whole) tt)

    -- with π f and π M for f and M
    rest_once : rest K δ π k (π ⊗ M) ≡ π ⊗ (π ⊗ (d M ⊗ k ⊖ # 2 ⊗ M ⊗ d k) ⊖ d π ⊗ k ⊗ M)
    rest_once =
        ap (λ x. π ⊗ (x ⊗ k ⊖ # 2 ⊗ (π ⊗ M) ⊗ d k) ⊖ # 2 ⊗ d π ⊗ k ⊗ (π ⊗ M)) (d_mul π M)
        ∙ ring K (at K letters) (:π :* ((:π' :* :M :+ :π :* :M') :* :k :- num 2 :* (:π :* :M) :* :k') :- num 2 :* :π' :* :k :* (:π :* :M))
        (:π :* (:π :* :U :- :π' :* :k :* :M)) tt

    -- what remains after a division by π³
    abbrev pub once : Car
    once = f ⊗ (π ⊗ (d M ⊗ k ⊖ # 2 ⊗ M ⊗ d k) ⊖ d π ⊗ k ⊗ M) ^ 2 ⊖ (M ^ 3 ⊕ ã ⊗ π ^ 2 ⊗ M ⊗ k ^ 4 ⊕ b̃ ⊗ π ^ 3 ⊗ k ^ 6)

    pub once_zero : (π ⊗ f) ⊗ rest K δ π k (π ⊗ M) ^ 2 ≡ (π ⊗ M) ^ 3 ⊕ ã ⊗ π ^ 4 ⊗ (π ⊗ M) ⊗ k ^ 4 ⊕ b̃ ⊗ π ^ 6 ⊗ k ^ 6 → π ^ 3 ⊗ once ≡ 𝟘
    once_zero e =
        ring K (at K letters) (:π :^ 3 :* :once)
        ((:π :* :f) :* (:π :* (:π :* :U :- :π' :* :k :* :M)) :^ 2
        :- ((:π :* :M) :^ 3 :+ :ã :* :π :^ 4 :* (:π :* :M) :* :k :^ 4 :+ :b̃ :* :π :^ 6 :* :k :^ 6)) tt
        ∙ ap (λ x. (π ⊗ f) ⊗ x ^ 2 ⊖ ((π ⊗ M) ^ 3 ⊕ ã ⊗ π ^ 4 ⊗ (π ⊗ M) ⊗ k ^ 4 ⊕ b̃ ⊗ π ^ 6 ⊗ k ^ 6)) (sym rest_once)
        ∙ ap (λ x. x ⊖ ((π ⊗ M) ^ 3 ⊕ ã ⊗ π ^ 4 ⊗ (π ⊗ M) ⊗ k ^ 4 ⊕ b̃ ⊗ π ^ 6 ⊗ k ^ 6)) e
        ∙ K.add-neg _

    pub modulo_once : once ≡ 𝟘 → f ⊗ (d π ⊗ k) ^ 2 ⊗ M ^ 2 ≡ M ^ 3 ⊕ π ⊗ S₁
    unfolding S₁
    modulo_once e =
        combine1 K _ _ 𝟙 _ _ e
        (ring K (at K letters) (:f :* (:π' :* :k) :^ 2 :* :M :^ 2 :- (:M :^ 3 :+ :π :* :S₁)) (:1 :* (:once :- :0)) tt)

  module _ (π j Z E S : Car) where
    unfoldable pub T : Car
    T = eval K (at K (π ∷ j ∷ Z ∷ E ∷ S ∷ [])) :T

    pub multiple : (M : Car) → M ≡ (j ⊕ 𝟙) ⊗ Z ⊕ π ⊗ E → Z ⊗ M ^ 2 ≡ M ^ 3 ⊕ π ⊗ S → π ⊗ T ≡ j ⊗ (j ⊕ 𝟙) ^ 2 ⊗ Z ^ 3
    unfolding T
    multiple M h e =
        combine1 K _ _ 𝟙 _ _ (ap (λ x. Z ⊗ x ^ 2) (sym h) ∙ e ∙ ap (λ x. x ^ 3 ⊕ π ⊗ S) h)
        (ring K (at K (π ∷ j ∷ Z ∷ E ∷ S ∷ [])) (var 0 :* :T :- var 1 :* (var 1 :+ :1) :^ 2 :* var 2 :^ 3)
        (:1 :* (var 2 :* ((var 1 :+ :1) :* var 2 :+ var 0 :* var 3) :^ 2 :- (((var 1 :+ :1) :* var 2 :+ var 0 :* var 3) :^ 3 :+ var 0 :* var 4))) tt)
