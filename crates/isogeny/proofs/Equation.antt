-- The equation R3 divided by g⁶, Φ = 0, and the equation Ψ = 0 that its derivative gives, in any commutative ring with a derivation d.
-- Assumes nothing.
use Rattle.std.specs.Prelude.{◌≡◌, refl}
use Rattle.std.proofs.Common.{sym, ◌∙◌, ap₂}
use Rattle.std.proofs.Math.Path.{ap}
use mathlib.Core.List.{List, [], ◌∷◌}
use Rattle.ring.specs.Ring.{CRing, cast}
use Rattle.ring.specs.Identity.{Ex, eval, ring, at, solve1}
use Rattle.ring.specs.Identity.Ex.{var, num, :0, :1, ◌:+◌, ◌:-◌, ◌:*◌, :-◌, ◌:^◌}
use Rattle.ring.specs.Derivation.{Derivation, d_zero}
use Rattle.ring.specs.Derivative.{derive}

-- t, a, b, ã, b̃, u, and the first two derivatives of u
abbrev pub :t : Ex
:t = var 0

abbrev pub :a : Ex
:a = var 1

abbrev pub :b : Ex
:b = var 2

abbrev pub :ã : Ex
:ã = var 3

abbrev pub :b̃ : Ex
:b̃ = var 4

abbrev pub :u : Ex
:u = var 5

abbrev pub :u' : Ex
:u' = var 6

abbrev pub :u'' : Ex
:u'' = var 7

-- f reversed, and N' g − 2 N g' over g³
abbrev pub :F : Ex
:F = :1 :+ :a :* :t :^ 2 :+ :b :* :t :^ 3

abbrev pub :v : Ex
:v = :u :- :u'

abbrev pub :Φ : Ex
:Φ = :F :* :v :^ 2 :- :u :^ 3 :- :ã :* :t :^ 2 :* :u :- :b̃ :* :t :^ 3

abbrev pub :Ψ : Ex
:Ψ = num 2 :* :F :* (:u'' :- :u') :+ (num 3 :+ :a :* :t :^ 2) :* :v :- num 3 :* :u :^ 2 :- :ã :* :t :^ 2

module _ (K : CRing) (δ : Derivation K) where
  open K use {Car, 𝟘, 𝟙, add as ◌⊕◌, mul as ◌⊗◌, neg}
  open δ use {d}

  infixl 65 ◌⊕◌
  infixl 70 ◌⊗◌
  abbrev pub names : (t a b ã b̃ u : Car) → List Car
  names t a b ã b̃ u = t ∷ a ∷ b ∷ ã ∷ b̃ ∷ u ∷ d u ∷ d (d u) ∷ []

  unfoldable pub Φ : (t a b ã b̃ u : Car) → Car
  Φ t a b ã b̃ u = eval K (at K (names t a b ã b̃ u)) :Φ

  unfoldable pub Ψ : (t a b ã b̃ u : Car) → Car
  Ψ t a b ã b̃ u = eval K (at K (names t a b ã b̃ u)) :Ψ

  -- v Ψ = 3 Φ − d Φ
  pub identity : (t a b ã b̃ u : Car) → d t ≡ t → d a ≡ 𝟘 → d b ≡ 𝟘 → d ã ≡ 𝟘 → d b̃ ≡ 𝟘
      → (u ⊕ neg (d u)) ⊗ Ψ t a b ã b̃ u ≡ cast K 3 ⊗ Φ t a b ã b̃ u ⊕ neg (d (Φ t a b ã b̃ u))
  unfolding Φ Ψ
  identity t a b ã b̃ u dt da db dã db̃ =
      ring K (at K xs) (:v :* :Ψ) (num 3 :* :Φ :- :Φ') tt
      ∙ ap (λ y. cast K 3 ⊗ eval K (at K xs) :Φ ⊕ neg y) (sym (derive K δ xs laws (dt, (da, (db, (dã, (db̃, (refl, (refl, tt))))))) :Φ :Φ' tt tt))
    where
      xs : List Car
      xs = names t a b ã b̃ u

      laws : List Ex
      laws = :t ∷ :0 ∷ :0 ∷ :0 ∷ :0 ∷ :u' ∷ :u'' ∷ []

      :Φ' : Ex
      :Φ' = num 3 :* :Φ :- :v :* :Ψ

  pub differentiated : (t a b ã b̃ u : Car) → d t ≡ t → d a ≡ 𝟘 → d b ≡ 𝟘 → d ã ≡ 𝟘 → d b̃ ≡ 𝟘
      → Φ t a b ã b̃ u ≡ 𝟘 → (u ⊕ neg (d u)) ⊗ Ψ t a b ã b̃ u ≡ 𝟘
  differentiated t a b ã b̃ u dt da db dã db̃ z =
      identity t a b ã b̃ u dt da db dã db̃ ∙ ap₂ (λ x y. cast K 3 ⊗ x ⊕ neg y) z (ap d z ∙ d_zero K δ)
      ∙ solve1 K (λ x. num 3 :* :0 :- :0) (λ x. :0) tt 𝟘
