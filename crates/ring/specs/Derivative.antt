-- The derivative of an expression, by computing: a derivation d of a ring, applied to an expression, is the expression that the rules of
-- sums, products and powers give, where a rule for each variable says what d makes of it.
-- Assumes nothing.
use Rattle.std.specs.Prelude.{◌≡◌, Bool, true, false, List, [], ◌∷◌, ℕ, zero, suc, T, get_or}
use Rattle.std.proofs.Common.{◌∙◌, ap, ap₂}
use Rattle.ring.specs.Ring.{CRing, pow, pow-zero, pow-suc}
use Rattle.ring.specs.Identity.{Ex, eval, same, ring, at}
use Rattle.ring.specs.Identity.Ex.{var, num, :0, :1, ◌:+◌, ◌:-◌, ◌:*◌, :-◌, ◌:^◌}
use Rattle.ring.specs.Test.{both, both_left, both_right}
use Rattle.ring.specs.Derivation as Deriv
use Rattle.ring.specs.Derivation.{Derivation}

abbrev power' : Ex → Ex → ℕ → Ex
power' a a' zero = :0
power' a a' (suc n) = a' :* a :^ n :+ a :* power' a a' n

abbrev pub deriv : (ℕ → Ex) → Ex → Ex
deriv r (var i) = r i
deriv r (num n) = :0
deriv r :0 = :0
deriv r :1 = :0
deriv r (a :+ b) = deriv r a :+ deriv r b
deriv r (a :- b) = deriv r a :- deriv r b
deriv r (a :* b) = deriv r a :* b :+ a :* deriv r b
deriv r (:- a) = :- deriv r a
deriv r (a :^ n) = power' a (deriv r a) n

-- has the list a rule for the variable i; for each variable of the expression
abbrev has : List Ex → ℕ → Bool
has [] i = false
has (e ∷ es) zero = true
has (e ∷ es) (suc i) = has es i

abbrev pub known : List Ex → Ex → Bool
known es (var i) = has es i
known es (num n) = true
known es :0 = true
known es :1 = true
known es (a :+ b) = both (known es a) (known es b)
known es (a :- b) = both (known es a) (known es b)
known es (a :* b) = both (known es a) (known es b)
known es (:- a) = known es a
known es (a :^ n) = known es a

abbrev pub rules : List Ex → ℕ → Ex
rules es i = get_or es i :0

module _ (K : CRing) (δ : Derivation K) where
  open K use {Car, 𝟘, 𝟙, add as ◌⊕◌, mul as ◌⊗◌, neg}
  open δ use {d, d_add, d_mul}

  infixl 65 ◌⊕◌
  infixl 70 ◌⊗◌
  -- d makes of each variable that has a rule what the rule says
  abbrev pub Along : (ℕ → Car) → List Car → List Ex → Type 0
  Along ρ xs [] = Unit {0}
  Along ρ [] (e ∷ es) = ⊥
  Along ρ (x ∷ xs) (e ∷ es) = (d x ≡ eval K ρ e) × Along ρ xs es

  along : (ρ : ℕ → Car) (xs : List Car) (es : List Ex) → Along ρ xs es → (i : ℕ) → T (has es i) → d (get_or xs i 𝟘) ≡ eval K ρ (rules es i)
  along ρ xs [] h i t = absurd t
  along ρ [] (e ∷ es) h i t = absurd h
  along ρ (x ∷ xs) (e ∷ es) h zero t = h.0
  along ρ (x ∷ xs) (e ∷ es) h (suc i) t = along ρ xs es h.1 i t

  module _ (xs : List Car) (es : List Ex) (h : Along (at K xs) xs es) where
    abbrev value : Ex → Car
    value = eval K (at K xs)

    power_ok : (a a' : Ex) → d (value a) ≡ value a' → (n : ℕ) → d (pow K (value a) n) ≡ value (power' a a' n)
    power_ok a a' e zero = ap d (pow-zero K _) ∙ Deriv.d_one K δ
    power_ok a a' e (suc n) = ap d (pow-suc K _ n) ∙ d_mul _ _ ∙ ap₂ (λ x y. x ⊗ pow K (value a) n ⊕ value a ⊗ y) e (power_ok a a' e n)

    deriv_ok : (e : Ex) → T (known es e) → d (value e) ≡ value (deriv (rules es) e)
    deriv_ok (var i) t = along (at K xs) xs es h i t
    deriv_ok (num n) t = Deriv.d_cast K δ n
    deriv_ok :0 t = Deriv.d_zero K δ
    deriv_ok :1 t = Deriv.d_one K δ
    deriv_ok (a :+ b) t =
        d_add _ _ ∙ ap₂ ◌⊕◌ (deriv_ok a (both_left (known es a) (known es b) t)) (deriv_ok b (both_right (known es a) (known es b) t))
    deriv_ok (a :- b) t =
        d_add _ _
        ∙ ap₂ ◌⊕◌ (deriv_ok a (both_left (known es a) (known es b) t)) (Deriv.d_neg K δ _ ∙ ap neg (deriv_ok b (both_right (known es a) (known es b) t)))
    deriv_ok (a :* b) t =
        d_mul _ _
        ∙ ap₂ (λ x y. x ⊗ value b ⊕ value a ⊗ y) (deriv_ok a (both_left (known es a) (known es b) t)) (deriv_ok b (both_right (known es a) (known es b) t))
    deriv_ok (:- a) t = Deriv.d_neg K δ _ ∙ ap neg (deriv_ok a t)
    deriv_ok (a :^ n) t = power_ok a (deriv (rules es) a) (deriv_ok a t) n

    -- For use: with xs = x ∷ y ∷ .. and es = x's rule ∷ y's rule ∷ .., `derive K δ xs es (proof of x's, (proof of y's, .. tt)) a b tt tt : d a ≡ b`.
    pub derive : (a b : Ex) → T (known es a) → T (same (deriv (rules es) a) b) → d (value a) ≡ value b
    derive a b t s = deriv_ok a t ∙ ring K (at K xs) (deriv (rules es) a) b s
