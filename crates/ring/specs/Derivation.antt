-- Derivations of a commutative ring: maps d with d (a + b) = d a + d b and d (a b) = d a · b + a · d b. Powers and quotients.
-- Assumes nothing.
use Rattle.std.specs.Prelude.{◌≡◌, ℕ, zero, suc}
use Rattle.std.proofs.Common.{sym, ◌∙◌, ap, ap₂}
use Rattle.ring.specs.Ring
use Rattle.ring.specs.Ring.{CRing, cast, cast_zero, cast_suc, pow, pow-zero, pow-suc, add_right_cancel}
use Rattle.ring.specs.Identity.{solve1, solve2, solve4, solve6, combine2}
use Rattle.ring.specs.Identity.Ex.{num, :0, :1, ◌:+◌, ◌:-◌, ◌:*◌, :-◌, ◌:^◌}

pub record Derivation (R : CRing) : Type 0 where
  pub d : R.Car → R.Car
  pub d_add : (a b : R.Car) → d (R.add a b) ≡ R.add (d a) (d b)
  pub d_mul : (a b : R.Car) → d (R.mul a b) ≡ R.add (R.mul (d a) b) (R.mul a (d b))

module _ (R : CRing) (δ : Derivation R) where
  open R use {Car, 𝟘, 𝟙, add as ◌⊕◌, mul as ◌⊗◌, neg, mul-one, add-zero, add-neg}
  open δ use {d, d_add, d_mul}

  infixl 65 ◌⊕◌
  infixl 70 ◌⊗◌
  pub d_one : d 𝟙 ≡ 𝟘
  d_one =
      add_right_cancel R (d 𝟙) 𝟘 (d 𝟙)
      (solve1 R (λ x. x :+ x) (λ x. x :* :1 :+ :1 :* x) tt (d 𝟙) ∙ sym (d_mul 𝟙 𝟙) ∙ ap d (mul-one 𝟙) ∙ sym (Ring.zero-add R (d 𝟙)))

  pub d_zero : d 𝟘 ≡ 𝟘
  d_zero = add_right_cancel R (d 𝟘) 𝟘 (d 𝟘) (sym (d_add 𝟘 𝟘) ∙ ap d (add-zero 𝟘) ∙ sym (Ring.zero-add R (d 𝟘)))

  pub d_neg : (a : Car) → d (neg a) ≡ neg (d a)
  d_neg a = Ring.neg_unique R (d a) (d (neg a)) (sym (d_add a (neg a)) ∙ ap d (add-neg a) ∙ d_zero)

  pub d_cast : (n : ℕ) → d (cast R n) ≡ 𝟘
  d_cast zero = ap d (cast_zero R) ∙ d_zero
  d_cast (suc n) = ap d (cast_suc R n) ∙ d_add (cast R n) 𝟙 ∙ ap₂ ◌⊕◌ (d_cast n) d_one ∙ add-zero 𝟘

  -- a · (aⁿ)' = n aⁿ a'
  pub d_pow : (a : Car) (n : ℕ) → a ⊗ d (pow R a n) ≡ cast R n ⊗ pow R a n ⊗ d a
  d_pow a zero =
      ap (λ x. a ⊗ x) (ap d (pow-zero R a) ∙ d_one) ∙ solve2 R (λ a d. a :* :0) (λ a d. num 0 :* a :^ 0 :* d) tt a (d a)
  d_pow a (suc n) =
      ap (λ x. a ⊗ x) (ap d (pow-suc R a n) ∙ d_mul a (pow R a n) ∙ ap (λ y. d a ⊗ pow R a n ⊕ y) (d_pow a n))
      ∙ solve4 R (λ a x d n. a :* (d :* x :+ n :* x :* d)) (λ a x d n. (n :+ :1) :* (a :* x) :* d) tt a (pow R a n) (d a) (cast R n)
      ∙ sym (ap₂ (λ k x. k ⊗ x ⊗ d a) (cast_suc R n) (pow-suc R a n))

  -- where h g = f, h is f / g: h' g² = f' g − f g'
  pub d_quotient : (f g h : Car) → h ⊗ g ≡ f → d h ⊗ (g ⊗ g) ≡ d f ⊗ g ⊕ neg (f ⊗ d g)
  d_quotient f g h e =
      combine2 R _ _ g _ _ (neg (d g)) _ _ (sym (d_mul h g) ∙ ap d e) e
      (ring5 (d h) g (d f) f (d g) h)
    where
      ring5 : (h' g f' f g' h : Car) → h' ⊗ (g ⊗ g) ⊕ neg (f' ⊗ g ⊕ neg (f ⊗ g')) ≡ g ⊗ (h' ⊗ g ⊕ h ⊗ g' ⊕ neg f') ⊕ neg g' ⊗ (h ⊗ g ⊕ neg f)
      ring5 = solve6 R (λ h' g f' f g' h. h' :* (g :* g) :- (f' :* g :- f :* g'))
          (λ h' g f' f g' h. g :* (h' :* g :+ h :* g' :- f') :+ :- g' :* (h :* g :- f)) tt
