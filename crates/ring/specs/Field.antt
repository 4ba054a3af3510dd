-- Inverses, and fields whose elements can be told from zero: a unit is cancelled, a product of units is one, a product of nonzero elements is not
-- zero.
-- Assumes nothing.
use Rattle.std.specs.Prelude.{◌≡◌, ◌≢◌}
use Rattle.std.proofs.Common.{sym, ◌∙◌, ap, ap₂}
use Rattle.ring.specs.Ring
use Rattle.ring.specs.Ring.{CRing}
use Rattle.ring.specs.Identity.{solve3, solve4}
use Rattle.ring.specs.Identity.Ex.{◌:*◌}

-- an inverse of x
abbrev pub Inverse : (R : CRing) → R.Car → Type 0
Inverse R x = (y : R.Car) × (R.mul x y ≡ R.𝟙)

pub record Field (R : CRing) : Type 0 where
  pub zero? : (x : R.Car) → Dec (x ≡ R.𝟘)
  pub invert : (x : R.Car) → x ≢ R.𝟘 → Inverse R x
  pub apart : R.𝟙 ≢ R.𝟘

module _ (R : CRing) where
  open R use {Car, 𝟘, 𝟙, mul as ◌⊗◌}

  infixl 70 ◌⊗◌
  -- a unit is cancelled
  pub unit_cancel : (x y : Car) → Inverse R x → x ⊗ y ≡ 𝟘 → y ≡ 𝟘
  unit_cancel x y u e =
      sym (Ring.one-mul R y) ∙ ap (λ z. z ⊗ y) (sym u.1)
      ∙ solve3 R (λ x i y. x :* i :* y) (λ x i y. i :* (x :* y)) tt x u.0 y
      ∙ ap (λ z. u.0 ⊗ z) e ∙ Ring.mul-zero R u.0

  pub unit_product : (x y : Car) → Inverse R x → Inverse R y → Inverse R (x ⊗ y)
  unit_product x y (u, e) (v, f) = (
    u ⊗ v,
    solve4 R (λ x y u v. x :* y :* (u :* v)) (λ x y u v. x :* u :* (y :* v)) tt x y u v ∙ ap₂ ◌⊗◌ e f ∙ R.mul-one 𝟙,
  )

  pub product : Field R → (x y : Car) → x ≢ 𝟘 → y ≢ 𝟘 → x ⊗ y ≢ 𝟘
  product F x y hx hy e = hy (unit_cancel x y (F.invert x hx) e)

  -- inverses as a function, of which the value at zero does not matter
  module _ (F : Field R) where
    pick : (x : Car) → Dec (x ≡ 𝟘) → Car
    pick x (yes e) = 𝟘
    pick x (no h) = (F.invert x h).0

    pub reciprocal : Car → Car
    reciprocal x = pick x (F.zero? x)

    pub reciprocal_is : (x : Car) → x ≢ 𝟘 → x ⊗ reciprocal x ≡ 𝟙
    unfolding reciprocal pick
    reciprocal_is x n = go (F.zero? x)
      where
        go : (t : Dec (x ≡ 𝟘)) → x ⊗ pick x t ≡ 𝟙
        go (yes e) = absurd (n e)
        go (no h) = (F.invert x h).1
