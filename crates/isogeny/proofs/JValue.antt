-- A curve whose discriminant is invertible has one j-value.
-- Assumes nothing.
use Rattle.std.specs.Prelude.{◌≡◌}
use Rattle.std.proofs.Math.Path.{sym, ap}
use Rattle.std.proofs.Common.{◌∙◌}
use Rattle.ring.specs.Ring
use Rattle.ring.specs.Ring.{CRing, cast, pow}
use Rattle.ring.specs.Field.{Inverse, unit_cancel}
use Rattle.ring.specs.Identity.{solve3}
use Rattle.ring.specs.Identity.Ex.{◌:-◌, ◌:*◌}
use Rattle.isogeny.specs.Curve.{discriminant, JValue}

module _ (R : CRing) (A B : R.Car) (inverse : Inverse R (discriminant R A B)) where
  open R use {Car, mul as ◌⊗◌, add as ◌⊕◌, neg, mul-one}

  infixl 65 ◌⊕◌
  infixl 70 ◌⊗◌
  abbrev Δ : Car
  Δ = discriminant R A B

  abbrev top : Car
  top = cast R 1728 ⊗ (cast R 4 ⊗ pow R A 3)

  pub j_exists : (j : Car) × JValue R A B j
  unfolding JValue
  j_exists = (
    top ⊗ inverse.0,
    solve3 R (λ t y e. t :* y :* e) (λ t y e. t :* (e :* y)) tt top inverse.0 Δ ∙ ap (λ z. top ⊗ z) inverse.1 ∙ mul-one top,
  )

  pub j_unique : (j j' : Car) → JValue R A B j → JValue R A B j' → j ≡ j'
  unfolding JValue
  j_unique j j' a b =
      Ring.sub-zero R j j'
      (unit_cancel R Δ (j ⊕ neg j') inverse
      (solve3 R (λ e j k. e :* (j :- k)) (λ e j k. j :* e :- k :* e) tt Δ j j' ∙ ap (λ z. z ⊕ neg (j' ⊗ Δ)) (a ∙ sym b) ∙ R.add-neg _))
