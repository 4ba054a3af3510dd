-- Curves y² = x³ + A x + B over a commutative ring: what question 7 asks of them, their j-value, and their points.
-- Assumes nothing.
use Rattle.std.specs.Prelude.{◌≡◌, ◌≢◌, ℕ}
use Rattle.ring.specs.Ring.{CRing, cast, pow}

module _ (R : CRing) where
  open R use {Car, 𝟘, add as ◌⊕◌, mul as ◌⊗◌}

  infixl 65 ◌⊕◌
  infixl 70 ◌⊗◌
  infixr 75 ◌^◌
  infix 80 #◌
  abbrev ◌^◌ : Car → ℕ → Car
  a ^ n = pow R a n

  abbrev #◌ : ℕ → Car
  # n = cast R n

  -- 4A³ + 27B², the discriminant up to a factor
  unfoldable pub discriminant : Car → Car → Car
  discriminant A B = # 4 ⊗ A ^ 3 ⊕ # 27 ⊗ B ^ 2

  -- question 7
  abbrev pub Nonsingular : Car → Car → Type 0
  Nonsingular A B = discriminant A B ≢ 𝟘

  -- j = 1728 · 4A³ / (4A³ + 27B²), without the division
  unfoldable pub JValue : Car → Car → Car → Type 0
  JValue A B j = j ⊗ discriminant A B ≡ # 1728 ⊗ (# 4 ⊗ A ^ 3)

  -- one name for two curves: some j is the j-value of both
  pub record SameName (A B A' B' : Car) : Type 0 where
    pub j : Car
    pub first : JValue A B j
    pub second : JValue A' B' j

  -- the affine point (u, v) is on the curve
  unfoldable pub OnCurve : Car → Car → Car → Car → Type 0
  OnCurve A B u v = v ^ 2 ≡ u ^ 3 ⊕ A ⊗ u ⊕ B
