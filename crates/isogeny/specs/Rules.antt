-- Document 01's rules R1 to R3 for g and N, over any commutative ring, the three terms of R2 by themselves, and the image of a point. A polynomial is
-- the sequence of its coefficients, the constant term first; sums, products and powers are those of the ring of such sequences, and ∂ is the derivative.
-- Assumes nothing.
use Rattle.std.specs.Prelude.{◌≡◌, ◌≢◌, ℕ, suc, ◌+◌, ◌*◌, ◌-◌}
use Rattle.std.proofs.Math.Path.{refl}
use Rattle.ring.specs.Ring.{CRing, cast, pow}
use Rattle.series.specs.Series.{Series, Seq, const, ∂}
use Rattle.series.specs.Degree.{Below}
use Rattle.series.specs.Indeterminate.{ind}
use Rattle.series.specs.Value.{value}

-- domain (A, B), codomain (Ã, B̃), degree ℓ = 2 d + 1, and σ
pub record Question (R : CRing) : Type 0 where
  pub A : R.Car
  pub B : R.Car
  pub Ã : R.Car
  pub B̃ : R.Car
  pub d : ℕ
  pub σ : R.Car

module _ (R : CRing) (q : Question R) where
  open q use {A, B, Ã, B̃, d, σ}
  open Series R use {add as ◌⊕◌, mul as ◌⊗◌, neg}

  infixl 65 ◌⊕◌ ◌⊖◌
  infixl 70 ◌⊗◌
  infixr 75 ◌^◌
  infix 80 #◌
  abbrev ◌⊖◌ : Seq R → Seq R → Seq R
  a ⊖ b = a ⊕ neg b

  abbrev ◌^◌ : Seq R → ℕ → Seq R
  a ^ n = pow (Series R) a n

  -- a number, an element of R, and x, as polynomials
  abbrev #◌ : ℕ → Seq R
  # n = cast (Series R) n

  abbrev κ : R.Car → Seq R
  κ c = const R c

  abbrev x : Seq R
  x = ind R

  abbrev pub ℓ : ℕ
  ℓ = 2 * d + 1

  -- f = x³ + Ax + B
  unfoldable pub f : Seq R
  f = x ^ 3 ⊕ κ A ⊗ x ⊕ κ B

  -- R1: g is monic of degree d, and σ, which counts each root twice, is −2 g_(d−1)
  pub record R1 (g : Seq R) : Type 0 where
    pub degree : Below R (suc d) g
    pub leading : g d ≡ R.𝟙
    pub sigma : σ ≡ R.neg (R.mul (cast R 2) (g (d - 1)))

  -- R2: N = (ℓx − σ)g² − 2(3x² + A)gg' − 4f(gg'' − g'²)
  unfoldable pub N : Seq R → Seq R
  N g = (# ℓ ⊗ x ⊖ κ σ) ⊗ g ^ 2 ⊖ # 2 ⊗ (# 3 ⊗ x ^ 2 ⊕ κ A) ⊗ g ⊗ ∂ R g ⊖ # 4 ⊗ f ⊗ (g ⊗ ∂ R (∂ R g) ⊖ ∂ R g ^ 2)

  -- its three terms, signs included. With D = g² they are those of source document 001's formula (13), N/D = ℓx − σ − (3x² + A)(D'/D) − 2f(D'/D)', times D:
  -- the part of ℓx − σ, that of the first logarithmic derivative D'/D, and that of the second one, (D'/D)'
  unfoldable pub linear_part_of : Seq R → Seq R
  linear_part_of g = (# ℓ ⊗ x ⊖ κ σ) ⊗ g ^ 2

  unfoldable pub first_logarithmic_part_of : Seq R → Seq R
  first_logarithmic_part_of g = neg (# 2 ⊗ (# 3 ⊗ x ^ 2 ⊕ κ A) ⊗ g ⊗ ∂ R g)

  unfoldable pub second_logarithmic_part_of : Seq R → Seq R
  second_logarithmic_part_of g = neg (# 4 ⊗ f ⊗ (g ⊗ ∂ R (∂ R g) ⊖ ∂ R g ^ 2))

  pub N_parts : (g : Seq R) → N g ≡ linear_part_of g ⊕ first_logarithmic_part_of g ⊕ second_logarithmic_part_of g
  unfolding N linear_part_of first_logarithmic_part_of second_logarithmic_part_of
  N_parts g = refl

  -- R3: f(N'g − 2Ng')² = N³ + ÃNg⁴ + B̃g⁶, each coefficient on the left equal to the one on the right
  unfoldable pub W : Seq R → Seq R → Seq R
  W g n = ∂ R n ⊗ g ⊖ # 2 ⊗ n ⊗ ∂ R g

  unfoldable pub left : Seq R → Seq R → Seq R
  left g n = f ⊗ W g n ^ 2

  unfoldable pub right : Seq R → Seq R → Seq R
  right g n = n ^ 3 ⊕ κ Ã ⊗ n ⊗ g ^ 4 ⊕ κ B̃ ⊗ g ^ 6

  abbrev pub R3 : Seq R → Seq R → Type 0
  R3 g n = (i : ℕ) → left g n i ≡ right g n i

  -- what a question asks of g: R1, and R3 for R2's N
  pub record Meets (g : Seq R) : Type 0 where
    pub r1 : R1 g
    pub r3 : R3 g (N g)

  -- where the point (u, v) goes if g(u) is not 0: u' = N(u)/g(u)² and v' = v (N'g − 2Ng')(u)/g(u)³, both without the division. First the three values
  -- g(u), N(u) and (N'g − 2Ng')(u)
  abbrev pub g_at : Seq R → R.Car → R.Car
  g_at g u = value R (suc d) g u

  abbrev pub N_at : Seq R → R.Car → R.Car
  N_at n u = value R (suc ℓ) n u

  abbrev pub W_at : Seq R → Seq R → R.Car → R.Car
  W_at g n u = value R (suc (3 * d)) (W g n) u

  pub record Image (g n : Seq R) (u v u' v' : R.Car) : Type 0 where
    pub defined : g_at g u ≢ R.𝟘
    pub abscissa : R.mul u' (pow R (g_at g u) 2) ≡ N_at n u
    pub ordinate : R.mul v' (pow R (g_at g u) 3) ≡ R.mul v (W_at g n u)
