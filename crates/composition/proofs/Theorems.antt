-- The theorems, over ℤ/p for a prime p: one page to cite. What is said here is said in `Substitution`, `Composite` and in `isogeny`'s `Rules`; the proofs are
-- in the modules beside this one, most of them over any commutative ring. Nothing is asked of p but that it is prime.
-- Assumes nothing.
use Rattle.std.specs.Prelude.{◌↔◌, ◌⊎◌, ◌≡◌, ℕ, ◌*◌, ◌≤◌}
use Rattle.std.proofs.Common.{ap₂, arith}
use Rattle.ring.specs.Ring.{CRing, pow}
use Rattle.series.specs.Series.{Seq, conv}
use Rattle.zmod.specs.Zmod.{Zmod}
use Rattle.zmod.specs.Prime.{Prime, Zmod_field}
use Rattle.isogeny.specs.Rules.{Question, Meets, ℓ, N, W, g_at, N_at, Image}
use Rattle.composition.specs.Composite.{Composable, composite, composite_g, pullback, composite_degree}
use Rattle.composition.proofs.Rules as Rules
use Rattle.composition.proofs.Image as I
use Rattle.composition.proofs.Associativity as Associativity

module _ {p : ℕ} (P : Prime p) where
  abbrev R : CRing
  R = Zmod p

  open R use {Car, 𝟘, mul as ◌⊗◌}

  infixl 70 ◌⊗◌
  -- ── 1. the composite of two isogenies, of degrees ℓ₁ and ℓ₂ from 3 on, the first to the domain of the second

  -- Its degree is ℓ₁ℓ₂.
  pub degree : (q₁ q₂ : Question R) → ℓ R q₂ * ℓ R q₁ ≡ ℓ R (composite R q₁ q₂)
  degree = composite_degree R

  module _ (q₁ q₂ : Question R) (d₁≥1 : 1 ≤ q₁.d) (d₂≥1 : 1 ≤ q₂.d) (composable : Composable R q₁ q₂)
      (g₁ g₂ : Seq R) (meets₁ : Meets R q₁ g₁) (meets₂ : Meets R q₂ g₂) where
    -- the composite's question, and its kernel polynomial
    abbrev q : Question R
    q = composite R q₁ q₂

    abbrev g : Seq R
    g = composite_g R q₁ q₂.d g₁ g₂

    -- Where both meet the rules, so does the composite.
    pub composite_meets : Meets R (composite R q₁ q₂) (composite_g R q₁ q₂.d g₁ g₂)
    composite_meets = Rules.composite_meets R q₁ q₂ d₁≥1 d₂≥1 composable g₁ g₂ meets₁ meets₂.r1 meets₂

    -- The N that R2 gives for it is N₂ at N₁/g₁², cleared by g₁^(2ℓ₂).
    pub composite_N : N R q g ≡ pullback R q₁ g₁ (ℓ R q₂) (N R q₂ g₂)
    composite_N = Rules.composite_N R q₁ q₂ d₁≥1 d₂≥1 composable g₁ g₂ meets₁ meets₂.r1

    -- Its N'g − 2Ng' is that of the first times that of the second at N₁/g₁², cleared by g₁^(6d₂).
    pub composite_W : W R q g (N R q g) ≡ conv R (W R q₁ g₁ (N R q₁ g₁)) (pullback R q₁ g₁ (3 * q₂.d) (W R q₂ g₂ (N R q₂ g₂)))
    composite_W = Rules.composite_W R q₁ q₂ d₁≥1 d₂≥1 composable g₁ g₂ meets₁ meets₂.r1

    -- ── 2. points

    -- Where u goes to the abscissa u' under the first, g(u) = g₁(u)^ℓ₂ g₂(u').
    pub composite_at : (u u' : Car) → u' ⊗ pow R (g_at R q₁ g₁ u) 2 ≡ N_at R q₁ (N R q₁ g₁) u
        → g_at R q g u ≡ pow R (g_at R q₁ g₁ u) (ℓ R q₂) ⊗ g_at R q₂ g₂ u'
    composite_at = I.composite_at R q₁ q₂ d₁≥1 d₂≥1 composable g₁ g₂ meets₁ meets₂.r1

    -- The image under the composite is the image of the image: a point with g₁(u) not 0, and whose image (u', v') has g₂(u') not 0, goes there,
    pub push : (u v u' v' u'' v'' : Car) → Image R q₁ g₁ (N R q₁ g₁) u v u' v' → Image R q₂ g₂ (N R q₂ g₂) u' v' u'' v''
        → Image R q g (N R q g) u v u'' v''
    push u = I.image_of_image R q₁ q₂ d₁≥1 d₂≥1 composable g₁ g₂ meets₁ meets₂.r1 u (Zmod_field P)

    -- and every point with g(u) not 0 is such a one.
    pub push_back : (u v u'' v'' : Car) → Image R q g (N R q g) u v u'' v''
        → (u' : Car) × (v' : Car) × Image R q₁ g₁ (N R q₁ g₁) u v u' v' × Image R q₂ g₂ (N R q₂ g₂) u' v' u'' v''
    push_back u = I.image_is_image R q₁ q₂ d₁≥1 d₂≥1 composable g₁ g₂ meets₁ meets₂.r1 u (Zmod_field P)

    -- The composite sends a point to infinity exactly when the first does, or the second so sends its image: g(u) = 0 if and only if g₁(u) = 0 or
    -- g₂(u') = 0 for the u' = N₁(u)/g₁(u)².
    pub kernel : (u : Car) → (g_at R q g u ≡ 𝟘)
        ↔ ((g_at R q₁ g₁ u ≡ 𝟘) ⊎ ((u' : Car) × (u' ⊗ pow R (g_at R q₁ g₁ u) 2 ≡ N_at R q₁ (N R q₁ g₁) u) × (g_at R q₂ g₂ u' ≡ 𝟘)))
    kernel u = I.kernel R q₁ q₂ d₁≥1 d₂≥1 composable g₁ g₂ meets₁ meets₂.r1 u (Zmod_field P)

  -- ── 3. three isogenies, either way (document 02, E7); nothing is asked of the product of their degrees

  -- Composing the first two first and composing the last two first answer one question:
  pub one_question : (q₁ q₂ q₃ : Question R) → composite R (composite R q₁ q₂) q₃ ≡ composite R q₁ (composite R q₂ q₃)
  one_question = Associativity.one_question R

  module _ (q₁ q₂ q₃ : Question R) (d₁≥1 : 1 ≤ q₁.d) (d₂≥1 : 1 ≤ q₂.d) (composable : Composable R q₁ q₂)
      (g₁ g₂ g₃ : Seq R) (meets₁ : Meets R q₁ g₁) (meets₂ : Meets R q₂ g₂) where
    -- the two kernel polynomials
    abbrev leftwards : Seq R
    leftwards = composite_g R (composite R q₁ q₂) q₃.d (composite_g R q₁ q₂.d g₁ g₂) g₃

    abbrev rightwards : Seq R
    rightwards = composite_g R q₁ (composite R q₂ q₃).d g₁ (composite_g R q₂ q₃.d g₂ g₃)

    -- they give the same kernel polynomial, whatever the third is,
    pub associative : leftwards ≡ rightwards
    associative = Associativity.associative R q₁ q₂ q₃ d₁≥1 d₂≥1 composable g₁ g₂ g₃ meets₁ meets₂.r1

    -- and the same N.
    pub associative_N : N R (composite R (composite R q₁ q₂) q₃) leftwards ≡ N R (composite R q₁ (composite R q₂ q₃)) rightwards
    associative_N =
        ap₂ (N R) (one_question q₁ q₂ q₃) (Associativity.associative R q₁ q₂ q₃ d₁≥1 d₂≥1 composable g₁ g₂ g₃ meets₁ meets₂.r1)

    module _ (d₃≥1 : 1 ≤ q₃.d) (composable' : Composable R q₂ q₃) (meets₃ : Meets R q₃ g₃) where
      -- Where the third meets the rules too, and begins where the second ends, what they give meets the rules, from the left,
      pub left_meets : Meets R (composite R (composite R q₁ q₂) q₃) leftwards
      left_meets =
          composite_meets (composite R q₁ q₂) q₃ (omega arith) d₃≥1 (record { A = composable'.A; B = composable'.B }) (composite_g R q₁ q₂.d g₁ g₂) g₃
          (composite_meets q₁ q₂ d₁≥1 d₂≥1 composable g₁ g₂ meets₁ meets₂) meets₃

      -- and from the right.
      pub right_meets : Meets R (composite R q₁ (composite R q₂ q₃)) rightwards
      right_meets =
          composite_meets q₁ (composite R q₂ q₃) d₁≥1 (omega arith) (record { A = composable.A; B = composable.B }) g₁
          (composite_g R q₂ q₃.d g₂ g₃) meets₁ (composite_meets q₂ q₃ d₂≥1 d₃≥1 composable' g₂ g₃ meets₂ meets₃)
