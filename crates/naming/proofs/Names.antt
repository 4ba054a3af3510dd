-- Name's questions from what code tests.
-- Assumes nothing.
use mathlib.Core.Path.{refl}
use mathlib.Core.Logic.{inl, inr}
use Prim.Native.Nat.{ℕ, ◌<◌, ◌≤◌}
use native.Mathlib.Omega.{arith}
use Rattle.zmod.specs.Zmod.{Zmod, mk}
use Rattle.isogeny.specs.Curve.{Nonsingular}
use Rattle.sheet.specs.Asked.{PrimeAllowed}
use Rattle.promises.specs.Asked.{name_asks}
use Rattle.questions.specs.Questions.{AllYes, FirstNo}

module _ (p a b : ℕ) where
  pub no_prime : (PrimeAllowed p → ⊥) → FirstNo (name_asks p a b) 3
  no_prime refused = inl (refl, refused)

  module _ (three : PrimeAllowed p) where
    pub a_large : p ≤ a → FirstNo (name_asks p a b) 5
    a_large l = inr (three, inl (refl, λ h. omega (arith, h.0)))

    pub b_large : p ≤ b → FirstNo (name_asks p a b) 5
    b_large l = inr (three, inl (refl, λ h. omega (arith, h.1)))

    module _ (a_below : a < p) (b_below : b < p) where
      pub singular : (Nonsingular (Zmod p) (mk p a) (mk p b) → ⊥) → FirstNo (name_asks p a b) 7
      singular zero = inr (three, inr ((a_below, b_below), inl (refl, zero)))

      pub named : Nonsingular (Zmod p) (mk p a) (mk p b) → AllYes (name_asks p a b)
      named curve = (three, ((a_below, b_below), (curve, tt)))
