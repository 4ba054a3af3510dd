-- The domain's cubic f = x³ + Ax + B: a polynomial, its derivative, and its value at u.
-- Assumes nothing.
use Rattle.std.specs.Prelude.{◌≡◌, List, [], ◌∷◌, ℕ}
use Rattle.std.proofs.Common.{◌∙◌}
use Rattle.std.proofs.Math.Path.{ap, ap₂}
use Rattle.ring.specs.Ring.{CRing, cast, pow}
use Rattle.ring.specs.Identity.Ex.{var, num, :0, :1, ◌:+◌, ◌:*◌, ◌:^◌}
use Rattle.ring.specs.Derivative.{derive}
use Rattle.series.specs.Series.{Series, Seq, Formal, const, ∂}
use Rattle.series.specs.Degree.{Poly, Polys, poly_const, poly_eval}
use Rattle.series.specs.Indeterminate.{ind, ∂-ind, ∂-const}
use Rattle.series.specs.Value.{at, at_eval, at_const}
use Rattle.series.specs.Binomial.{poly_ind, ind_value}
use Rattle.isogeny.specs.Rules.{Question, f}

module _ (R : CRing) (q : Question R) where
  open q use {A, B}
  open Series R use {add as ◌⊕◌, mul as ◌⊗◌}

  infixl 65 ◌⊕◌
  infixl 70 ◌⊗◌
  infixr 75 ◌^◌
  infix 80 #◌
  abbrev ◌^◌ : Seq R → ℕ → Seq R
  a ^ n = pow (Series R) a n

  abbrev #◌ : ℕ → Seq R
  # n = cast (Series R) n

  abbrev κ : R.Car → Seq R
  κ c = const R c

  abbrev x : Seq R
  x = ind R

  abbrev names : List (Seq R)
  names = x ∷ κ A ∷ κ B ∷ []

  abbrev polys : Polys R names
  polys = (poly_ind R, (poly_const R A, (poly_const R B, tt)))

  pub poly_f : Poly R (f R q)
  unfolding f
  poly_f = poly_eval R names polys (var 0 :^ 3 :+ var 1 :* var 0 :+ var 2)

  pub ∂-f : ∂ R (f R q) ≡ # 3 ⊗ x ^ 2 ⊕ κ A
  unfolding f
  ∂-f =
      derive (Series R) (Formal R) names (:1 ∷ :0 ∷ :0 ∷ []) (∂-ind R, (∂-const R A, (∂-const R B, tt)))
      (var 0 :^ 3 :+ var 1 :* var 0 :+ var 2) (num 3 :* var 0 :^ 2 :+ var 1) tt tt

  pub f_at : (u : R.Car) → at R (f R q) poly_f u ≡ R.add (R.add (pow R u 3) (R.mul A u)) B
  unfolding f
  f_at u =
      at_eval R names polys (var 0 :^ 3 :+ var 1 :* var 0 :+ var 2) poly_f u
      ∙ ap₂ (λ y a. R.add (R.add (pow R y 3) (R.mul a y)) (at R (κ B) (poly_const R B) u)) (ind_value R u) (at_const R A (poly_const R A) u)
      ∙ ap (R.add (R.add (pow R u 3) (R.mul A u))) (at_const R B (poly_const R B) u)
