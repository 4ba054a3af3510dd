-- f = x³ + A x + B has no repeated factor where 4 A³ + 27 B² is not zero, for that is a combination of f and f' = 3 x² + A.
-- Assumes nothing.
use Rattle.std.specs.Prelude.{◌≡◌, List, [], ◌∷◌, ℕ}
use Rattle.std.proofs.Common.{◌∙◌, ap}
use Rattle.std.proofs.Math.Path.{ap₂}
use Rattle.ring.specs.Ring.{CRing, cast, pow}
use Rattle.ring.specs.Field.{Field}
use Rattle.ring.specs.Identity.{solve3}
use Rattle.ring.specs.Identity.Ex.{var, num, ◌:+◌, ◌:-◌, ◌:*◌, :-◌, ◌:^◌}
use Rattle.series.specs.Series.{Series, Seq, const, ∂}
use Rattle.series.specs.Degree.{Polys, poly_eval, poly_const}
use Rattle.series.specs.Indeterminate.{ind, cast_series, const_add, const_mul, const_pow}
use Rattle.series.specs.Binomial.{poly_ind}
use Rattle.isogeny.specs.Curve.{Nonsingular, discriminant}
use Rattle.isogeny.specs.Rules.{Question, f}
use Rattle.isogeny.specs.Source.{quadratic}
use Rattle.isogeny.proofs.Cubic.{∂-f}
use Rattle.divisibility.specs.Divides.{SquareFree}
use Rattle.divisibility.specs.Coprime.{Bezout, bezout_unit}
use Rattle.divisibility.proofs.Coprime.{coprime_square_free}

module _ (R : CRing) (q : Question R) where
  open q use {A, B}
  open Series R use {add as ◌⊕◌, mul as ◌⊗◌, neg}

  infixl 65 ◌⊕◌ ◌⊖◌
  infixl 70 ◌⊗◌
  infixr 75 ◌^◌
  infix 80 #◌
  abbrev ◌⊖◌ : Seq R → Seq R → Seq R
  a ⊖ b = a ⊕ neg b

  abbrev ◌^◌ : Seq R → ℕ → Seq R
  a ^ n = pow (Series R) a n

  abbrev #◌ : ℕ → Seq R
  # n = cast (Series R) n

  abbrev κ : R.Car → Seq R
  κ c = const R c

  abbrev x : Seq R
  x = ind R

  abbrev xs : List (Seq R)
  xs = x ∷ κ A ∷ κ B ∷ []

  abbrev polys : Polys R xs
  polys = (poly_ind R, (poly_const R A, (poly_const R B, tt)))

  -- 4 A³ + 27 B² = u f + v f'
  abbrev u : Seq R
  u = neg (# 9 ⊗ (# 2 ⊗ κ A ⊗ x ⊖ # 3 ⊗ κ B))

  abbrev v : Seq R
  v = # 4 ⊗ κ A ^ 2 ⊕ # 3 ⊗ (# 2 ⊗ κ A ⊗ x ⊖ # 3 ⊗ κ B) ⊗ x

  combination : u ⊗ f R q ⊕ v ⊗ quadratic R q ≡ κ (discriminant R A B)
  unfolding f discriminant
  combination =
      solve3 (Series R)
      (λ x a b. :- (num 9 :* (num 2 :* a :* x :- num 3 :* b)) :* (x :^ 3 :+ a :* x :+ b)
      :+ (num 4 :* a :^ 2 :+ num 3 :* (num 2 :* a :* x :- num 3 :* b) :* x) :* (num 3 :* x :^ 2 :+ a))
      (λ x a b. num 4 :* a :^ 3 :+ num 27 :* b :^ 2) tt x (κ A) (κ B)
      ∙ ap₂ ◌⊕◌
      (ap₂ ◌⊗◌ (cast_series R 4) (const_pow R A 3) ∙ const_mul R _ _)
      (ap₂ ◌⊗◌ (cast_series R 27) (const_pow R B 2) ∙ const_mul R _ _)
      ∙ const_add R _ _

  bezout : Bezout R (f R q) (∂ R (f R q)) (κ (discriminant R A B))
  bezout = record {
    u = u;
    v = v;
    poly_u = poly_eval R xs polys (:- (num 9 :* (num 2 :* var 1 :* var 0 :- num 3 :* var 2)));
    poly_v = poly_eval R xs polys (num 4 :* var 1 :^ 2 :+ num 3 :* (num 2 :* var 1 :* var 0 :- num 3 :* var 2) :* var 0);
    is = ap (λ y. u ⊗ f R q ⊕ v ⊗ y) (∂-f R q) ∙ combination;
  }

  pub square_free_f : Field R → Nonsingular R A B → SquareFree R (f R q)
  square_free_f F nonsingular =
      coprime_square_free R F (f R q) (bezout_unit R (f R q) (∂ R (f R q)) (discriminant R A B) (F.invert (discriminant R A B) nonsingular) bezout)
