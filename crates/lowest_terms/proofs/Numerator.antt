-- The N of R2: ℓ x − σ and f' = 3 x² + A, which it is made of beside f and g, are polynomials; modulo g it is f (2 g')², so g is coprime to N where it is
-- coprime to f and to g' and 2 is a unit.
-- Assumes nothing.
use Rattle.std.proofs.Common.{sym, subst}
use Rattle.std.specs.Prelude.{[], ◌∷◌, ℕ}
use Rattle.ring.specs.Ring.{CRing, cast, pow}
use Rattle.ring.specs.Field.{Inverse}
use Rattle.ring.specs.Identity.{solve6}
use Rattle.ring.specs.Identity.Ex.{var, num, ◌:+◌, ◌:-◌, ◌:*◌, ◌:^◌}
use Rattle.series.specs.Series.{Series, Seq, const, ∂}
use Rattle.series.specs.Degree.{Poly, poly_eval, poly_const, poly_cast, poly_mul, poly_∂}
use Rattle.series.specs.Indeterminate.{ind, cast_series}
use Rattle.series.specs.Binomial.{poly_ind}
use Rattle.isogeny.specs.Rules as Rules
use Rattle.isogeny.specs.Rules.{Question, ℓ}
use Rattle.isogeny.specs.Source as Source
use Rattle.isogeny.proofs.Cubic.{poly_f}
use Rattle.divisibility.specs.Congruence.{Congruent}
use Rattle.divisibility.specs.Coprime.{Coprime, bezout_modulo, coprime_mul, coprime_const, coprime_pow}

module _ (R : CRing) (q : Question R) where
  open q use {A, σ}

  pub poly_quadratic : Poly R (Source.quadratic R q)
  poly_quadratic = poly_eval R (ind R ∷ const R A ∷ []) (poly_ind R, (poly_const R A, tt)) (num 3 :* var 0 :^ 2 :+ var 1)

  pub poly_line : Poly R (Source.line R q)
  poly_line =
      poly_eval R (ind R ∷ cast (Series R) (ℓ R q) ∷ const R σ ∷ []) (poly_ind R, (poly_cast R (ℓ R q), (poly_const R σ, tt)))
      (var 1 :* var 0 :- var 2)

module _ (R : CRing) (q : Question R) (g : Seq R) (poly_g : Poly R g) where
  open Series R use {add as ◌⊕◌, mul as ◌⊗◌, neg}

  infixl 65 ◌⊕◌ ◌⊖◌
  infixl 70 ◌⊗◌
  infixr 75 ◌^◌
  infix 80 #◌
  abbrev ◌⊖◌ : Seq R → Seq R → Seq R
  a ⊖ b = a ⊕ neg b

  abbrev ◌^◌ : Seq R → ℕ → Seq R
  a ^ n = pow (Series R) a n

  abbrev #◌ : ℕ → Seq R
  # n = cast (Series R) n

  abbrev f : Seq R
  f = Rules.f R q

  abbrev f' : Seq R
  f' = Source.quadratic R q

  abbrev line : Seq R
  line = Source.line R q

  poly_g' : Poly R (∂ R g)
  poly_g' = poly_∂ R g poly_g

  N_modulo_g : Congruent R g (Rules.N R q g) (f ⊗ (# 2 ⊗ ∂ R g) ^ 2)
  unfolding Rules.N
  N_modulo_g = record {
    cofactor = line ⊗ g ⊖ # 2 ⊗ f' ⊗ ∂ R g ⊖ # 4 ⊗ f ⊗ ∂ R (∂ R g);
    poly =
        poly_eval R (line ∷ f ∷ f' ∷ g ∷ ∂ R g ∷ ∂ R (∂ R g) ∷ [])
        (poly_line R q, (poly_f R q, (poly_quadratic R q, (poly_g, (poly_g', (poly_∂ R _ poly_g', tt))))))
        (var 0 :* var 3 :- num 2 :* var 2 :* var 4 :- num 4 :* var 1 :* var 5);
    is =
        solve6 (Series R) (λ l f f' g g' g''. g :* (l :* g :- num 2 :* f' :* g' :- num 4 :* f :* g''))
        (λ l f f' g g' g''. l :* g :^ 2 :- num 2 :* f' :* g :* g' :- num 4 :* f :* (g :* g'' :- g' :^ 2) :- f :* (num 2 :* g') :^ 2) tt
        line f f' g (∂ R g) (∂ R (∂ R g));
  }

  pub coprime_N : Inverse R (cast R 2) → Coprime R g f → Coprime R g (∂ R g) → Coprime R g (Rules.N R q g)
  coprime_N half with_f with_g' =
      bezout_modulo R g (Rules.N R q g) (f ⊗ (# 2 ⊗ ∂ R g) ^ 2) _ N_modulo_g
      (coprime_mul R g f _ (poly_f R q) with_f
      (coprime_pow R g _ (poly_mul R (# 2) (∂ R g) (poly_cast R 2) poly_g') (coprime_mul R g (# 2) (∂ R g) (poly_cast R 2) two with_g') 2))
    where
      two : Coprime R g (# 2)
      two = subst (Coprime R g) (sym (cast_series R 2)) (coprime_const R g (cast R 2) half)
