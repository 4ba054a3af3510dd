-- M, of which `Factor` says that g² M is the polynomial of `Second`, at infinity: of degree at most ℓ + 1, and there it is G² Ψ.
-- Assumes nothing.
use Rattle.std.specs.Prelude.{◌≡◌, refl, ℕ, suc, ◌+◌, ◌*◌}
use Rattle.std.proofs.Common.{sym, ◌∙◌, arith}
use Rattle.std.proofs.Math.Path.{ap}
use Rattle.ring.specs.Ring
use Rattle.ring.specs.Ring.{CRing, cast, pow}
use Rattle.ring.specs.Identity.{solve3}
use Rattle.ring.specs.Identity.Ex.{◌:-◌, ◌:*◌, :-◌, ◌:^◌}
use Rattle.series.specs.Series.{Series, Seq, const, ∂}
use Rattle.series.specs.Degree.{Below, Poly, Monic, leading, monic_mul, factor_below, poly_cast, poly_const, poly_eval, poly_∂}
use Rattle.series.specs.ConstantTerm.{cancel_first, pow_first}
use Rattle.series.specs.Indeterminate.{ind}
use Rattle.series.specs.Binomial.{poly_ind}
use Rattle.series.specs.Reversal.{rev, Reversed, r_degree, r_left, r_mul, r_pow}
use Rattle.isogeny.specs.Rules.{Question, R1, ℓ}
use Rattle.isogeny.proofs.Cubic.{poly_f}
use Rattle.isogeny.proofs.Infinity as I
use Rattle.isogeny.proofs.Infinity.{reversed, quot, Ψ}
use Rattle.isogeny.proofs.Second.{second, r_second}
use Rattle.isogeny.proofs.Factor.{xs, :M, M, second_is}

module _ (R : CRing) (q : Question R) where
  open q use {A, B, Ã, d, σ}
  open Series R use {𝟘, 𝟙, add as ◌⊕◌, mul as ◌⊗◌, neg}

  infixl 65 ◌⊕◌ ◌⊖◌
  infixl 70 ◌⊗◌
  infixr 75 ◌^◌
  infix 80 #◌
  abbrev ◌⊖◌ : Seq R → Seq R → Seq R
  a ⊖ b = a ⊕ neg b

  abbrev ◌^◌ : Seq R → ℕ → Seq R
  a ^ n = pow (Series R) a n

  abbrev #◌ : ℕ → Seq R
  # n = cast (Series R) n

  abbrev κ : R.Car → Seq R
  κ c = const R c

  abbrev x : Seq R
  x = ind R

  module _ (g : Seq R) (r1 : R1 R q g) where
    abbrev G : Seq R
    G = reversed R q g

    abbrev u : Seq R
    u = quot R q (I.power_sums_of R q g)

    M_poly : Poly R (M R q g)
    unfolding M
    M_poly =
        let p : Poly R g = (suc d, r1.degree) in
        let p₁ : Poly R (∂ R g) = poly_∂ R g p in
        let p₂ : Poly R (∂ R (∂ R g)) = poly_∂ R _ p₁ in
        let p₃ : Poly R (∂ R (∂ R (∂ R g))) = poly_∂ R _ p₂ in
        poly_eval R (xs R q g) (
          poly_ind R,
          (poly_const R A, (poly_f R q, (poly_cast R (ℓ R q), (poly_const R σ, (poly_const R Ã, (p, (p₁, (p₂, (p₃, (poly_∂ R _ p₃, tt)))))))))),
        )
        (:M R q g)

    -- g² is monic, so M has the degree of g² M less 2d
    M_below : Below R (suc (suc (ℓ R q))) (M R q g)
    M_below =
        factor_below R (d + d) (g ⊗ g) (M R q g) (leading R (d + d) (g ⊗ g) (monic_mul R d d g g monic monic)) M_poly (suc (suc (ℓ R q)))
        (λ i l. ap (λ a. a i) (sym (second_is R q g ∙ ap (λ y. y ⊗ M R q g) square)) ∙ (r_second R q g r1).below i (omega arith))
      where
        monic : Monic R d g
        monic = record { below = r1.degree; one = r1.leading }

        square : g ^ 2 ≡ g ⊗ g
        square = solve3 (Series R) (λ y z w. y :^ 2) (λ y z w. y :* y) tt g g g

    pub r_M : Reversed R (suc (ℓ R q)) (M R q g) (G ^ 2 ⊗ Ψ R q u)
    r_M = record {
      below = M_below;
      same =
          Ring.sub-zero (Series R) _ _
          (cancel_first R (G ^ 2) _ (pow_first R G (I.G_first R q g r1) 2)
          (solve3 (Series R) (λ g m y. g :^ 2 :* (m :- g :^ 2 :* y)) (λ g m y. g :^ 2 :* m :- g :^ 4 :* y) tt G (rev R (suc (ℓ R q)) (M R q g)) (Ψ R q u)
          ∙ ap (λ y. y ⊖ G ^ 4 ⊗ Ψ R q u) both ∙ (Series R).add-neg _));
    }
      where
        whole : Reversed R (2 * ℓ R q) (second R q g) (G ^ 2 ⊗ rev R (suc (ℓ R q)) (M R q g))
        whole =
            r_left R (sym (second_is R q g))
            (r_degree R (omega arith) (r_mul R (r_pow R (I.r_g R q g r1) 2) (record { below = M_below; same = refl })))

        both : G ^ 2 ⊗ rev R (suc (ℓ R q)) (M R q g) ≡ G ^ 4 ⊗ Ψ R q u
        both = sym whole.same ∙ (r_second R q g r1).same
