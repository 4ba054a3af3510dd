-- The theorems, about polynomials over ℤ/p for a prime p ≥ ℓ ≥ 3 (question 4 asks for more, 2ℓ − 1 < p), a domain that is not singular and a g that meets the
-- rules: one page to cite. Of the codomain nothing is asked. Factors are polynomials over ℤ/p, not those over a larger field; but an equation
-- u g + v g' = 1 is one over every larger field too. The words used are defined in `isogeny`'s `Curve` and `Rules`, in `divisibility`'s `Divides` and
-- `Coprime` and in `series`' `Degree` and `Value`; the proofs are in the modules beside this one, over any field in which 1 to ℓ − 1 are not zero.
-- Assumes nothing.
use Rattle.std.specs.Prelude.{◌≢◌, ◌≡◌, ℕ, suc, ◌+◌, ◌-◌, ◌≤◌}
use Rattle.std.proofs.Math.Path.{sym, ap}
use Rattle.std.proofs.Common.{◌∙◌, subst, arith}
use Rattle.ring.specs.Ring
use Rattle.ring.specs.Ring.{CRing, pow}
use Rattle.ring.specs.Powers.{squared}
use Rattle.ring.specs.Field.{Field}
use Rattle.ring.specs.Identity.{solve1}
use Rattle.ring.specs.Identity.Ex.{:0, ◌:^◌}
use Rattle.series.specs.Series.{Series, Seq, conv, zeros, ∂}
use Rattle.series.specs.Degree.{Below, Poly, Leading, Monic, leading, leading_regular, monic_mul, ∂-below}
use Rattle.series.specs.Value.{value}
use Rattle.zmod.specs.Zmod.{Zmod}
use Rattle.zmod.specs.Prime.{Prime, Zmod_field}
use Rattle.isogeny.specs.Curve.{Nonsingular, OnCurve}
use Rattle.isogeny.specs.Rules.{Question, Meets, ℓ, f, N, g_at}
use Rattle.isogeny.proofs.Theorems.{N_degree, N_monic}
use Rattle.isogeny.proofs.Cubic.{poly_f, f_at}
use Rattle.divisibility.specs.Divides.{Divides, NoCommonFactor, SquareFree, divides_degree}
use Rattle.divisibility.specs.Coprime.{Coprime, coprime_at}
use Rattle.divisibility.proofs.Coprime.{coprime_no_common_factor, coprime_square_free}
use Rattle.lowest_terms.proofs.Coprime as InLowestTerms

module _ {p : ℕ} (P : Prime p) where
  abbrev R : CRing
  R = Zmod p

  abbrev F : Field R
  F = Zmod_field P

  module _ (q : Question R) (d≥1 : 1 ≤ q.d) (nonsingular : Nonsingular R q.A q.B) (small : ℓ R q ≤ p) (g : Seq R) (meets : Meets R q g) where
    open q use {A, B, d}

    g_monic : Monic R d g
    g_monic = record { below = meets.r1.degree; one = meets.r1.leading }

    g_leading : Leading R d g
    g_leading = leading R d g g_monic

    -- ── 1. Bezout's equations: there are polynomials u and v over ℤ/p

    -- with u g + v g' = 1,
    pub coprime_derivative : Coprime R g (∂ R g)
    coprime_derivative = InLowestTerms.coprime_derivative P q d≥1 nonsingular small g meets

    -- with u g + v f = 1,
    pub coprime_f : Coprime R g (f R q)
    coprime_f = InLowestTerms.coprime_f P q d≥1 nonsingular small g meets

    -- and with u g + v N = 1, for the N of R2.
    pub coprime_N : Coprime R g (N R q g)
    coprime_N = InLowestTerms.coprime_N P q d≥1 nonsingular small g meets

    -- ── 2. factors over ℤ/p

    -- g has no repeated factor: a polynomial over ℤ/p whose square divides g is a constant.
    pub square_free : SquareFree R g
    square_free = coprime_square_free R F g (InLowestTerms.coprime_derivative P q d≥1 nonsingular small g meets)

    -- g has no factor of degree 1 or more in common with f = x³ + Ax + B: a polynomial over ℤ/p that divides both is a constant.
    pub no_factor_f : NoCommonFactor R g (f R q)
    no_factor_f = coprime_no_common_factor R F g (f R q) (InLowestTerms.coprime_f P q d≥1 nonsingular small g meets)

    -- And none in common with N: a polynomial over ℤ/p that divides g and N is a constant.
    pub no_factor_N : NoCommonFactor R g (N R q g)
    no_factor_N = coprime_no_common_factor R F g (N R q g) (InLowestTerms.coprime_N P q d≥1 nonsingular small g meets)

    -- ── 3. roots in ℤ/p

    -- Every root of g is a simple one: where g(u) = 0, g'(u) is not 0.
    pub simple_root : (u : R.Car) → g_at R q g u ≡ R.𝟘 → value R d (∂ R g) u ≢ R.𝟘
    simple_root =
        coprime_at R F.apart g (∂ R g) (suc d, meets.r1.degree) (d, ∂-below R d g meets.r1.degree)
        (InLowestTerms.coprime_derivative P q d≥1 nonsingular small g meets)

    -- And it is the abscissa of no point of order 2: where g(u) = 0, a point (u, v) of the domain has a v that is not 0.
    pub ordinate_nonzero : (u v : R.Car) → OnCurve R A B u v → g_at R q g u ≡ R.𝟘 → v ≢ R.𝟘
    unfolding OnCurve
    ordinate_nonzero u v on root zero =
        coprime_at R F.apart g (f R q) (suc d, meets.r1.degree) (poly_f R q) (InLowestTerms.coprime_f P q d≥1 nonsingular small g meets) u root
        (f_at R q u ∙ sym on ∙ ap (λ y. pow R y 2) zero ∙ solve1 R (λ y. :0 :^ 2) (λ y. :0) tt R.𝟘)

    -- ── 4. ℓ is the degree of the map in lowest terms

    abbrev g² : Seq R
    g² = pow (Series R) g 2

    -- N is monic of degree ℓ,
    pub monic_N : Monic R (ℓ R q) (N R q g)
    monic_N = record { below = N_degree P q d≥1 g meets.r1; one = N_monic P q d≥1 g meets.r1 }

    -- g² is monic of degree ℓ − 1,
    pub monic_g² : Monic R (ℓ R q - 1) g²
    monic_g² = subst (λ n. Monic R n g²) (omega arith) (subst (Monic R (d + d)) (squared (Series R) g) (monic_mul R d d g g g_monic g_monic))

    -- and they are coprime: u N + v g² = 1 for some polynomials u and v over ℤ/p.
    pub coprime_N_g² : Coprime R (N R q g) g²
    coprime_N_g² = InLowestTerms.coprime_N_g² P q d≥1 nonsingular small g meets

    N_leading : Leading R (ℓ R q) (N R q g)
    N_leading = leading R (ℓ R q) (N R q g) monic_N

    g²_leading : Leading R (ℓ R q - 1) g²
    g²_leading = leading R (ℓ R q - 1) g² monic_g²

    -- Let M / D be the same fraction as N / g², that is M g² = N D, with any polynomials M and D over ℤ/p.
    module _ (M D : Seq R) (poly_M : Poly R M) (poly_D : Poly R D) (same : conv R M g² ≡ conv R (N R q g) D) where
      -- Then g² divides D,
      pub denominator : Divides R g² D
      denominator = InLowestTerms.denominator P q d≥1 nonsingular small g meets M D poly_M poly_D same

      -- and M = N k where D = g² k.
      pub numerator : conv R (N R q g) (InLowestTerms.denominator P q d≥1 nonsingular small g meets M D poly_M poly_D same).cofactor ≡ M
      numerator = InLowestTerms.numerator P q d≥1 nonsingular small g meets M D poly_M poly_D same

      -- So, if D is not 0, its degree is ℓ − 1 or more,
      pub denominator_degree : D ≢ zeros R → (n : ℕ) → Below R (suc n) D → ℓ R q - 1 ≤ n
      denominator_degree =
          divides_degree R (ℓ R q - 1) g² D g²_leading (InLowestTerms.denominator P q d≥1 nonsingular small g meets M D poly_M poly_D same)

      -- and that of M is ℓ or more.
      pub numerator_degree : D ≢ zeros R → (n : ℕ) → Below R (suc n) M → ℓ R q ≤ n
      numerator_degree nonzero =
          divides_degree R (ℓ R q) (N R q g) M N_leading
          (record {
            cofactor = (InLowestTerms.denominator P q d≥1 nonsingular small g meets M D poly_M poly_D same).cofactor;
            poly = (InLowestTerms.denominator P q d≥1 nonsingular small g meets M D poly_M poly_D same).poly;
            is = InLowestTerms.numerator P q d≥1 nonsingular small g meets M D poly_M poly_D same;
          })
          (λ e. nonzero (leading_regular R (ℓ R q) (N R q g) N_leading D poly_D (sym same ∙ ap (λ y. conv R y g²) e ∙ Ring.zero-mul (Series R) g²)))
