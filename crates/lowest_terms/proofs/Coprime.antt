-- The theorems of the page `Theorems` on which others of that page rest: Bezout's equations, and the fraction N / g² in lowest terms. The page has them
-- too, with the same statements.
-- Assumes nothing.
use Rattle.std.specs.Prelude.{◌≢◌, ◌≡◌, ℕ, ◌+◌, ◌-◌, ◌≤◌, ◌<◌}
use Rattle.std.proofs.Common.{subst, arith}
use Rattle.ring.specs.Ring.{CRing, cast, pow}
use Rattle.ring.specs.Powers.{squared}
use Rattle.ring.specs.Field.{Field}
use Rattle.series.specs.Series.{Series, Seq, conv, ∂}
use Rattle.series.specs.Degree.{Poly, Leading, Monic, leading, leading_poly, leading_regular, monic_mul, monic_poly, poly_∂}
use Rattle.zmod.specs.Zmod.{Zmod}
use Rattle.zmod.specs.Prime.{Prime, Zmod_field, cast_nonzero, cast_inverse}
use Rattle.isogeny.specs.Curve.{Nonsingular}
use Rattle.isogeny.specs.Rules.{Question, Meets, ℓ, f, N}
use Rattle.isogeny.proofs.Theorems.{N_degree, N_monic}
use Rattle.isogeny.proofs.Cubic.{poly_f}
use Rattle.divisibility.specs.Divides.{Divides}
use Rattle.divisibility.specs.Coprime.{Coprime, bezout_sym, coprime_pow}
use Rattle.divisibility.specs.Fraction as Fraction
use Rattle.divisibility.proofs.Irreducible.{coprime_by_irreducibles}
use Rattle.lowest_terms.proofs.Cases as Cases
use Rattle.lowest_terms.proofs.Numerator as Numerator

module _ {p : ℕ} (P : Prime p) where
  abbrev R : CRing
  R = Zmod p

  abbrev F : Field R
  F = Zmod_field P

  module _ (q : Question R) (d≥1 : 1 ≤ q.d) (nonsingular : Nonsingular R q.A q.B) (small : ℓ R q ≤ p) (g : Seq R) (meets : Meets R q g) where
    open q use {A, B, d}

    units : (j : ℕ) → 1 ≤ j → j < ℓ R q → cast R j ≢ R.𝟘
    units j h l = cast_nonzero P j h (omega arith)

    g_monic : Monic R d g
    g_monic = record { below = meets.r1.degree; one = meets.r1.leading }

    g_leading : Leading R d g
    g_leading = leading R d g g_monic

    -- ── 1. Bezout's equations: there are polynomials u and v over ℤ/p

    -- with u g + v g' = 1,
    pub coprime_derivative : Coprime R g (∂ R g)
    coprime_derivative =
        coprime_by_irreducibles R F g (∂ R g) (Cases.not_derivative R F q nonsingular units g meets) d g_leading
        (poly_∂ R g (monic_poly R d g g_monic))

    -- with u g + v f = 1,
    pub coprime_f : Coprime R g (f R q)
    coprime_f = coprime_by_irreducibles R F g (f R q) (Cases.not_f R F q nonsingular units g meets) d g_leading (poly_f R q)

    -- and with u g + v N = 1, for the N of R2.
    pub coprime_N : Coprime R g (N R q g)
    coprime_N = Numerator.coprime_N R q g (monic_poly R d g g_monic) (cast_inverse P 2 (omega arith) (omega arith)) coprime_f coprime_derivative

    -- ── 4. ℓ is the degree of the map in lowest terms

    abbrev g² : Seq R
    g² = pow (Series R) g 2

    -- N is monic of degree ℓ,
    pub monic_N : Monic R (ℓ R q) (N R q g)
    monic_N = record { below = N_degree P q d≥1 g meets.r1; one = N_monic P q d≥1 g meets.r1 }

    -- g² is monic of degree ℓ − 1,
    pub monic_g² : Monic R (ℓ R q - 1) g²
    monic_g² = subst (λ n. Monic R n g²) (omega arith) (subst (Monic R (d + d)) (squared (Series R) g) (monic_mul R d d g g g_monic g_monic))

    -- and they are coprime: u N + v g² = 1 for some polynomials u and v over ℤ/p.
    pub coprime_N_g² : Coprime R (N R q g) g²
    coprime_N_g² = coprime_pow R (N R q g) g (monic_poly R d g g_monic) (bezout_sym R g (N R q g) _ coprime_N) 2

    N_leading : Leading R (ℓ R q) (N R q g)
    N_leading = leading R (ℓ R q) (N R q g) monic_N

    g²_leading : Leading R (ℓ R q - 1) g²
    g²_leading = leading R (ℓ R q - 1) g² monic_g²

    -- Let M / D be the same fraction as N / g², that is M g² = N D, with any polynomials M and D over ℤ/p.
    module _ (M D : Seq R) (poly_M : Poly R M) (poly_D : Poly R D) (same : conv R M g² ≡ conv R (N R q g) D) where
      -- Then g² divides D,
      pub denominator : Divides R g² D
      denominator = Fraction.denominator R (N R q g) g² M D coprime_N_g² poly_M poly_D same

      -- and M = N k where D = g² k.
      pub numerator : conv R (N R q g) denominator.cofactor ≡ M
      unfolding denominator
      numerator =
          Fraction.numerator R (N R q g) g² M D coprime_N_g² poly_M poly_D same (leading_poly R (ℓ R q) (N R q g) N_leading)
          (leading_regular R (ℓ R q - 1) g² g²_leading)
