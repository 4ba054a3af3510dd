-- Where N and g have no common factor, g² is what Euclid's algorithm finds, up to a constant. (σ is read off it: `Sum`.)
-- Assumes nothing.
use Rattle.std.specs.Prelude.{◌≢◌, ◌≡◌, List, [], ◌∷◌, ℕ, suc, ◌+◌, ◌*◌, ◌-◌, ◌≤◌}
use Rattle.std.proofs.Math.Path.{sym, ap, ap₂}
use Rattle.std.proofs.Common.{◌∙◌, subst, arith}
use Rattle.ring.specs.Ring
use Rattle.ring.specs.Ring.{CRing, cast, pow}
use Rattle.ring.specs.Identity.{Ex, solve1, solve5}
use Rattle.ring.specs.Identity.Ex.{var, num, :1, ◌:+◌, ◌:-◌, ◌:*◌, :-◌, ◌:^◌}
use Rattle.series.specs.Series as S
use Rattle.series.specs.Series.{Series, Seq, const, zeros, tail}
use Rattle.series.specs.Degree.{Poly, Leading, Polys, leading, poly_eval}
use Rattle.series.specs.Indeterminate.{ind}
use Rattle.series.specs.Binomial.{monic_power, ind_monic}
use Rattle.series.specs.Recursion.{Before}
use Rattle.series.specs.Reversal.{rev, rev_first, rev_sub, r_pow, r_ind}
use Rattle.isogeny.specs.Rules.{Question, R1, Meets, ℓ, N}
use Rattle.isogeny.specs.Expansion.{expansion, power_sums_of}
use Rattle.isogeny.proofs.Cancelling.{Cancels}
use Rattle.isogeny.proofs.Infinity as I
use Rattle.isogeny.proofs.Infinity.{reversed}
use Rattle.divisibility.specs.Coprime.{Coprime}
use Rattle.reconstruction.specs.Approximant.{multiple_nonzero}
use Rattle.reconstruction.proofs.Approximant.{reconstructed}
use Rattle.kernel_sum.specs.WithoutSum.{with_sum, Expands, Found}
use Rattle.kernel_sum.proofs.Expansion.{expands, same_expansion}
use Rattle.kernel_sum.proofs.AtInfinity.{M, g²_monic}
use Rattle.kernel_sum.proofs.Approximant.{approximant, cofactor}

module _ (R : CRing) (A B Ã B̃ : R.Car) (d : ℕ) (d≥1 : 1 ≤ d) where
  open Series R use {𝟙, add as ◌⊕◌, mul as ◌⊗◌, neg}

  infixl 65 ◌⊕◌ ◌⊖◌
  infixl 70 ◌⊗◌
  infixr 75 ◌^◌
  infix 80 #◌
  abbrev ◌⊖◌ : Seq R → Seq R → Seq R
  a ⊖ b = a ⊕ neg b

  abbrev ◌^◌ : Seq R → ℕ → Seq R
  a ^ n = pow (Series R) a n

  abbrev #◌ : ℕ → Seq R
  # n = cast (Series R) n

  abbrev x : Seq R
  x = ind R

  abbrev asked : R.Car → Question R
  asked σ = with_sum R A B Ã B̃ d σ

  -- g² has the coefficient −σ at x^(2d − 1)
  pub second : (σ : R.Car) (g : Seq R) → R1 R (asked σ) g → (g ^ 2) (2 * d - 1) ≡ R.neg σ
  unfolding reversed
  second σ g r1 =
      sym (rev_sub R (2 * d) 1 (g ^ 2) (omega arith)) ∙ ap (λ f. f 1) (r_pow R (I.r_g R (asked σ) g r1) 2).same
      ∙ ap (λ f. f 1) (solve1 (Series R) (λ g. g :^ 2) (λ g. g :* g) tt G) ∙ S.conv_suc R G G 0
      ∙ ap₂ (λ a b. R.add (R.mul a (G 1)) b) one (S.conv_zero R (tail R G) G ∙ ap (R.mul (G 1)) one)
      ∙ solve1 R (λ y. :1 :* y :+ y :* :1) (λ y. num 2 :* y) tt (G 1)
      ∙ ap (R.mul (cast R 2)) (rev_sub R d 1 g d≥1) ∙ sym (Ring.neg-neg R _) ∙ ap R.neg (sym r1.sigma)
    where
      G : Seq R
      G = rev R d g

      one : G 0 ≡ R.𝟙
      one = rev_first R d g ∙ r1.leading

  module _ (cancels : Cancels R (8 * d + 3)) (σ : R.Car) (g : Seq R) (meets : Meets R (asked σ) g) (lowest : Coprime R g (N R (asked σ) g)) where
    abbrev n : Seq R
    n = N R (asked σ) g

    poly_n : Poly R n
    poly_n = (suc (ℓ R (asked σ)), I.N_below R (asked σ) g meets.r1)

    -- (s g + t N)² = s² g² + T N, with N = M + x g²
    abbrev :T : Ex → Ex → Ex → Ex → Ex
    :T s t g n = num 2 :* s :* t :* g :+ t :^ 2 :* n

    abbrev T : Seq R
    T = # 2 ⊗ lowest.u ⊗ lowest.v ⊗ g ⊕ lowest.v ^ 2 ⊗ n

    abbrev names : List (Seq R)
    names = lowest.u ∷ lowest.v ∷ g ∷ n ∷ x ∷ []

    abbrev polys : Polys R names
    polys = (lowest.poly_u, (lowest.poly_v, ((suc d, meets.r1.degree), (poly_n, ((2, (r_ind R).below), tt)))))

    -- so g² is coprime to −M
    coprime : Coprime R (neg (M R A B Ã B̃ d d≥1 σ g meets.r1)) (g ^ 2)
    coprime = record {
      u = neg T;
      v = lowest.u ^ 2 ⊕ x ⊗ T;
      poly_u = poly_eval R names polys (:- :T (var 0) (var 1) (var 2) (var 3));
      poly_v = poly_eval R names polys (var 0 :^ 2 :+ var 4 :* :T (var 0) (var 1) (var 2) (var 3));
      is =
          solve5 (Series R) (λ s t g n x. :- :T s t g n :* :- (n :- x :* g :^ 2) :+ (s :^ 2 :+ x :* :T s t g n) :* g :^ 2)
          (λ s t g n x. (s :* g :+ t :* n) :^ 2) tt lowest.u lowest.v g n x
          ∙ ap (λ y. y ^ 2) lowest.is ∙ solve1 (Series R) (λ y. :1 :^ 2) (λ y. :1) tt x;
    }

    module _ (h : Seq R) (computed : Expands R A B Ã B̃ (4 * d) h) (r t : Seq R) (found : Found R d h r t) where
      same : Before R.Car (4 * d + 1) h (expansion R A B (power_sums_of R d g))
      same = same_expansion R A B Ã B̃ d d≥1 cancels h (expansion R A B (power_sums_of R d g)) computed (expands R A B Ã B̃ d d≥1 σ g meets (4 * d))

      modulus : Leading R (2 * d + 2 * d) (x ^ (4 * d))
      modulus = subst (λ k. Leading R k (x ^ (4 * d))) (omega arith) (leading R (4 * d) (x ^ (4 * d)) (monic_power R x (ind_monic R) (4 * d)))

      -- t is g² times a constant
      pub square_found : t ≡ const R (t (2 * d)) ⊗ g ^ 2
      square_found =
          reconstructed R (x ^ (4 * d)) (rev R (4 * d) h) (2 * d) (2 * d) modulus r t _ (g ^ 2) found
          (approximant R A B Ã B̃ d d≥1 σ g meets.r1 h same) (g²_monic R A B Ã B̃ d d≥1 σ g meets.r1)
          (subst (λ s. Coprime R s (g ^ 2)) (sym (cofactor R A B Ã B̃ d d≥1 σ g meets.r1 h same)) coprime)

      pub found_nonzero : t ≢ zeros R → t (2 * d) ≢ R.𝟘
      found_nonzero = multiple_nonzero R (t (2 * d)) t (g ^ 2) square_found
