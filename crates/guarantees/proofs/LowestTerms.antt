-- Kernels free of repetition (document 02, E12), about the words of every sheet that check lets pass, whoever wrote them; what solve, kernel and compose
-- write is such a sheet. Polynomials and their factors are over ℤ/p, the field of the sheet's p; ℓ, g and N are those on the sheet.
-- Assumes nothing.
use Rattle.std.specs.Prelude.{◌≢◌, ◌≡◌, List, ℕ, suc, ◌-◌, ◌≤◌, take, Ok}
use Rattle.std.proofs.Common.{sym, ◌∙◌, subst, arith}
use Rattle.std.proofs.Math.Path.{ap}
use Rattle.ring.specs.Ring.{CRing}
use Rattle.series.specs.Series.{Seq, conv, zeros, ∂}
use Rattle.series.specs.Degree.{Below, Poly, Monic}
use Rattle.series.specs.Value.{value}
use Rattle.zmod.specs.Zmod.{Elt, mk}
use Rattle.zmod.specs.Prime.{Prime}
use Rattle.isogeny.specs.Curve.{Nonsingular}
use Rattle.isogeny.specs.Rules as Rules
use Rattle.isogeny.specs.Rules.{Question, Meets}
use Rattle.divisibility.specs.Divides.{Divides, NoCommonFactor, SquareFree}
use Rattle.divisibility.specs.Coprime.{Coprime}
use Rattle.lowest_terms.proofs.Coprime as InLowestTerms
use Rattle.lowest_terms.proofs.Theorems as Theorems
use Rattle.questions.specs.Numbered.{yes_to}
use Rattle.sheet.specs.declared.Form.TheVariants.{Certificate}
use Rattle.sheet.specs.Values.{values_of}
use Rattle.sheet.specs.Asked.{Curves}
use Rattle.sheet.specs.Ready.{Ready, half_least, degree_half, degree_below}
use Rattle.promises.specs.Asked.{OnDomain, check_asks}
use Rattle.promises.specs.Answer.{CheckRight, SolveRight, KernelRight, ComposeRight}
use Rattle.guarantees.specs.Solve.{solve_certified}
use Rattle.guarantees.specs.Kernel.{kernel_certified}
use Rattle.guarantees.specs.Compose.{compose_certified}
use Rattle.promises.specs.Certificates.{certificate_ready, certificate_N, certificate_meets}
use Rattle.guarantees.specs.LowestTerms as Sheet

-- Check's verdict on the words is that they pass.
module _ (ws : List ℕ) (passes : CheckRight ws (Ok tt)) where
  abbrev p : ℕ
  p = Sheet.p ws

  abbrev R : CRing
  R = Sheet.R ws

  -- the degree on the sheet
  abbrev ℓ : ℕ
  ℓ = Sheet.ℓ ws

  abbrev q : Question R
  q = Sheet.q ws

  -- x³ + Ax + B
  abbrev f : Seq R
  f = Sheet.f ws

  abbrev g : Seq R
  g = Sheet.g ws

  abbrev N : Seq R
  N = Sheet.N ws

  abbrev g² : Seq R
  g² = Sheet.g² ws

  -- ── what its questions say

  known : Ready (values_of Certificate ws)
  known = certificate_ready ws passes.0

  is_prime : Prime p
  is_prime = known.prime.prime

  d≥1 : 1 ≤ q.d
  d≥1 = half_least (values_of Certificate ws) known

  nonsingular : Nonsingular R q.A q.B
  nonsingular = let curves : Curves Certificate (values_of Certificate ws) = yes_to (check_asks ws) 7 passes.0 in curves.domain

  small : Rules.ℓ R q ≤ p
  small = omega (arith, degree_below (values_of Certificate ws) known, degree_half (values_of Certificate ws) known)

  N_is : N ≡ Rules.N R q g
  N_is = certificate_N ws passes.0

  meets : Meets R q g
  meets = certificate_meets ws passes.0

  -- ── factors over ℤ/p

  -- g has no repeated factor: a polynomial over ℤ/p whose square divides g is a constant.
  pub square_free : SquareFree R g
  square_free = Theorems.square_free is_prime q d≥1 nonsingular small g meets

  -- g has no factor of degree 1 or more in common with f: a polynomial over ℤ/p that divides both is a constant.
  pub no_factor_f : NoCommonFactor R g f
  no_factor_f = Theorems.no_factor_f is_prime q d≥1 nonsingular small g meets

  -- And none in common with N: a polynomial over ℤ/p that divides g and N is a constant.
  pub no_factor_N : NoCommonFactor R g N
  no_factor_N = subst (NoCommonFactor R g) (sym N_is) (Theorems.no_factor_N is_prime q d≥1 nonsingular small g meets)

  -- ── the same in equations, which are true over every larger field too: there are polynomials u and v over ℤ/p

  -- with u g + v g' = 1,
  pub coprime_derivative : Coprime R g (∂ R g)
  coprime_derivative = Theorems.coprime_derivative is_prime q d≥1 nonsingular small g meets

  -- with u g + v f = 1,
  pub coprime_f : Coprime R g f
  coprime_f = Theorems.coprime_f is_prime q d≥1 nonsingular small g meets

  -- and with u g + v N = 1.
  pub coprime_N : Coprime R g N
  coprime_N = subst (Coprime R g) (sym N_is) (Theorems.coprime_N is_prime q d≥1 nonsingular small g meets)

  -- ── roots in ℤ/p, and points

  -- Every root of g is a simple one: where g(u) = 0, g'(u) is not 0.
  pub simple_root : (u : Elt p) → Rules.g_at R q g u ≡ mk p 0 → value R q.d (∂ R g) u ≢ mk p 0
  simple_root = Theorems.simple_root is_prime q d≥1 nonsingular small g meets

  -- No point of order 2 goes to infinity: a point (u, v) of the domain with g(u) = 0 has a v that is not 0.
  pub ordinate_nonzero : (u v : ℕ) → OnDomain (values_of Certificate ws) u v → Rules.g_at R q g (mk p u) ≡ mk p 0 → v ≢ 0
  ordinate_nonzero u v on root zero =
      Theorems.ordinate_nonzero is_prime q d≥1 nonsingular small g meets (mk p u) (mk p v) on.on root (ap (mk p) zero)

  -- ── ℓ is the degree of the map in lowest terms

  ℓ-is : Rules.ℓ R q ≡ ℓ
  ℓ-is = omega (arith, degree_half (values_of Certificate ws) known)

  -- N is monic of degree ℓ,
  pub monic_N : Monic R ℓ N
  monic_N = subst (λ n. Monic R n N) ℓ-is (subst (Monic R (Rules.ℓ R q)) (sym N_is) (Theorems.monic_N is_prime q d≥1 nonsingular small g meets))

  -- g² is monic of degree ℓ − 1,
  pub monic_g² : Monic R (ℓ - 1) g²
  monic_g² = subst (λ n. Monic R (n - 1) g²) ℓ-is (Theorems.monic_g² is_prime q d≥1 nonsingular small g meets)

  -- and they are coprime: u N + v g² = 1 for some polynomials u and v over ℤ/p.
  pub coprime_N_g² : Coprime R N g²
  coprime_N_g² = subst (λ y. Coprime R y g²) (sym N_is) (Theorems.coprime_N_g² is_prime q d≥1 nonsingular small g meets)

  -- Let M / D be the same fraction as N / g², that is M g² = N D, with any polynomials M and D over ℤ/p.
  module _ (M D : Seq R) (poly_M : Poly R M) (poly_D : Poly R D) (same : conv R M g² ≡ conv R N D) where
    same_N : conv R M g² ≡ conv R (Rules.N R q g) D
    same_N = same ∙ ap (λ y. conv R y D) N_is

    -- Then g² divides D,
    pub denominator : Divides R g² D
    denominator = InLowestTerms.denominator is_prime q d≥1 nonsingular small g meets M D poly_M poly_D same_N

    -- and M = N k where D = g² k.
    pub numerator : conv R N denominator.cofactor ≡ M
    unfolding denominator
    numerator =
        ap (λ y. conv R y denominator.cofactor) N_is ∙ Theorems.numerator is_prime q d≥1 nonsingular small g meets M D poly_M poly_D same_N

    -- So, if D is not 0, the degree of D is ℓ − 1 or more,
    pub denominator_degree : D ≢ zeros R → (n : ℕ) → Below R (suc n) D → ℓ - 1 ≤ n
    denominator_degree nonzero n below =
        subst (λ l. l - 1 ≤ n) ℓ-is (Theorems.denominator_degree is_prime q d≥1 nonsingular small g meets M D poly_M poly_D same_N nonzero n below)

    -- and that of M is ℓ or more.
    pub numerator_degree : D ≢ zeros R → (n : ℕ) → Below R (suc n) M → ℓ ≤ n
    numerator_degree nonzero n below =
        subst (λ l. l ≤ n) ℓ-is (Theorems.numerator_degree is_prime q d≥1 nonsingular small g meets M D poly_M poly_D same_N nonzero n below)

-- What solve writes is such a sheet,
pub solve_passes : (ws before after : List ℕ) (c : ℕ) → SolveRight ws before after (Ok c) → CheckRight (take c after) (Ok tt)
solve_passes ws before after c h = (solve_certified ws before after c h, tt)

-- so is what kernel writes,
pub kernel_passes : (ws before after : List ℕ) (c : ℕ) → KernelRight ws before after (Ok c) → CheckRight (take c after) (Ok tt)
kernel_passes ws before after c h = (kernel_certified ws before after c h, tt)

-- and so is what compose writes.
pub compose_passes : (first second before after : List ℕ) (c : ℕ) → ComposeRight first second before after (Ok c)
    → CheckRight (take c after) (Ok tt)
compose_passes first second before after c h = (compose_certified first second before after c h, tt)
