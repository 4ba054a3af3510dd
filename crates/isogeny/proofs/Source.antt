-- Source document 001's own formulas beside document 01's rules, over any commutative ring, with D = g²: Vélu's codomain from the first coefficients of D
-- (defined in `Velu`) is the one that R3 leaves, and formula (13), as printed and times D², is R2, term by term. One page to cite.
-- Assumes nothing.
use Rattle.std.specs.Prelude.{◌↔◌, ◌≡◌, ℕ, ◌+◌, ◌≤◌}
use Rattle.std.proofs.Math.Path.{sym, ap, ap₂}
use Rattle.std.proofs.Common.{◌∙◌}
use Rattle.ring.specs.Ring.{CRing, cast, pow}
use Rattle.ring.specs.Identity.{solve1, solve2, solve3, solve4, solve6}
use Rattle.ring.specs.Identity.Ex.{num, :1, ◌:+◌, ◌:-◌, ◌:*◌, :-◌, ◌:^◌}
use Rattle.ring.specs.Derivation.{d_quotient}
use Rattle.series.specs.Series.{Series, Seq, const, ∂, ∂-leibniz, ∂-leibniz_twice, Formal}
use Rattle.series.specs.Degree.{Poly, Monic, leading, leading_regular, monic_mul, monic_poly, regular_cancel}
use Rattle.series.specs.Indeterminate.{ind}
use Rattle.series.specs.Reversal.{rev_sub}
use Rattle.isogeny.specs.Rules.{Question, ℓ, f, N, linear_part_of, first_logarithmic_part_of, second_logarithmic_part_of, N_parts, R1, R3}
use Rattle.isogeny.specs.Expansion.{PowerSums, power_sums_of}
use Rattle.isogeny.specs.Kernel.{codomain_A, codomain_B}
use Rattle.isogeny.specs.Velu.{sigma, velu_A, velu_B}
use Rattle.isogeny.proofs.Codomain.{codomain}
use Rattle.isogeny.proofs.Quotient.{N_monic}
use Rattle.isogeny.proofs.Sums.{sums_exist}
use Rattle.isogeny.proofs.Velu as Velu
use Rattle.isogeny.specs.Source as Source
use Rattle.isogeny.specs.Source.{Printed13, Formula13}

module _ (R : CRing) (q : Question R) where
  open q use {A, B, Ã, B̃, d, σ}
  open Series R use {add as ◌⊕◌, mul as ◌⊗◌, neg}

  infixl 65 ◌⊕◌ ◌⊖◌
  infixl 70 ◌⊗◌
  infixr 75 ◌^◌
  infix 80 #◌
  abbrev ◌⊖◌ : Seq R → Seq R → Seq R
  a ⊖ b = a ⊕ neg b

  abbrev ◌^◌ : Seq R → ℕ → Seq R
  a ^ n = pow (Series R) a n

  abbrev #◌ : ℕ → Seq R
  # n = cast (Series R) n

  abbrev κ : R.Car → Seq R
  κ c = const R c

  abbrev x : Seq R
  x = ind R

  abbrev line : Seq R
  line = Source.line R q

  abbrev quadratic : Seq R
  quadratic = Source.quadratic R q

  -- The σ of R1 is that of (12).
  pub source_sigma : 1 ≤ d → (g : Seq R) → R1 R q g → σ ≡ sigma R d (g ⊗ g)
  unfolding sigma
  source_sigma d≥1 g r1 =
      r1.sigma ∙ ap (λ y. R.neg (R.mul (cast R 2) y)) (sym (rev_sub R d 1 g d≥1)) ∙ ap R.neg (sym (Velu.square_one R d g r1.degree r1.leading))

  -- Source 001's codomain and document 01's, by power sums s of g, are one: t is h₁ and w is h₂.
  pub same_codomain : (g : Seq R) → R1 R q g → (s : Seq R) → PowerSums R d g 3 s
      → (velu_A R A B d (g ⊗ g) ≡ codomain_A R A B s) × (velu_B R A B d (g ⊗ g) ≡ codomain_B R A B s)
  same_codomain g r1 s sums = Velu.same_codomain R d g r1.degree r1.leading A B s sums

  -- For every g with R1 and R3 the codomain is Vélu's, as source 001 computes it from D.
  pub velu : 1 ≤ d → (g : Seq R) → R1 R q g → R3 R q g (N R q g) → (Ã ≡ velu_A R A B d (g ⊗ g)) × (B̃ ≡ velu_B R A B d (g ⊗ g))
  velu d≥1 g r1 r3 =
      let s : Seq R = power_sums_of R d g in
      let sums : PowerSums R d g 3 s = sums_exist R d g r1.leading 3 in
      let by_sums : (Ã ≡ codomain_A R A B s) × (B̃ ≡ codomain_B R A B s) = codomain R q d≥1 g r1 r3 s sums in
      let same : (velu_A R A B d (g ⊗ g) ≡ codomain_A R A B s) × (velu_B R A B d (g ⊗ g) ≡ codomain_B R A B s) = same_codomain g r1 s sums in
      (by_sums.0 ∙ sym same.0, by_sums.1 ∙ sym same.1)

  -- ── (13)

  -- Where D has an inverse i, so that both quotients are there, the one says what the other does. (A series has one where its constant term has one, so
  -- g = x, for one, has a `Formula13` alone.)
  module _ (D i n : Seq R) (inverse : D ⊗ i ≡ (Series R).𝟙) where
    abbrev h : Seq R
    h = ∂ R D ⊗ i

    times_D : h ⊗ D ≡ ∂ R D
    times_D =
        solve3 (Series R) (λ D i s. s :* i :* D) (λ D i s. s :* (D :* i)) tt D i (∂ R D) ∙ ap (λ y. ∂ R D ⊗ y) inverse ∙ (Series R).mul-one (∂ R D)

    slope_times_D² : ∂ R h ⊗ (D ⊗ D) ≡ ∂ R (∂ R D) ⊗ D ⊖ ∂ R D ⊗ ∂ R D
    slope_times_D² = d_quotient (Series R) (Formal R) (∂ R D) D h times_D

    cleared : (line ⊖ quadratic ⊗ h ⊖ # 2 ⊗ f R q ⊗ ∂ R h) ⊗ (D ⊗ D)
        ≡ line ⊗ D ⊗ D ⊖ quadratic ⊗ ∂ R D ⊗ D ⊖ # 2 ⊗ f R q ⊗ (∂ R (∂ R D) ⊗ D ⊖ ∂ R D ⊗ ∂ R D)
    cleared =
        solve6 (Series R) (λ l s f h h' D. (l :- s :* h :- num 2 :* f :* h') :* (D :* D))
        (λ l s f h h' D. l :* D :* D :- s :* (h :* D) :* D :- num 2 :* f :* (h' :* (D :* D))) tt line quadratic (f R q) h (∂ R h) D
        ∙ ap₂ (λ a b. line ⊗ D ⊗ D ⊖ quadratic ⊗ a ⊗ D ⊖ # 2 ⊗ f R q ⊗ b) times_D slope_times_D²

    -- m D² i² = m
    divided : (m : Seq R) → m ⊗ (D ⊗ D) ⊗ (i ⊗ i) ≡ m
    divided m =
        solve3 (Series R) (λ m D i. m :* (D :* D) :* (i :* i)) (λ m D i. m :* ((D :* i) :* (D :* i))) tt m D i ∙ ap (λ y. m ⊗ (y ⊗ y)) inverse
        ∙ solve1 (Series R) (λ m. m :* (:1 :* :1)) (λ m. m) tt m

    quotient_times_D² : n ⊗ i ⊗ (D ⊗ D) ≡ n ⊗ D
    quotient_times_D² =
        solve3 (Series R) (λ n D i. n :* i :* (D :* D)) (λ n D i. n :* D :* (D :* i)) tt n D i ∙ ap (λ y. n ⊗ D ⊗ y) inverse ∙ (Series R).mul-one (n ⊗ D)

    pub printed_13 : Printed13 R q (n ⊗ i) h ↔ Formula13 R q D n
    unfolding Printed13 Formula13
    printed_13 = (
      λ e. sym quotient_times_D² ∙ ap (λ m. m ⊗ (D ⊗ D)) e ∙ cleared,
      λ e. sym (divided (n ⊗ i)) ∙ ap (λ m. m ⊗ (i ⊗ i)) (quotient_times_D² ∙ e ∙ sym cleared) ∙ divided _,
    )

  -- R2's parts times D are the terms on the right, with D = g², each part its own:
  module _ (g : Seq R) where
    pub linear_13 : linear_part_of R q g ⊗ (g ⊗ g) ≡ line ⊗ (g ⊗ g) ⊗ (g ⊗ g)
    unfolding linear_part_of
    linear_13 = solve2 (Series R) (λ l g. l :* g :^ 2 :* (g :* g)) (λ l g. l :* (g :* g) :* (g :* g)) tt line g

    pub first_logarithmic_13 : first_logarithmic_part_of R q g ⊗ (g ⊗ g) ≡ neg (quadratic ⊗ ∂ R (g ⊗ g) ⊗ (g ⊗ g))
    unfolding first_logarithmic_part_of
    first_logarithmic_13 =
        solve3 (Series R) (λ s g g'. :- (num 2 :* s :* g :* g') :* (g :* g)) (λ s g g'. :- (s :* (g' :* g :+ g :* g') :* (g :* g))) tt quadratic g (∂ R g)
        ∙ sym (ap (λ s. neg (quadratic ⊗ s ⊗ (g ⊗ g))) (∂-leibniz R g g))

    pub second_logarithmic_13 : second_logarithmic_part_of R q g ⊗ (g ⊗ g)
        ≡ neg (# 2 ⊗ f R q ⊗ (∂ R (∂ R (g ⊗ g)) ⊗ (g ⊗ g) ⊖ ∂ R (g ⊗ g) ⊗ ∂ R (g ⊗ g)))
    unfolding second_logarithmic_part_of
    second_logarithmic_13 =
        solve4 (Series R) (λ f g g' g''. :- (num 4 :* f :* (g :* g'' :- g' :^ 2)) :* (g :* g))
        (λ f g g' g''. :- (num 2 :* f :* ((g'' :* g :+ g' :* g' :+ (g' :* g' :+ g :* g'')) :* (g :* g) :- (g' :* g :+ g :* g') :* (g' :* g :+ g :* g')))) tt
        (f R q) g (∂ R g) (∂ R (∂ R g))
        ∙ sym (ap₂ (λ s t. neg (# 2 ⊗ f R q ⊗ (t ⊗ (g ⊗ g) ⊖ s ⊗ s))) (∂-leibniz R g g) (∂-leibniz_twice R g g))

  -- so R2's N satisfies it, whatever g is,
  pub formula_13 : (g : Seq R) → Formula13 R q (g ⊗ g) (N R q g)
  unfolding Formula13
  formula_13 g =
      ap (λ n. n ⊗ (g ⊗ g)) (N_parts R q g)
      ∙ solve4 (Series R) (λ a b c D. (a :+ b :+ c) :* D) (λ a b c D. a :* D :+ b :* D :+ c :* D) tt
      (linear_part_of R q g) (first_logarithmic_part_of R q g) (second_logarithmic_part_of R q g) (g ⊗ g)
      ∙ ap₂ ◌⊕◌ (ap₂ ◌⊕◌ (linear_13 g) (first_logarithmic_13 g)) (second_logarithmic_13 g)

  -- and, for a g with R1, no other polynomial does: (13) is R2.
  pub formula_13_is : 1 ≤ d → (g : Seq R) → R1 R q g → (n : Seq R) → Poly R n → Formula13 R q (g ⊗ g) n ↔ (n ≡ N R q g)
  unfolding Formula13
  formula_13_is d≥1 g r1 n polynomial = (there, λ e. ap (λ m. m ⊗ (g ⊗ g)) e ∙ formula_13 g)
    where
      monic : Monic R d g
      monic = record { below = r1.degree; one = r1.leading }

      square : Monic R (d + d) (g ⊗ g)
      square = monic_mul R d d g g monic monic

      there : Formula13 R q (g ⊗ g) n → n ≡ N R q g
      there h =
          regular_cancel R (g ⊗ g) n (N R q g) (leading_regular R (d + d) (g ⊗ g) (leading R (d + d) (g ⊗ g) square)) polynomial
          (monic_poly R (ℓ R q) (N R q g) (N_monic R q d≥1 g r1))
          ((Series R).mul_comm (g ⊗ g) n ∙ h ∙ sym (formula_13 g) ∙ (Series R).mul_comm (N R q g) (g ⊗ g))

  -- The same of (13) as printed, where D has an inverse, among all series.
  pub printed_13_is : (g i n : Seq R) → g ⊗ g ⊗ i ≡ (Series R).𝟙 → Printed13 R q (n ⊗ i) (∂ R (g ⊗ g) ⊗ i) ↔ (n ≡ N R q g)
  unfolding Formula13
  printed_13_is g i n inverse = (
    λ e. sym (back n) ∙ ap (λ m. m ⊗ i) ((printed_13 (g ⊗ g) i n inverse).0 e ∙ sym (formula_13 g)) ∙ back (N R q g),
    λ e. (printed_13 (g ⊗ g) i n inverse).1 (ap (λ m. m ⊗ (g ⊗ g)) e ∙ formula_13 g),
  )
    where
      back : (m : Seq R) → m ⊗ (g ⊗ g) ⊗ i ≡ m
      back m = (Series R).mul_assoc m (g ⊗ g) i ∙ ap (λ y. m ⊗ y) inverse ∙ (Series R).mul-one m
