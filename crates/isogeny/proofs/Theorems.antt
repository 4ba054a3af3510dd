-- The theorems, over ℤ/p for a prime p, with document 01's letters and hypotheses: one page to cite. What is said here is said in `Curve`, `Rules`,
-- `Expansion`, `Solution` and `Kernel`; the proofs are in the modules beside this one, most of them over any commutative ring.
-- Assumes nothing.
use Rattle.std.specs.Prelude.{◌↔◌, ◌≢◌, ◌≡◌, ℕ, suc, ◌+◌, ◌*◌, ◌-◌, ◌≤◌, ◌<◌}
use Rattle.std.proofs.Common.{◌∙◌, arith}
use Rattle.std.proofs.Math.Decide.{map_dec}
use Rattle.ring.specs.Ring.{CRing, cast, pow}
use Rattle.ring.specs.Field.{reciprocal, reciprocal_is}
use Rattle.series.specs.Series.{Series, Seq, conv, ∂}
use Rattle.series.specs.Degree.{Below}
use Rattle.series.specs.Indeterminate.{ind}
use Rattle.series.specs.Reversal.{rev}
use Rattle.series.specs.Value.{value}
use Rattle.zmod.specs.Zmod.{Zmod, same?}
use Rattle.zmod.specs.Prime.{Prime, Zmod_field, inverse, cast_nonzero}
use Rattle.isogeny.specs.Curve.{Nonsingular, JValue, OnCurve}
use Rattle.isogeny.specs.Rules.{Question, R1, R3, Meets, ℓ, N, W, left, right, g_at, N_at, W_at, Image}
use Rattle.isogeny.specs.Expansion.{sum_to, Recurs, expansion, PowerSums, power_sums_of, Short, Extra}
use Rattle.isogeny.specs.Solution.{Computed, Coefficients}
use Rattle.isogeny.specs.Kernel as K
use Rattle.isogeny.specs.Kernel.{codomain_A, codomain_B, Passes}
use Rattle.isogeny.proofs.Degrees as Degrees
use Rattle.isogeny.proofs.Cancelling.{cancels, cancels_but}
use Rattle.isogeny.proofs.Existence as Existence
use Rattle.isogeny.proofs.Determined as Determined
use Rattle.isogeny.proofs.Decision as Decision
use Rattle.isogeny.proofs.Codomain as Codomain
use Rattle.isogeny.proofs.Sums as Sums
use Rattle.isogeny.proofs.Conditions as C
use Rattle.isogeny.proofs.Fast as Fast
use Rattle.isogeny.proofs.Quotient as Quotient
use Rattle.isogeny.proofs.Image as I
use Rattle.isogeny.proofs.JValue as J

module _ {p : ℕ} (P : Prime p) where
  abbrev R : CRing
  R = Zmod p

  open R use {Car, 𝟘, 𝟙, add as ◌⊕◌, mul as ◌⊗◌, neg}

  infixl 65 ◌⊕◌ ◌⊖◌
  infixl 70 ◌⊗◌
  infix 80 #◌
  abbrev ◌⊖◌ : Car → Car → Car
  a ⊖ b = a ⊕ neg b

  abbrev #◌ : ℕ → Car
  # n = cast R n

  -- ── 1. g is determined: for a question with ℓ ≥ 3 and 2ℓ − 1 < p

  module _ (q : Question R) (d≥1 : 1 ≤ q.d) (small : 2 * ℓ R q - 1 < p) where
    open q use {d}

    -- Solving can be carried out: every question gives sequences h, s and c.
    pub computable : (h : Seq R) × (s : Seq R) × (c : Seq R) × Computed R q h s c
    computable = (Existence.h R q inv, Existence.s R q inv, Existence.c R q inv, Existence.computes R q inv units)
      where
        inv : ℕ → Car
        inv k = reciprocal R (Zmod_field P) (# k)

        units : (k : ℕ) → 1 ≤ k → k ≤ 2 * d + 1 → # k ⊗ inv k ≡ 𝟙
        units k l m = reciprocal_is R (Zmod_field P) (# k) (cast_nonzero P k (omega arith) (omega arith))

    -- Any g that meets the rules has the computed coefficients: that of x^(d − k) is c_k.
    pub determined : {h s c : Seq R} → Computed R q h s c → (g : Seq R) → Meets R q g → (k : ℕ) → k ≤ d → g (d - k) ≡ c k
    determined computed g meets = (Determined.determined R q d≥1 (cancels P (2 * d + 1) (omega arith)) computed g meets).descending

    -- So it is the computed polynomial.
    pub is_solution : {h s c g : Seq R} → Computed R q h s c → Coefficients R q g c → (g' : Seq R) → Meets R q g' → g' ≡ g
    is_solution {g = g} computed has = Determined.is_solution R q d≥1 (cancels P (2 * d + 1) (omega arith)) computed g has

    -- And no two polynomials meet the rules for one question.
    pub unique : (g g' : Seq R) → Meets R q g → Meets R q g' → g ≡ g'
    unique = Determined.unique R q d≥1 (cancels P (2 * d + 1) (omega arith))

    -- ── 2. there is one exactly when the computed one meets R3

    -- The polynomial g with the computed coefficients meets R1.
    pub solution_R1 : {h s c g : Seq R} → Computed R q h s c → Coefficients R q g c → R1 R q g
    solution_R1 = Determined.solution_R1 R q d≥1

    -- Some polynomial meets the rules if and only if the computed g meets R3 with the N of R2: so solve answers 11 exactly when there is none.
    pub exists : {h s c g : Seq R} → Computed R q h s c → Coefficients R q g c → ((g' : Seq R) × Meets R q g') ↔ R3 R q g (N R q g)
    exists {g = g} computed has = Determined.exists R q d≥1 (cancels P (2 * d + 1) (omega arith)) computed g has

  -- R3 is a matter of 3ℓ + 1 coefficients, for any g of degree at most d and n of degree at most ℓ.
  pub R3_bounded : (q : Question R) (g n : Seq R) → Below R (suc q.d) g → Below R (suc (ℓ R q)) n
      → ((i : ℕ) → i ≤ 3 * ℓ R q → left R q g n i ≡ right R q g n i) → R3 R q g n
  R3_bounded = Degrees.R3_bounded R

  -- So it can be decided,
  pub R3_decided : (q : Question R) (g n : Seq R) → Below R (suc q.d) g → Below R (suc (ℓ R q)) n → Dec (R3 R q g n)
  R3_decided = Decision.R3_decided R (same? p)

  -- and so can be whether any polynomial meets the rules.
  pub decided : (q : Question R) → 1 ≤ q.d → 2 * ℓ R q - 1 < p → Dec ((g : Seq R) × Meets R q g)
  decided q d≥1 small = go (computable q d≥1 small)
    where
      go : (h : Seq R) × (s : Seq R) × (c : Seq R) × Computed R q h s c → Dec ((g : Seq R) × Meets R q g)
      go (h, s, c, computed) =
          let has : Coefficients R q (rev R q.d c) c = Determined.coefficients_of R q d≥1 c in
          let both : ((g : Seq R) × Meets R q g) ↔ R3 R q (rev R q.d c) (N R q (rev R q.d c)) = exists q d≥1 small computed has in
          map_dec both.1 both.0
          (R3_decided q (rev R q.d c) (N R q (rev R q.d c)) has.degree
          (Quotient.N_monic R q d≥1 (rev R q.d c) (solution_R1 q d≥1 small computed has)).below)

  -- ── 3. the codomain: nothing is asked of p

  -- For a domain and a g with R1, R3 holds to one codomain at most: Ã = A − 5h₁ and B̃ = B − 7h₂, with h₁ and h₂ from the power sums s₀ to s₃ of g.
  pub codomain : (q : Question R) → 1 ≤ q.d → (g : Seq R) → R1 R q g → R3 R q g (N R q g) → (s : Seq R) → PowerSums R q.d g 3 s
      → (q.Ã ≡ codomain_A R q.A q.B s) × (q.B̃ ≡ codomain_B R q.A q.B s)
  codomain = Codomain.codomain R

  -- So for a kernel sheet some codomain passes if and only if that one does.
  pub kernel : (A B : Car) (d : ℕ) → 1 ≤ d → (g : Seq R) → Below R (suc d) g → g d ≡ 𝟙 → (s : Seq R) → PowerSums R d g 3 s
      → ((Ã : Car) × (B̃ : Car) × Passes R A B d g Ã B̃) ↔ Passes R A B d g (codomain_A R A B s) (codomain_B R A B s)
  kernel = Codomain.kernel R

  -- A kernel sheet's g meets R1 for the σ that is taken from it.
  pub kernel_R1 : (A B : Car) (d : ℕ) (g : Seq R) → Below R (suc d) g → g d ≡ 𝟙 → (Ã B̃ : Car) → R1 R (K.kernel_question R A B d g Ã B̃) g
  kernel_R1 = Codomain.kernel_R1 R

  -- There are power sums as far as one likes, and they are one sequence.
  pub power_sums_exist : (d : ℕ) (g : Seq R) → g d ≡ 𝟙 → (n : ℕ) → PowerSums R d g n (power_sums_of R d g)
  power_sums_exist d g leading = Sums.sums_exist R d g leading

  pub power_sums_unique : (d : ℕ) (g : Seq R) → g d ≡ 𝟙 → (n : ℕ) (s : Seq R) → PowerSums R d g n s → (i : ℕ) → i ≤ n → s i ≡ power_sums_of R d g i
  power_sums_unique d g leading n s sums i l = Sums.sums_unique R d g leading n s sums i (omega arith)

  -- ── 4. push: a certificate's g and n are any polynomials of these degrees with R3

  module _ (q : Question R) (g n : Seq R) (g_below : Below R (suc q.d) g) (n_below : Below R (suc (ℓ R q)) n) where
    open q use {A, B, Ã, B̃, d}

    -- A point of the domain goes to a point of the codomain.
    pub push : R3 R q g n → (u v u' v' : Car) → OnCurve R A B u v → Image R q g n u v u' v' → OnCurve R Ã B̃ u' v'
    push r3 u v u' v' on image = I.push R q g n g_below n_below u (inverse P _ image.defined) r3 v u' v' on image

    -- Where g(u) is not 0 it goes somewhere,
    pub image_exists : (u v : Car) → g_at R q g u ≢ 𝟘 → (u' : Car) × (v' : Car) × Image R q g n u v u' v'
    image_exists u v nonzero = I.image_exists R q g n g_below n_below u (inverse P _ nonzero) nonzero v

    -- and to one point only.
    pub image_unique : (u v u' v' u'' v'' : Car) → Image R q g n u v u' v' → Image R q g n u v u'' v'' → (u' ≡ u'') × (v' ≡ v'')
    image_unique u v u' v' u'' v'' a b = I.image_unique R q g n g_below n_below u (inverse P _ a.defined) v u' v' u'' v'' a b

    -- (N'g − 2Ng')(u) from the values of N, N', g and g' at u.
    pub W_at_is : (u : Car) → W_at R q g n u ≡ value R (suc (ℓ R q)) (∂ R n) u ⊗ g_at R q g u ⊖ # 2 ⊗ N_at R q n u ⊗ value R (suc d) (∂ R g) u
    W_at_is = I.W_at_is R q g n g_below n_below

  -- ── 5. R3 by the recurrence: for a g with R1, and power sums s₀ to s_(ℓ + 1) of g

  module _ (q : Question R) (d≥1 : 1 ≤ q.d) (g : Seq R) (r1 : R1 R q g) where
    open q use {A, B, Ã, B̃, d}

    -- If p > 3ℓ − 3, R3 holds exactly when 5h₁ = A − Ã, 7h₂ = B − B̃ and document 01's recurrence holds for every k from 3 to ℓ.
    pub fast_from : 3 * ℓ R q - 3 < p → (s : Seq R) → PowerSums R d g (suc (ℓ R q)) s → R3 R q g (N R q g) ↔ Short R q (expansion R A B s)
    fast_from large s sums = Fast.fast R q d≥1 g r1 s sums (cancels P (3 * ℓ R q - 3) large)

    -- The same, with the power sums as a function of g.
    pub fast : 3 * ℓ R q - 3 < p → R3 R q g (N R q g) ↔ Short R q (expansion R A B (power_sums_of R d g))
    fast large =
        Fast.fast R q d≥1 g r1 (power_sums_of R d g) (power_sums_exist d g r1.leading (suc (ℓ R q))) (cancels P (3 * ℓ R q - 3) large)

    -- For every p that question 4 lets through: one coefficient of R3 more where p ≤ 3ℓ − 3, that of x^(3ℓ − 3 − p).
    pub fast_always : 2 * ℓ R q - 1 < p → (s : Seq R) → PowerSums R d g (suc (ℓ R q)) s → R3 R q g (N R q g) ↔ (Short R q (expansion R A B s) × Extra R q g p)
    fast_always small s sums = Fast.fast_but R q d≥1 g r1 s sums p (omega arith) (cancels_but P (3 * ℓ R q - 3) (omega arith))

    -- To the codomain that g gives, R3 holds exactly when the recurrence does,
    pub fast_kernel : 3 * ℓ R q - 3 < p → (s : Seq R) → PowerSums R d g (suc (ℓ R q)) s → Ã ≡ codomain_A R A B s → B̃ ≡ codomain_B R A B s
        → R3 R q g (N R q g) ↔ ((k : ℕ) → 3 ≤ k → k ≤ ℓ R q → Recurs R A B (expansion R A B s) k)
    fast_kernel large s sums a b =
        let one : R3 R q g (N R q g) ↔ Short R q (expansion R A B s) =
        Fast.fast R q d≥1 g r1 s sums (cancels P (3 * ℓ R q - 3) large) in
        let two : Short R q (expansion R A B s) ↔ ((k : ℕ) → 3 ≤ k → k ≤ ℓ R q → Recurs R A B (expansion R A B s) k) = Fast.short_kernel R q
        (expansion R A B s) a b in
        (λ r3. two.0 (one.0 r3), λ rec. one.1 (two.1 rec))

    -- with the one coefficient more where p ≤ 3ℓ − 3.
    pub fast_kernel_always : 2 * ℓ R q - 1 < p → (s : Seq R) → PowerSums R d g (suc (ℓ R q)) s → Ã ≡ codomain_A R A B s → B̃ ≡ codomain_B R A B s
        → R3 R q g (N R q g) ↔ (((k : ℕ) → 3 ≤ k → k ≤ ℓ R q → Recurs R A B (expansion R A B s) k) × Extra R q g p)
    fast_kernel_always small s sums a b =
        let one : R3 R q g (N R q g) ↔ (Short R q (expansion R A B s) × Extra R q g p) = fast_always small s sums in
        let two : Short R q (expansion R A B s) ↔ ((k : ℕ) → 3 ≤ k → k ≤ ℓ R q → Recurs R A B (expansion R A B s) k) = Fast.short_kernel R q
        (expansion R A B s) a b in
        (λ r3. (two.0 (one.0 r3).0, (one.0 r3).1), λ rec. one.1 (two.1 rec.0, rec.1))

    -- ── 6. what document 01 says besides, for a g with R1

    -- R2's N has degree ℓ and leading coefficient 1.
    pub N_degree : Below R (suc (ℓ R q)) (N R q g)
    N_degree = (Quotient.N_monic R q d≥1 g r1).below

    pub N_monic : N R q g (ℓ R q) ≡ 𝟙
    N_monic = (Quotient.N_monic R q d≥1 g r1).one

    -- N'g − 2Ng' has degree 3d and leading coefficient 1.
    pub W_degree : Below R (suc (3 * d)) (W R q g (N R q g))
    W_degree = (Quotient.W_monic R q d≥1 g r1).below

    pub W_monic : W R q g (N R q g) (3 * d) ≡ 𝟙
    W_monic = (Quotient.W_monic R q d≥1 g r1).one

    -- The expansion N/g² = x + h₁/x + h₂/x² + .. times g²: each coefficient of N is that of x g² + h₁ g²/x + h₂ g²/x² + .. (the sum ends where g² does).
    pub expansion_h : (s : Seq R) → PowerSums R d g (ℓ R q) s
        → (m : ℕ) → N R q g m ≡ conv R (ind R) (pow (Series R) g 2) m ⊕ sum_to R (λ i. expansion R A B s i ⊗ pow (Series R) g 2 (m + i)) (2 * d - m)
    expansion_h = Quotient.expanded R q d≥1 g r1

    -- The first power sum is σ.
    pub sums_sigma : (s : Seq R) → PowerSums R d g 1 s → s 1 ≡ q.σ
    sums_sigma s sums = power_sums_unique d g r1.leading 1 s sums 1 (omega arith) ∙ Determined.sums_one R q d≥1 g r1

    -- With R3, the recurrence holds for every k from 3 on; nothing is asked of p.
    pub recurs : R3 R q g (N R q g) → (k : ℕ) → 3 ≤ k → Recurs R A B (expansion R A B (power_sums_of R d g)) k
    recurs = C.recurs R q d≥1 g r1

  -- ── 7. the j-value

  -- A curve has a j-value,
  pub j_exists : (A B : Car) → Nonsingular R A B → (j : Car) × JValue R A B j
  j_exists A B nonsingular = J.j_exists R A B (inverse P _ nonsingular)

  -- and only one.
  pub j_unique : (A B : Car) → Nonsingular R A B → (j j' : Car) → JValue R A B j → JValue R A B j' → j ≡ j'
  j_unique A B nonsingular = J.j_unique R A B (inverse P _ nonsingular)
