-- A polynomial that meets the rules has the coefficients that solving computes: its own sequences obey the equations of `Computed`, and where the
-- integers from 1 to ℓ can be cancelled, these have one solution. So there is at most one such polynomial, and there is one if the computed one meets R3.
-- Assumes nothing.
use Rattle.std.specs.Prelude.{◌↔◌, ◌≡◌, refl, ℕ, zero, suc, ◌+◌, ◌*◌, ◌-◌, ◌≤◌, ◌<◌}
use Rattle.std.proofs.Common.{sym, ◌∙◌, ap₂, subst, arith}
use Rattle.std.proofs.Math.Path.{ap, fun_ext}
use Rattle.std.proofs.Math.Decide.{dec_le}
use Rattle.std.proofs.Math.Nat as Nat
use Rattle.ring.specs.Ring
use Rattle.ring.specs.Ring.{CRing, cast}
use Rattle.ring.specs.Identity.{solve3}
use Rattle.ring.specs.Identity.Ex.{◌:+◌, ◌:-◌}
use Rattle.series.specs.Series.{Seq, sum, sum_same}
use Rattle.series.specs.Recursion.{Before, before_all}
use Rattle.series.specs.Reversal.{rev, rev_sub, rev_past}
use Rattle.isogeny.specs.Rules.{Question, R1, R3, Meets, N}
use Rattle.isogeny.specs.Expansion.{from_sums, expansion, power_sums_of}
use Rattle.isogeny.specs.Solution.{Computed, Coefficients}
use Rattle.isogeny.proofs.Cancelling.{Cancels, cancel_same}
use Rattle.isogeny.proofs.ExpansionAtInfinity as X
use Rattle.isogeny.proofs.Sums as Sums
use Rattle.isogeny.proofs.Conditions as C
use Rattle.isogeny.proofs.Terms.{recurrence_same}

module _ (R : CRing) (q : Question R) (d≥1 : 1 ≤ q.d) where
  open q use {A, B, d, σ}
  open R use {Car, 𝟘, 𝟙, add as ◌⊕◌, mul as ◌⊗◌, neg, mul_assoc, mul-one}

  infixl 65 ◌⊕◌ ◌⊖◌
  infixl 70 ◌⊗◌
  infix 80 #◌
  abbrev ◌⊖◌ : Car → Car → Car
  a ⊖ b = a ⊕ neg b

  abbrev #◌ : ℕ → Car
  # n = cast R n

  -- ── the expansion, the power sums and the coefficients of a g that meets the rules

  pub sums_one : (g : Seq R) → R1 R q g → power_sums_of R d g 1 ≡ σ
  sums_one g r1 = ap (λ f. f 1) (Sums.sums_series R q d≥1 g r1) ∙ X.p_one R q d≥1 g r1

  expands : (s : Seq R) (i : ℕ) → 1 ≤ i → from_sums R A B s i ≡ expansion R A B s i
  expands s zero l = absurd (omega arith)
  expands s (suc i) l = refl

  pub obeys : (g : Seq R) → Meets R q g → Computed R q (expansion R A B (power_sums_of R d g)) (power_sums_of R d g) (rev R d g)
  obeys g meets = record {
    h_zero = refl;
    h_first = λ l. C.first R q d≥1 g meets.r1 meets.r3;
    h_second = λ l. C.second R q d≥1 g meets.r1 meets.r3;
    h_more = λ k l m. C.recurs R q d≥1 g meets.r1 meets.r3 k l;
    s_zero = (Sums.sums_are R d g G_first d).first;
    s_one = sums_one g meets.r1;
    s_more = λ i l m. expands (power_sums_of R d g) i l;
    c_zero = G_first;
    c_more = (Sums.sums_are R d g G_first d).newton;
  }
    where
      G_first : rev R d g 0 ≡ 𝟙
      G_first = Sums.G_first R q d≥1 g meets.r1

  -- ── the equations have one solution

  module _ (cancels : Cancels R (2 * d + 1)) {h s c h' s' c' : Seq R} (a : Computed R q h s c) (b : Computed R q h' s' c') where
    divide : (k : ℕ) (x y : Car) → 1 ≤ k → k ≤ 2 * d + 1 → # k ⊗ x ≡ # k ⊗ y → x ≡ y
    divide k x y l m = cancel_same R (2 * d + 1) cancels k l m x y

    h_next : (k : ℕ) → k < d → Before Car k h h' → h k ≡ h' k
    h_next zero l e = a.h_zero ∙ sym b.h_zero
    h_next (suc zero) l e = divide 5 _ _ (omega arith) (omega arith) (a.h_first l ∙ sym (b.h_first l))
    h_next (suc (suc zero)) l e = divide 7 _ _ (omega arith) (omega arith) (a.h_second l ∙ sym (b.h_second l))
    h_next (suc (suc (suc j))) l e =
        divide (2 * k + 3) _ _ (omega arith) (omega arith)
        (divide (k - 2) _ _ (omega arith) (omega arith)
        (sym (mul_assoc _ _ _) ∙ a.h_more k (omega arith) l ∙ recurrence_same R A B k (omega arith) h h' e ∙ sym (b.h_more k (omega arith) l)
        ∙ mul_assoc _ _ _))
      where
        k : ℕ
        k = suc (suc (suc j))

    same_h : Before Car d h h'
    same_h = before_all Car d h h' h_next

    s_next : (k : ℕ) → k < suc d → Before Car k s s' → s k ≡ s' k
    s_next zero l e = a.s_zero ∙ sym b.s_zero
    s_next (suc zero) l e = a.s_one ∙ sym b.s_one
    s_next (suc (suc j)) l e =
        ap s (omega arith)
        ∙ divide (2 * i + 1) _ _ (omega arith) (omega arith)
        (alone s ∙ ap₂ (λ x y. x ⊖ y) (a.s_more i (omega arith) (omega arith) ∙ same_h i (omega arith) ∙ sym (b.s_more i (omega arith) (omega arith)))
        (ap₂ (λ x y. # (2 * i - 1) ⊗ A ⊗ x ⊕ # (2 * i - 2) ⊗ B ⊗ y) (e (i - 1) (omega arith)) (e (i - 2) (omega arith)))
        ∙ sym (alone s'))
        ∙ ap s' (omega arith)
      where
        i : ℕ
        i = suc j

        alone : (s : Seq R) → # (2 * i + 1) ⊗ s (i + 1) ≡ from_sums R A B s i ⊖ (# (2 * i - 1) ⊗ A ⊗ s (i - 1) ⊕ # (2 * i - 2) ⊗ B ⊗ s (i - 2))
        alone s = solve3 R (λ x y z. x) (λ x y z. x :+ y :+ z :- (y :+ z)) tt (# (2 * i + 1) ⊗ s (i + 1)) (# (2 * i - 1) ⊗ A ⊗ s (i - 1))
            (# (2 * i - 2) ⊗ B ⊗ s (i - 2))

    same_s : Before Car (suc d) s s'
    same_s = before_all Car (suc d) s s' s_next

    c_next : (k : ℕ) → k < suc d → Before Car k c c' → c k ≡ c' k
    c_next zero l e = a.c_zero ∙ sym b.c_zero
    c_next (suc j) l e =
        divide (2 * suc j) _ _ (omega arith) (omega arith)
        (a.c_more (suc j) (omega arith) (omega arith)
        ∙ ap neg (sum_same R (λ i. s (suc i) ⊗ c (suc j - suc i)) (λ i. s' (suc i) ⊗ c' (suc j - suc i)) (suc j)
        (λ i m. ap₂ ◌⊗◌ (same_s (suc i) (omega arith)) (e (suc j - suc i) (omega arith))))
        ∙ sym (b.c_more (suc j) (omega arith) (omega arith)))

    pub same_c : Before Car (suc d) c c'
    same_c = before_all Car (suc d) c c' c_next

  -- ── the theorems

  -- the polynomial with the coefficients c is c reversed
  coefficients_are : (g c : Seq R) → Coefficients R q g c → g ≡ rev R d c
  coefficients_are g c has = fun_ext λ i. go i (dec_le i d)
    where
      go : (i : ℕ) → Dec (i ≤ d) → g i ≡ rev R d c i
      go i (yes l) = ap g (omega arith) ∙ has.descending (d - i) (omega arith) ∙ sym (rev_sub R d i c l)
      go i (no l) = has.degree i (omega arith) ∙ sym (rev_past R d i c (omega arith))

  pub coefficients_of : (c : Seq R) → Coefficients R q (rev R d c) c
  coefficients_of c = record {
    degree = λ i l. rev_past R d i c l;
    descending = λ k l. rev_sub R d (d - k) c (omega arith) ∙ ap c (omega arith);
  }

  -- the computed polynomial meets R1: nothing is divided by
  pub solution_R1 : {h s c g : Seq R} → Computed R q h s c → Coefficients R q g c → R1 R q g
  unfolding sum
  solution_R1 {h} {s} {c} {g} a has = record { degree = has.degree; leading = leading; sigma = sigma }
    where
      leading : g d ≡ 𝟙
      leading = ap g (omega arith) ∙ has.descending 0 (omega arith) ∙ a.c_zero

      newton : # (2 * 1) ⊗ c 1 ≡ neg σ
      newton = a.c_more 1 (Nat.le_refl 1) d≥1 ∙ ap neg (Ring.zero-add R _ ∙ ap₂ ◌⊗◌ a.s_one a.c_zero ∙ mul-one σ)

      sigma : σ ≡ neg (# 2 ⊗ g (d - 1))
      sigma = sym (Ring.neg-neg R σ) ∙ ap neg (sym newton) ∙ ap (λ x. neg (# 2 ⊗ x)) (sym (has.descending 1 d≥1))

  module _ (cancels : Cancels R (2 * d + 1)) {h s c : Seq R} (computed : Computed R q h s c) where
    pub determined : (g : Seq R) → Meets R q g → Coefficients R q g c
    determined g meets = record {
      degree = meets.r1.degree;
      descending = λ k l. sym (rev_sub R d k g l) ∙ same_c cancels (obeys g meets) computed k (omega arith);
    }

    pub is_solution : (g : Seq R) → Coefficients R q g c → (g' : Seq R) → Meets R q g' → g' ≡ g
    is_solution g has g' meets = coefficients_are g' c (determined g' meets) ∙ sym (coefficients_are g c has)

    pub exists : (g : Seq R) → Coefficients R q g c → ((g' : Seq R) × Meets R q g') ↔ R3 R q g (N R q g)
    exists g has = (
      λ e. subst (λ g. R3 R q g (N R q g)) (coefficients_are e.0 c (determined e.0 e.1) ∙ sym (coefficients_are g c has)) e.1.r3,
      λ r3. (g, record { r1 = solution_R1 computed has; r3 = r3 }),
    )

  -- two that meet the rules are one
  pub unique : Cancels R (2 * d + 1) → (g g' : Seq R) → Meets R q g → Meets R q g' → g ≡ g'
  unique cancels g g' meets meets' =
      coefficients_are g (rev R d g') (determined cancels (obeys g' meets') g meets)
      ∙ sym (coefficients_are g' (rev R d g') (determined cancels (obeys g' meets') g' meets'))
