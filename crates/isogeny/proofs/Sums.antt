-- The power sums and the expansion of a g that meets R1, as equations of coefficients (`Expansion`) and as series (`Infinity`): they are the same.
-- Assumes nothing.
use Rattle.std.specs.Prelude.{◌≡◌}
use Rattle.std.proofs.Math.Path.{refl, sym, ap, ap₂, fun_ext}
use Rattle.std.proofs.Common.{◌∙◌, arith}
use Prim.Native.Nat.{ℕ, zero, suc, ◌+◌, ◌*◌, ◌-◌, ◌≤◌, ◌<◌}
use Rattle.std.proofs.Math.Nat as Nat
use Rattle.ring.specs.Ring
use Rattle.ring.specs.Ring.{CRing, cast, cast_mul}
use Rattle.ring.specs.Identity.{solve2, solve3, solve4}
use Rattle.ring.specs.Identity.Ex.{num, ◌:+◌, ◌:-◌, ◌:*◌, :-◌}
use Rattle.series.specs.Series as S
use Rattle.series.specs.Series.{Seq, conv, sum_same, tail}
use Rattle.series.specs.Recursion.{Local, Before, fix_is, fix_only}
use Rattle.series.specs.Reversal.{rev, rev_first}
use Rattle.isogeny.specs.Rules.{Question, R1}
use Rattle.isogeny.specs.Expansion.{sum_to, Newton, expansion, newton_step, power_sums_of, PowerSums}
use Rattle.isogeny.proofs.Newton.{powers, powers_zero, powers_suc}
use Rattle.isogeny.proofs.Infinity as I
use Rattle.isogeny.proofs.Infinity.{reversed, quot}
use Rattle.isogeny.proofs.Coefficients as C
use Rattle.isogeny.proofs.ExpansionAtInfinity as X

module _ (R : CRing) where
  open R use {Car, 𝟘, 𝟙, add as ◌⊕◌, mul as ◌⊗◌, neg}

  infixl 65 ◌⊕◌ ◌⊖◌
  infixl 70 ◌⊗◌
  infix 80 #◌
  abbrev ◌⊖◌ : Car → Car → Car
  a ⊖ b = a ⊕ neg b

  abbrev #◌ : ℕ → Car
  # n = cast R n

  -- ── Cauchy's products as document 01's sums

  -- a b, where a₀ = 0, with b's first coefficient left out
  conv_from : (a b : Seq R) (n : ℕ) → a 0 ≡ 𝟘 → conv R a (tail R b) n ≡ sum_to R (λ i. a i ⊗ b (suc n - i)) n
  conv_from a b n e =
      S.conv_sum R a (tail R b) n ∙ S.sum_first R (λ i. a i ⊗ b (suc (n - i))) n
      ∙ ap₂ ◌⊕◌ (ap (λ x. x ⊗ b (suc (n - 0))) e ∙ Ring.zero-mul R _)
      (sum_same R _ (λ i. a (suc i) ⊗ b (suc n - suc i)) n (λ i l. ap (λ m. a (suc i) ⊗ b m) (omega arith)))
      ∙ Ring.zero-add R _

  -- the square of a series a with a₀ = 0: the sum over i from 1 to n − 1, where n is `suc n`
  pub square_from : (a : Seq R) (n : ℕ) → a 0 ≡ 𝟘 → conv R a a (suc n) ≡ sum_to R (λ i. a i ⊗ a (suc n - i)) n
  square_from a n e =
      S.conv_last R a a n ∙ ap₂ ◌⊕◌ (ap (λ x. a (suc n) ⊗ x) e ∙ Ring.mul-zero R _) (conv_from a a n e) ∙ Ring.zero-add R _

  -- ── Newton's identity solved for s_k, where c₀ = 1: s_k = −2k c_k − (sum of s_i c_(k − i), i from 1 to k − 1), where k is `suc k`

  abbrev pub Solved : Seq R → Seq R → ℕ → Type 0
  Solved c s k = s (suc k) ≡ neg (# (2 * suc k) ⊗ c (suc k)) ⊖ sum_to R (λ i. s i ⊗ c (suc k - i)) k

  -- the sum's last term is s_k
  last : (c s : Seq R) (k : ℕ) → c 0 ≡ 𝟙 → sum_to R (λ i. s i ⊗ c (suc k - i)) (suc k) ≡ sum_to R (λ i. s i ⊗ c (suc k - i)) k ⊕ s (suc k)
  last c s k e =
      S.sum_suc R (λ i. s (suc i) ⊗ c (suc k - suc i)) k
      ∙ ap (λ x. sum_to R (λ i. s i ⊗ c (suc k - i)) k ⊕ x) (ap (λ m. s (suc k) ⊗ c m) (omega arith) ∙ ap (λ x. s (suc k) ⊗ x) e ∙ R.mul-one _)

  pub newton_solved : (c s : Seq R) (k : ℕ) → c 0 ≡ 𝟙 → Newton R c s (suc k) → Solved c s k
  newton_solved c s k e n =
      solve2 R (λ x y. x) (λ x y. :- :- (y :+ x) :- y) tt (s (suc k)) (sum_to R (λ i. s i ⊗ c (suc k - i)) k)
      ∙ ap (λ x. neg x ⊖ sum_to R (λ i. s i ⊗ c (suc k - i)) k) (ap neg (sym (last c s k e)) ∙ sym n)

  pub solved_newton : (c s : Seq R) (k : ℕ) → c 0 ≡ 𝟙 → Solved c s k → Newton R c s (suc k)
  solved_newton c s k e n =
      solve2 R (λ x y. x) (λ x y. :- (y :+ (:- x :- y))) tt (# (2 * suc k) ⊗ c (suc k)) (sum_to R (λ i. s i ⊗ c (suc k - i)) k)
      ∙ ap neg (ap (λ x. sum_to R (λ i. s i ⊗ c (suc k - i)) k ⊕ x) (sym n) ∙ sym (last c s k e))

  -- ── the power sums are what obeys Newton's identities

  module _ (d : ℕ) where
    pub newton_local : (g : Seq R) → Local Car (newton_step R d g)
    unfolding newton_step
    newton_local g zero a b e = refl
    newton_local g (suc k) a b e =
        cc (sum_same R (λ i. a (suc i) ⊗ rev R d g (suc k - suc i)) (λ i. b (suc i) ⊗ rev R d g (suc k - suc i)) k
        (λ i l. ap (λ x. x ⊗ rev R d g (suc k - suc i)) (e (suc i) (omega arith))))

    pub sums_obey : (g : Seq R) (n : ℕ) → power_sums_of R d g n ≡ newton_step R d g n (power_sums_of R d g)
    unfolding power_sums_of
    sums_obey g = fix_is Car 𝟘 (newton_step R d g) (newton_local g)

    pub sums_step : (g s : Seq R) (n : ℕ) → ((i : ℕ) → i < n → s i ≡ newton_step R d g i s) → Before Car n s (power_sums_of R d g)
    unfolding power_sums_of
    sums_step g s n = fix_only Car 𝟘 (newton_step R d g) (newton_local g) n s

    module _ (g : Seq R) (leading : rev R d g 0 ≡ 𝟙) where
      pub sums_are : (n : ℕ) → PowerSums R d g n (power_sums_of R d g)
      unfolding newton_step
      sums_are n = record { first = sums_obey g 0; newton = go }
        where
          go : (k : ℕ) → 1 ≤ k → k ≤ n → Newton R (rev R d g) (power_sums_of R d g) k
          go zero l m = absurd (omega arith)
          go (suc k) l m = solved_newton (rev R d g) (power_sums_of R d g) k leading (sums_obey g (suc k))

      pub sums_only : (n : ℕ) (s : Seq R) → PowerSums R d g n s → Before Car (suc n) s (power_sums_of R d g)
      unfolding newton_step
      sums_only n s obeys = sums_step g s (suc n) go
        where
          go : (i : ℕ) → i < suc n → s i ≡ newton_step R d g i s
          go zero l = obeys.first
          go (suc k) l = newton_solved (rev R d g) s k leading (obeys.newton (suc k) (omega arith) (omega arith))

    -- for a g with leading coefficient 1

    pub sums_exist : (g : Seq R) → g d ≡ 𝟙 → (n : ℕ) → PowerSums R d g n (power_sums_of R d g)
    sums_exist g leading = sums_are g (rev_first R d g ∙ leading)

    -- from Newton's identities solved for s_k, as code computes them
    pub sums_from : (g : Seq R) → g d ≡ 𝟙 → (n : ℕ) (s : Seq R) → s 0 ≡ # (2 * d) → ((k : ℕ) → k < n → Solved (rev R d g) s k) → PowerSums R d g n s
    sums_from g leading n s first solved = record { first = first; newton = go }
      where
        go : (k : ℕ) → 1 ≤ k → k ≤ n → Newton R (rev R d g) s k
        go zero l m = absurd (omega arith)
        go (suc k) l m = solved_newton (rev R d g) s k (rev_first R d g ∙ leading) (solved k (omega arith))

    pub sums_unique : (g : Seq R) → g d ≡ 𝟙 → (n : ℕ) (s : Seq R) → PowerSums R d g n s → Before Car (suc n) s (power_sums_of R d g)
    sums_unique g leading = sums_only g (rev_first R d g ∙ leading)

  -- ── for a g that meets R1 they are the series'

  module _ (q : Question R) (d≥1 : 1 ≤ q.d) (g : Seq R) (r1 : R1 R q g) where
    open q use {A, B, d}

    abbrev G : Seq R
    G = reversed R q g

    abbrev P : Seq R
    P = powers R G

    abbrev p : Seq R
    p = I.power_sums_of R q g

    pub G_first : rev R d g 0 ≡ 𝟙
    unfolding reversed
    G_first = I.G_first R q g r1

    p_obeys : (n : ℕ) → p n ≡ newton_step R d g n p
    unfolding newton_step reversed
    p_obeys zero = X.p_zero R q d≥1 g r1
    p_obeys (suc n) =
        X.p_suc R q d≥1 g r1 n
        ∙ ap (λ x. # 2 ⊗ x) (powers_suc R G n ∙ ap (λ x. neg (# (suc n) ⊗ G (suc n)) ⊖ x) (conv_from P G n (powers_zero R G)))
        ∙ solve3 R (λ k c x. num 2 :* (:- (k :* c) :- x)) (λ k c x. :- (num 2 :* k :* c) :- num 2 :* x) tt (# (suc n)) (G (suc n)) _
        ∙ ap₂ (λ k x. neg (k ⊗ G (suc n)) ⊖ x) (sym (cast_mul R 2 (suc n)))
        (sym (S.sum_scaled R (# 2) (λ i. P (suc i) ⊗ G (suc n - suc i)) n)
        ∙ sum_same R _ (λ i. p (suc i) ⊗ G (suc n - suc i)) n
        (λ i l. sym (R.mul_assoc (# 2) (P (suc i)) (G (suc n - suc i))) ∙ ap (λ x. x ⊗ G (suc n - suc i)) (sym (X.p_suc R q d≥1 g r1 i))))

    pub sums_series : power_sums_of R d g ≡ p
    sums_series = sym (fun_ext λ n. sums_step d g p (suc n) (λ i l. p_obeys i) n (Nat.le_refl _))

    -- h_i is the coefficient of 1/x^i in N / g²
    pub h_is : (i : ℕ) → expansion R A B (power_sums_of R d g) i ≡ quot R q p (suc i)
    h_is zero = sym (X.u_one R q d≥1 g r1)
    h_is (suc zero) =
        ap (λ f. # 3 ⊗ f 2 ⊕ # 1 ⊗ A ⊗ f 0 ⊕ # 0 ⊗ B ⊗ f 0) sums_series
        ∙ solve4 R (λ a b y z. num 3 :* y :+ num 1 :* a :* z :+ num 0 :* b :* z) (λ a b y z. num 3 :* y :+ a :* z) tt A B (p 2) (p 0)
        ∙ sym (C.u_two R q p)
    h_is (suc (suc j)) =
        ap (λ f. # (2 * i + 1) ⊗ f (i + 1) ⊕ # (2 * i - 1) ⊗ A ⊗ f (i - 1) ⊕ # (2 * i - 2) ⊗ B ⊗ f (i - 2)) sums_series
        ∙ ap₂ (λ m n. # m ⊗ p n ⊕ # (2 * i - 1) ⊗ A ⊗ p (i - 1) ⊕ # (2 * i - 2) ⊗ B ⊗ p (i - 2)) (omega arith) (omega arith)
        ∙ ap₂ (λ m n. # (2 * j + 5) ⊗ p (suc (suc (suc j))) ⊕ # m ⊗ A ⊗ p n ⊕ # (2 * i - 2) ⊗ B ⊗ p (i - 2)) (omega arith) (omega arith)
        ∙ ap₂ (λ m n. # (2 * j + 5) ⊗ p (suc (suc (suc j))) ⊕ # (2 * j + 3) ⊗ A ⊗ p (suc j) ⊕ # m ⊗ B ⊗ p n) (omega arith) (omega arith)
        ∙ sym (C.u_more R q p j)
      where
        i : ℕ
        i = suc (suc j)

    pub h_series : expansion R A B (power_sums_of R d g) ≡ tail R (quot R q p)
    h_series = fun_ext h_is
