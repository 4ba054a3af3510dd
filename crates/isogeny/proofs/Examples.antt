-- One map over every commutative ring, as a test of the definitions: g = x takes y² = x³ + B to y² = x³ − 27 B, with ℓ = 3, σ = 0, N = x³ + 4 B and
-- N'g − 2Ng' = x³ − 8 B. (Document 01's sheet 11, 0, 1, 0, 6, 3, 0 is B = 1 modulo 11.)
-- Assumes nothing.
use Rattle.std.specs.Prelude.{◌≡◌, [], ◌∷◌}
use Rattle.std.proofs.Math.Path.{refl, sym, ap, ap₂, fun_ext}
use Rattle.std.proofs.Common.{◌∙◌, arith}
use Prim.Native.Nat.{ℕ, zero, suc, ◌-◌, ◌≤◌}
use Rattle.ring.specs.Ring
use Rattle.ring.specs.Ring.{CRing, cast, pow}
use Rattle.ring.specs.Identity.{solve1, solve2}
use Rattle.ring.specs.Identity.Ex.{var, num, :0, :1, ◌:+◌, ◌:-◌, ◌:*◌, :-◌, ◌:^◌}
use Rattle.ring.specs.Derivative.{derive}
use Rattle.series.specs.Series.{Series, Seq, Formal, const, ∂, sum}
use Rattle.series.specs.Indeterminate.{ind, ∂-ind, ∂-const, conv_cast}
use Rattle.series.specs.Binomial.{ind_monic}
use Rattle.series.specs.Reversal.{rev}
use Rattle.isogeny.specs.Rules.{Question, R1, Meets, f, N, W, left, right}
use Rattle.isogeny.specs.Expansion.{Newton, expansion, PowerSums, power_sums_of, Short}
use Rattle.isogeny.specs.Kernel.{codomain_A, codomain_B}
use Rattle.isogeny.proofs.Conditions.{conditions}

module _ (R : CRing) (B : R.Car) where
  open Series R use {𝟘, 𝟙, add as ◌⊕◌, mul as ◌⊗◌, neg}

  infixl 65 ◌⊕◌ ◌⊖◌
  infixl 70 ◌⊗◌
  infixr 75 ◌^◌
  infix 80 #◌
  abbrev ◌⊖◌ : Seq R → Seq R → Seq R
  a ⊖ b = a ⊕ neg b

  abbrev ◌^◌ : Seq R → ℕ → Seq R
  a ^ n = pow (Series R) a n

  abbrev #◌ : ℕ → Seq R
  # n = cast (Series R) n

  -- −27 B
  abbrev B̃ : R.Car
  B̃ = R.neg (R.mul (cast R 27) B)

  abbrev pub q : Question R
  q = record { A = R.𝟘; B = B; Ã = R.𝟘; B̃ = B̃; d = 1; σ = R.𝟘 }

  abbrev x : Seq R
  x = ind R

  abbrev b : Seq R
  b = const R B

  -- ── x and the constants of the question

  no_A : const R R.𝟘 ≡ 𝟘
  no_A = fun_ext go
    where
      go : (i : ℕ) → const R R.𝟘 i ≡ R.𝟘
      go zero = refl
      go (suc i) = refl

  B̃-is : const R B̃ ≡ neg (# 27 ⊗ b)
  B̃-is = fun_ext λ i. go i ∙ ap R.neg (sym (conv_cast R 27 b i))
    where
      go : (i : ℕ) → const R B̃ i ≡ R.neg (R.mul (cast R 27) (b i))
      go zero = refl
      go (suc i) = solve1 R (λ y. :0) (λ y. :- (num 27 :* :0)) tt R.𝟘

  -- ── R2 and R3

  pub N_is : N R q x ≡ x ^ 3 ⊕ # 4 ⊗ b
  unfolding N f
  N_is =
      ap₂ (λ d z. (# 3 ⊗ x ⊖ z) ⊗ x ^ 2 ⊖ # 2 ⊗ (# 3 ⊗ x ^ 2 ⊕ z) ⊗ x ⊗ d ⊖ # 4 ⊗ (x ^ 3 ⊕ z ⊗ x ⊕ b) ⊗ (x ⊗ ∂ R d ⊖ d ^ 2)) (∂-ind R) no_A
      ∙ ap (λ e. (# 3 ⊗ x ⊖ 𝟘) ⊗ x ^ 2 ⊖ # 2 ⊗ (# 3 ⊗ x ^ 2 ⊕ 𝟘) ⊗ x ⊗ 𝟙 ⊖ # 4 ⊗ (x ^ 3 ⊕ 𝟘 ⊗ x ⊕ b) ⊗ (x ⊗ e ⊖ 𝟙 ^ 2)) (∂-const R R.𝟙)
      ∙ solve2 (Series R)
      (λ x b. (num 3 :* x :- :0) :* x :^ 2 :- num 2 :* (num 3 :* x :^ 2 :+ :0) :* x :* :1 :- num 4 :* (x :^ 3 :+ :0 :* x :+ b) :* (x :* :0 :- :1 :^ 2))
      (λ x b. x :^ 3 :+ num 4 :* b) tt x b

  ∂N : ∂ R (x ^ 3 ⊕ # 4 ⊗ b) ≡ # 3 ⊗ x ^ 2
  ∂N = derive (Series R) (Formal R) (x ∷ b ∷ []) (:1 ∷ :0 ∷ []) (∂-ind R, (∂-const R B, tt)) (var 0 :^ 3 :+ num 4 :* var 1) (num 3 :* var 0 :^ 2) tt tt

  pub W_is : W R q x (N R q x) ≡ x ^ 3 ⊖ # 8 ⊗ b
  unfolding W
  W_is =
      ap (λ n. ∂ R n ⊗ x ⊖ # 2 ⊗ n ⊗ ∂ R x) N_is
      ∙ ap₂ (λ m d. m ⊗ x ⊖ # 2 ⊗ (x ^ 3 ⊕ # 4 ⊗ b) ⊗ d) ∂N (∂-ind R)
      ∙ solve2 (Series R) (λ x b. num 3 :* x :^ 2 :* x :- num 2 :* (x :^ 3 :+ num 4 :* b) :* :1) (λ x b. x :^ 3 :- num 8 :* b) tt x b

  r3 : left R q x (N R q x) ≡ right R q x (N R q x)
  unfolding left right f
  r3 =
      ap₂ (λ w z. (x ^ 3 ⊕ z ⊗ x ⊕ b) ⊗ w ^ 2) W_is no_A
      ∙ solve2 (Series R)
      (λ x b. (x :^ 3 :+ :0 :* x :+ b) :* (x :^ 3 :- num 8 :* b) :^ 2)
      (λ x b. (x :^ 3 :+ num 4 :* b) :^ 3 :+ :0 :* (x :^ 3 :+ num 4 :* b) :* x :^ 4 :+ :- (num 27 :* b) :* x :^ 6) tt x b
      ∙ sym (ap₂ (λ n z. n ^ 3 ⊕ z ⊗ n ⊗ x ^ 4 ⊕ const R B̃ ⊗ x ^ 6) N_is no_A ∙ ap
      (λ c. (x ^ 3 ⊕ # 4 ⊗ b) ^ 3 ⊕ 𝟘 ⊗ (x ^ 3 ⊕ # 4 ⊗ b) ⊗ x ^ 4 ⊕ c ⊗ x ^ 6) B̃-is)

  r1 : R1 R q x
  unfolding ind
  r1 = record { degree = (ind_monic R).below; leading = refl; sigma = solve1 R (λ y. :0) (λ y. :- (num 2 :* :0)) tt R.𝟘 }

  -- the rules can be met
  pub meets : Meets R q x
  meets = record { r1 = r1; r3 = λ i. ap (λ s. s i) r3 }

  -- and so can the conditions that stand for R3
  pub short : Short R q (expansion R R.𝟘 B (power_sums_of R 1 x))
  short = conditions R q (omega arith) x r1 meets.r3

  -- ── g = x has the power sums 2, 0, 0, .., and they give the codomain above

  abbrev s : Seq R
  s = const R (cast R 2)

  none : (a : Seq R) (n : ℕ) → sum R (λ i. R.mul (s (suc i)) (a i)) n ≡ R.𝟘
  unfolding sum
  none a zero = refl
  none a (suc n) = ap₂ R.add (none a n) (Ring.zero-mul R (a n)) ∙ R.add-zero R.𝟘

  pub sums : (n : ℕ) → PowerSums R 1 x n s
  unfolding rev ind
  sums n = record { first = refl; newton = newton }
    where
      newton : (k : ℕ) → 1 ≤ k → k ≤ n → Newton R (rev R 1 x) s k
      newton zero l m = absurd (omega arith)
      newton (suc zero) l m = Ring.mul-zero R _ ∙ sym (ap R.neg (none (λ i. rev R 1 x (1 - suc i)) 1) ∙ Ring.neg-zero R)
      newton (suc (suc k)) l m =
          Ring.mul-zero R _ ∙ sym (ap R.neg (none (λ i. rev R 1 x (suc (suc k) - suc i)) (suc (suc k))) ∙ Ring.neg-zero R)

  pub forced_A : codomain_A R R.𝟘 B s ≡ R.𝟘
  forced_A = solve1 R (λ b. :0 :- num 5 :* (num 3 :* :0 :+ num 1 :* :0 :* num 2 :+ num 0 :* b :* num 2)) (λ b. :0) tt B

  pub forced_B : codomain_B R R.𝟘 B s ≡ B̃
  forced_B = solve1 R (λ b. b :- num 7 :* (num 5 :* :0 :+ num 3 :* :0 :* :0 :+ num 2 :* b :* num 2)) (λ b. :- (num 27 :* b)) tt B
