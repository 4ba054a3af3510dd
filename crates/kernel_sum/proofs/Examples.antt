-- One map, as a test of the definitions: from y² = x³ + B to y² = x³ − 27 B, of degree 3, the expansion is x + 4 B / x², t = x² fits
-- it with the remainder 0, and g² is x², as `isogeny`'s example has it. N = x³ + 4 B and g = x are coprime where 4 B is invertible.
-- Assumes nothing.
use Rattle.std.specs.Prelude.{◌≡◌}
use Rattle.std.proofs.Math.Path.{refl, sym, ap, fun_ext}
use Rattle.std.proofs.Common.{◌∙◌, arith}
use Prim.Native.Nat.{ℕ, zero, suc, ◌≤◌}
use Rattle.ring.specs.Ring
use Rattle.ring.specs.Ring.{CRing, cast, pow}
use Rattle.ring.specs.Identity.{solve1, solve2, solve3}
use Rattle.ring.specs.Identity.Ex.{num, :0, ◌:+◌, ◌:-◌, ◌:*◌, :-◌, ◌:^◌}
use Rattle.series.specs.Series.{Series, Seq, const, zeros, sum, head_then, conv_const}
use Rattle.series.specs.Degree.{poly_const, poly_mul, poly_neg, poly_pow}
use Rattle.series.specs.Indeterminate.{ind, conv_ind, conv_cast}
use Rattle.series.specs.Reversal.{rev, r_ind, r_pow}
use Rattle.isogeny.proofs.Examples.{q, N_is}
use Rattle.isogeny.specs.Expansion.{Recurs}
use Rattle.isogeny.specs.Rules.{N}
use Rattle.divisibility.specs.Coprime.{Coprime}
use Rattle.kernel_sum.specs.WithoutSum.{Expands, Found}

module _ (R : CRing) (B : R.Car) where
  open Series R use {𝟙, add as ◌⊕◌, mul as ◌⊗◌, neg}

  infixl 65 ◌⊕◌
  infixl 70 ◌⊗◌
  infixr 75 ◌^◌
  infix 80 #◌
  abbrev ◌^◌ : Seq R → ℕ → Seq R
  a ^ n = pow (Series R) a n

  abbrev #◌ : ℕ → Seq R
  # n = cast (Series R) n

  abbrev x : Seq R
  x = ind R

  -- −27 B and 4 B
  abbrev B̃ : R.Car
  B̃ = R.neg (R.mul (cast R 27) B)

  abbrev c : R.Car
  c = R.mul (cast R 4) B

  -- 0, 0, 4 B, 0, 0, ..
  abbrev h : Seq R
  h = head_then R R.𝟘 (head_then R R.𝟘 (const R c))

  computed : Expands R R.𝟘 B R.𝟘 B̃ 4 h
  unfolding sum
  computed = record {
    zeroth = refl;
    first = solve1 R (λ b. num 5 :* :0) (λ b. :0 :- :0) tt B;
    second = solve1 R (λ b. num 7 :* (num 4 :* b)) (λ b. b :- :- (num 27 :* b)) tt B;
    recurs = go;
  }
    where
      go : (k : ℕ) → 3 ≤ k → k ≤ 4 → Recurs R R.𝟘 B h k
      go zero l m = absurd (omega arith)
      go (suc zero) l m = absurd (omega arith)
      go (suc (suc zero)) l m = absurd (omega arith)
      go (suc (suc (suc zero))) l m =
          solve1 R (λ b. num 1 :* num 9 :* :0)
          (λ b. num 3 :* (:0 :+ :0 :* :0) :- num 1 :* num 3 :* :0 :* :0 :- num 2 :* num 1 :* num 0 :* b :* :0) tt B
      go (suc (suc (suc (suc zero)))) l m =
          solve1 R (λ b. num 2 :* num 11 :* :0)
          (λ b. num 3 :* (:0 :+ :0 :* (num 4 :* b) :+ num 4 :* b :* :0) :- num 2 :* num 5 :* :0 :* (num 4 :* b) :- num 2 :* num 2 :* num 1 :* b :* :0) tt B
      go (suc (suc (suc (suc (suc k))))) l m = absurd (omega arith)

  -- 4 B x²
  reversed : rev R 4 h ≡ const R c ⊗ x ^ 2
  unfolding rev
  reversed =
      fun_ext go ∙ sym (conv_ind R (head_then R R.𝟘 (const R c))) ∙ ap (λ y. x ⊗ y) (sym (conv_ind R (const R c)))
      ∙ solve2 (Series R) (λ x c. x :* (x :* c)) (λ x c. c :* x :^ 2) tt x (const R c)
    where
      go : (i : ℕ) → rev R 4 h i ≡ head_then R R.𝟘 (head_then R R.𝟘 (const R c)) i
      go zero = refl
      go (suc zero) = refl
      go (suc (suc zero)) = refl
      go (suc (suc (suc zero))) = refl
      go (suc (suc (suc (suc zero)))) = refl
      go (suc (suc (suc (suc (suc i))))) = refl

  found : Found R 1 h (zeros R) (x ^ 2)
  found = record {
    s = neg (const R c);
    poly_s = poly_neg R _ (poly_const R c);
    is =
        solve2 (Series R) (λ x c. :0) (λ x c. x :^ 2 :* (c :* x :^ 2) :+ :- c :* x :^ 4) tt x (const R c)
        ∙ ap (λ y. x ^ 2 ⊗ y ⊕ neg (const R c) ⊗ x ^ 4) (sym reversed);
    r_below = λ i l. refl;
    t_below = (r_pow R (r_ind R) 2).below;
  }

  lowest : (i : R.Car) → R.mul c i ≡ R.𝟙 → Coprime R x (N R (q R B) x)
  lowest i e = record {
    u = neg (const R i ⊗ x ^ 2);
    v = const R i;
    poly_u = poly_neg R _ (poly_mul R _ _ (poly_const R i) (poly_pow R x (2, (r_ind R).below) 2));
    poly_v = poly_const R i;
    is =
        ap (λ n. neg (const R i ⊗ x ^ 2) ⊗ x ⊕ const R i ⊗ n) (N_is R B)
        ∙ solve3 (Series R) (λ i x b. :- (i :* x :^ 2) :* x :+ i :* (x :^ 3 :+ num 4 :* b)) (λ i x b. num 4 :* b :* i) tt (const R i) x (const R B)
        ∙ fun_ext one;
  }
    where
      one : (j : ℕ) → (# 4 ⊗ const R B ⊗ const R i) j ≡ const R R.𝟙 j
      one j =
          ap (λ f. f j) (CRing.mul_assoc (Series R) (# 4) (const R B) (const R i)) ∙ conv_cast R 4 (const R B ⊗ const R i) j
          ∙ ap (R.mul (cast R 4)) (conv_const R B (const R i) j) ∙ sym (R.mul_assoc (cast R 4) B (const R i j)) ∙ at j
        where
          at : (j : ℕ) → R.mul c (const R i j) ≡ const R R.𝟙 j
          at zero = e
          at (suc j) = Ring.mul-zero R c
