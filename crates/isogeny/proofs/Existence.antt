-- There are sequences as solving computes them, where the integers from 1 to ℓ are invertible: each term by division from the terms before.
-- Assumes nothing.
use Rattle.std.specs.Prelude.{◌≡◌}
use Rattle.std.proofs.Math.Path.{refl, ap}
use Rattle.std.proofs.Common.{sym, ◌∙◌, arith}
use Prim.Native.Nat.{ℕ, zero, suc, ◌+◌, ◌*◌, ◌-◌, ◌≤◌, ◌<◌}
use Rattle.ring.specs.Ring
use Rattle.ring.specs.Ring.{CRing, cast}
use Rattle.ring.specs.Identity.{solve3}
use Rattle.ring.specs.Identity.Ex.{◌:+◌, ◌:-◌}
use Rattle.series.specs.Series.{Seq, sum_same}
use Rattle.series.specs.Recursion.{Local, fix, fix_is}
use Rattle.isogeny.specs.Rules.{Question}
use Rattle.isogeny.specs.Expansion.{sum_to, Newton, recurrence, Recurs, from_sums}
use Rattle.isogeny.specs.Solution.{Computed}
use Rattle.isogeny.proofs.Terms.{recurrence_same}

module _ (R : CRing) (q : Question R) where
  open q use {A, B, Ã, B̃, d, σ}
  open R use {Car, 𝟘, 𝟙, add as ◌⊕◌, mul as ◌⊗◌, neg, mul_assoc}

  infixl 65 ◌⊕◌ ◌⊖◌
  infixl 70 ◌⊗◌
  infix 80 #◌
  abbrev ◌⊖◌ : Car → Car → Car
  a ⊖ b = a ⊕ neg b

  abbrev #◌ : ℕ → Car
  # n = cast R n

  -- `inv k` is the inverse of k, for k from 1 to ℓ
  abbrev pub Units : (ℕ → Car) → Type 0
  Units inv = (k : ℕ) → 1 ≤ k → k ≤ 2 * d + 1 → # k ⊗ inv k ≡ 𝟙

  module _ (inv : ℕ → Car) where
    unfoldable pub h_step : ℕ → Seq R → Car
    h_step zero h = 𝟘
    h_step (suc zero) h = inv 5 ⊗ (A ⊖ Ã)
    h_step (suc (suc zero)) h = inv 7 ⊗ (B ⊖ B̃)
    h_step (suc (suc (suc j))) h = inv (suc j) ⊗ (inv (2 * suc (suc (suc j)) + 3) ⊗ recurrence R A B h (suc (suc (suc j))))

    unfoldable pub h : Seq R
    h = fix Car 𝟘 h_step

    -- s_(i + 1), where i = j + 1 in the last line
    unfoldable pub s_step : ℕ → Seq R → Car
    s_step zero s = # (2 * d)
    s_step (suc zero) s = σ
    s_step (suc (suc j)) s =
        inv (2 * suc j + 1) ⊗ (h (suc j) ⊖ # (2 * suc j - 1) ⊗ A ⊗ s (suc j - 1) ⊖ # (2 * suc j - 2) ⊗ B ⊗ s (suc j - 2))

    unfoldable pub s : Seq R
    s = fix Car 𝟘 s_step

    unfoldable pub c_step : ℕ → Seq R → Car
    c_step zero c = 𝟙
    c_step (suc j) c = inv (2 * suc j) ⊗ neg (sum_to R (λ i. s i ⊗ c (suc j - i)) (suc j))

    unfoldable pub c : Seq R
    c = fix Car 𝟘 c_step

    -- each step reads only the terms before

    h_local : Local Car h_step
    unfolding h_step
    h_local zero a b e = refl
    h_local (suc zero) a b e = refl
    h_local (suc (suc zero)) a b e = refl
    h_local (suc (suc (suc j))) a b e =
        ap (λ x. inv (suc j) ⊗ (inv (2 * suc (suc (suc j)) + 3) ⊗ x)) (recurrence_same R A B (suc (suc (suc j))) (omega arith) a b e)

    s_local : Local Car s_step
    unfolding s_step
    s_local zero a b e = refl
    s_local (suc zero) a b e = refl
    s_local (suc (suc j)) a b e = cc (e (suc j - 1) (omega arith), e (suc j - 2) (omega arith))

    c_local : Local Car c_step
    unfolding c_step
    c_local zero a b e = refl
    c_local (suc j) a b e =
        cc (sum_same R (λ i. s (suc i) ⊗ a (suc j - suc i)) (λ i. s (suc i) ⊗ b (suc j - suc i)) (suc j)
        (λ i l. ap (λ x. s (suc i) ⊗ x) (e (suc j - suc i) (omega arith))))

    h_obeys : (n : ℕ) → h n ≡ h_step n h
    unfolding h
    h_obeys = fix_is Car 𝟘 h_step h_local

    s_obeys : (n : ℕ) → s n ≡ s_step n s
    unfolding s
    s_obeys = fix_is Car 𝟘 s_step s_local

    c_obeys : (n : ℕ) → c n ≡ c_step n c
    unfolding c
    c_obeys = fix_is Car 𝟘 c_step c_local

    module _ (units : Units inv) where
      undo : (k : ℕ) (y : Car) → 1 ≤ k → k ≤ 2 * d + 1 → # k ⊗ (inv k ⊗ y) ≡ y
      undo k y l g = sym (mul_assoc (# k) (inv k) y) ∙ ap (λ x. x ⊗ y) (units k l g) ∙ Ring.one-mul R y

      h_recurs : (k : ℕ) → 3 ≤ k → k < d → Recurs R A B h k
      unfolding h_step
      h_recurs zero l m = absurd (omega arith)
      h_recurs (suc zero) l m = absurd (omega arith)
      h_recurs (suc (suc zero)) l m = absurd (omega arith)
      h_recurs (suc (suc (suc j))) l m =
          ap (λ x. # (k - 2) ⊗ # (2 * k + 3) ⊗ x) (h_obeys k)
          ∙ ap (λ n. # n ⊗ # (2 * k + 3) ⊗ (inv (suc j) ⊗ (inv (2 * k + 3) ⊗ recurrence R A B h k))) (omega arith)
          ∙ four (# (suc j)) (# (2 * k + 3)) (inv (suc j)) _
          ∙ undo (suc j) _ (omega arith) (omega arith) ∙ undo (2 * k + 3) _ (omega arith) (omega arith)
        where
          k : ℕ
          k = suc (suc (suc j))

          four : (x y z w : Car) → x ⊗ y ⊗ (z ⊗ w) ≡ x ⊗ (z ⊗ (y ⊗ w))
          four x y z w = mul_assoc x y (z ⊗ w) ∙ ap (λ t. x ⊗ t) (Ring.mul_left_comm R y z w)

      s_expands : (i : ℕ) → 1 ≤ i → i < d → from_sums R A B s i ≡ h i
      unfolding s_step
      s_expands zero l m = absurd (omega arith)
      s_expands (suc j) l m =
          ap (λ x. # (2 * suc j + 1) ⊗ x ⊕ # (2 * suc j - 1) ⊗ A ⊗ s (suc j - 1) ⊕ # (2 * suc j - 2) ⊗ B ⊗ s (suc j - 2))
          (ap s (omega arith) ∙ s_obeys (suc (suc j)))
          ∙ ap (λ x. x ⊕ # (2 * suc j - 1) ⊗ A ⊗ s (suc j - 1) ⊕ # (2 * suc j - 2) ⊗ B ⊗ s (suc j - 2)) (undo (2 * suc j + 1) _ (omega arith) (omega arith))
          ∙ solve3 R (λ x y z. x :- y :- z :+ y :+ z) (λ x y z. x) tt (h (suc j)) (# (2 * suc j - 1) ⊗ A ⊗ s (suc j - 1))
          (# (2 * suc j - 2) ⊗ B ⊗ s (suc j - 2))

      c_newton : (k : ℕ) → 1 ≤ k → k ≤ d → Newton R c s k
      unfolding c_step
      c_newton zero l m = absurd (omega arith)
      c_newton (suc j) l m = ap (λ x. # (2 * suc j) ⊗ x) (c_obeys (suc j)) ∙ undo (2 * suc j) _ (omega arith) (omega arith)

      pub computes : Computed R q h s c
      unfolding h_step s_step c_step
      computes = record {
        h_zero = h_obeys 0;
        h_first = λ l. ap (λ x. # 5 ⊗ x) (h_obeys 1) ∙ undo 5 _ (omega arith) (omega arith);
        h_second = λ l. ap (λ x. # 7 ⊗ x) (h_obeys 2) ∙ undo 7 _ (omega arith) (omega arith);
        h_more = h_recurs;
        s_zero = s_obeys 0;
        s_one = s_obeys 1;
        s_more = s_expands;
        c_zero = c_obeys 0;
        c_more = c_newton;
      }
