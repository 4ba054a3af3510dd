-- Which terms of a sequence its equations read: those up to their place.
-- Assumes nothing.
use mathlib.Core.Path.{◌≡◌, sym, ◌∙◌, ap}
use Prim.Native.Nat.{ℕ, suc, ◌+◌, ◌*◌, ◌-◌}
use native.Mathlib.Omega.{arith}
use Rattle.ring.specs.Ring.{CRing, cast}
use Rattle.series.specs.Series.{Seq, sum_same}
use Rattle.series.specs.Recursion.{Before}
use Rattle.isogeny.specs.Rules.{Question}
use Rattle.isogeny.specs.Expansion.{sum_to, from_sums}
use Rattle.candidate.specs.Equations.{SAt, CAt}

module _ (R : CRing) where
  open R use {Car, mul as ◌⊗◌, neg}

  infixl 70 ◌⊗◌
  module _ (q : Question R) where
    open q use {A, B}

    from_sums_same : (i : ℕ) (a b : Seq R) → Before Car (suc (suc i)) a b → from_sums R A B a i ≡ from_sums R A B b i
    from_sums_same i a b e = cc (e (i + 1) (omega arith), e (i - 1) (omega arith), e (i - 2) (omega arith))

    pub s_causal : (h : Seq R) (k : ℕ) (a b : Seq R) → Before Car (suc k) a b → SAt R q h a k → SAt R q h b k
    s_causal h k a b e x = record {
      zero = λ z. sym (e 0 (omega arith)) ∙ x.zero z;
      one = λ z. sym (e 1 (omega arith)) ∙ x.one z;
      more = λ l. sym (from_sums_same (k - 1) a b (λ i m. e i (omega arith))) ∙ x.more l;
    }

  pub newton_same : (s : Seq R) (k : ℕ) (a b : Seq R) → Before Car k a b
      → sum_to R (λ i. s i ⊗ a (k - i)) k ≡ sum_to R (λ i. s i ⊗ b (k - i)) k
  newton_same s k a b e =
      sum_same R (λ i. s (suc i) ⊗ a (k - suc i)) (λ i. s (suc i) ⊗ b (k - suc i)) k (λ i l. ap (λ x. s (suc i) ⊗ x) (e (k - suc i) (omega arith)))

  pub c_causal : (s : Seq R) (k : ℕ) (a b : Seq R) → Before Car (suc k) a b → CAt R s a k → CAt R s b k
  c_causal s k a b e x = record {
    zero = λ z. sym (e 0 (omega arith)) ∙ x.zero z;
    more = λ l. ap (λ y. cast R (2 * k) ⊗ y) (sym (e k (omega arith))) ∙ x.more l ∙ ap neg (newton_same s k a b (λ i m. e i (omega arith)));
  }
