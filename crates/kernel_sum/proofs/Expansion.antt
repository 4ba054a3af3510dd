-- The expansion at infinity of any g that meets the rules obeys `Expands`, and where the integers from 1 to 4ℓ − 1 can be cancelled, that has one solution.
-- Assumes nothing.
use Rattle.std.specs.Prelude.{◌≡◌, refl, ℕ, zero, suc, ◌+◌, ◌*◌, ◌-◌, ◌≤◌, ◌<◌}
use Rattle.std.proofs.Common.{sym, ◌∙◌, arith}
use Rattle.ring.specs.Ring.{CRing, cast}
use Rattle.series.specs.Series.{Seq}
use Rattle.series.specs.Recursion.{Before, before_all}
use Rattle.isogeny.specs.Rules.{Meets}
use Rattle.isogeny.specs.Expansion.{expansion, power_sums_of}
use Rattle.isogeny.proofs.Cancelling.{Cancels, cancel_same}
use Rattle.isogeny.proofs.Conditions as C
use Rattle.isogeny.proofs.Terms.{recurrence_same}
use Rattle.kernel_sum.specs.WithoutSum.{with_sum, Expands}

module _ (R : CRing) (A B Ã B̃ : R.Car) (d : ℕ) (d≥1 : 1 ≤ d) where
  open R use {Car, mul as ◌⊗◌, mul_assoc}

  infixl 70 ◌⊗◌
  infix 80 #◌
  abbrev #◌ : ℕ → Car
  # n = cast R n

  pub expands : (σ : Car) (g : Seq R) → Meets R (with_sum R A B Ã B̃ d σ) g → (n : ℕ) → Expands R A B Ã B̃ n (expansion R A B (power_sums_of R d g))
  expands σ g meets n = record {
    zeroth = refl;
    first = C.first R (with_sum R A B Ã B̃ d σ) d≥1 g meets.r1 meets.r3;
    second = C.second R (with_sum R A B Ã B̃ d σ) d≥1 g meets.r1 meets.r3;
    recurs = λ k l m. C.recurs R (with_sum R A B Ã B̃ d σ) d≥1 g meets.r1 meets.r3 k l;
  }

  module _ (cancels : Cancels R (8 * d + 3)) (h h' : Seq R) (a : Expands R A B Ã B̃ (4 * d) h) (b : Expands R A B Ã B̃ (4 * d) h') where
    divide : (k : ℕ) (x y : Car) → 1 ≤ k → k ≤ 8 * d + 3 → # k ⊗ x ≡ # k ⊗ y → x ≡ y
    divide k x y l m = cancel_same R (8 * d + 3) cancels k l m x y

    next : (k : ℕ) → k < 4 * d + 1 → Before Car k h h' → h k ≡ h' k
    next zero l e = a.zeroth ∙ sym b.zeroth
    next (suc zero) l e = divide 5 _ _ (omega arith) (omega arith) (a.first ∙ sym b.first)
    next (suc (suc zero)) l e = divide 7 _ _ (omega arith) (omega arith) (a.second ∙ sym b.second)
    next (suc (suc (suc j))) l e =
        divide (2 * k + 3) _ _ (omega arith) (omega arith)
        (divide (k - 2) _ _ (omega arith) (omega arith)
        (sym (mul_assoc _ _ _) ∙ a.recurs k (omega arith) (omega arith) ∙ recurrence_same R A B k (omega arith) h h' e
        ∙ sym (b.recurs k (omega arith) (omega arith)) ∙ mul_assoc _ _ _))
      where
        k : ℕ
        k = suc (suc (suc j))

    pub same_expansion : Before Car (4 * d + 1) h h'
    same_expansion = before_all Car (4 * d + 1) h h' next
