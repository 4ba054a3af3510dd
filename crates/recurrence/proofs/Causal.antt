-- Which terms of a sequence its equations read: those up to their place.
-- Assumes nothing.
use mathlib.Core.Path.{sym, ◌∙◌, ap}
use Prim.Native.Nat.{ℕ, suc, ◌+◌, ◌*◌, ◌-◌}
use native.Mathlib.Omega.{arith}
use Rattle.ring.specs.Ring.{CRing, cast}
use Rattle.series.specs.Series.{Seq}
use Rattle.series.specs.Recursion.{Before}
use Rattle.isogeny.specs.Rules.{Question}
use Rattle.isogeny.proofs.Terms.{recurrence_same}
use Rattle.recurrence.specs.Equations.{HAt}

module _ (R : CRing) (q : Question R) where
  open R use {Car, mul as ◌⊗◌}
  open q use {A, B}

  infixl 70 ◌⊗◌
  pub h_causal : (k : ℕ) (a b : Seq R) → Before Car (suc k) a b → HAt R q a k → HAt R q b k
  h_causal k a b e x = record {
    zero = λ z. sym (e 0 (omega arith)) ∙ x.zero z;
    first = λ z. ap (λ y. cast R 5 ⊗ y) (sym (e 1 (omega arith))) ∙ x.first z;
    second = λ z. ap (λ y. cast R 7 ⊗ y) (sym (e 2 (omega arith))) ∙ x.second z;
    more = λ l.
        ap (λ y. cast R (k - 2) ⊗ cast R (2 * k + 3) ⊗ y) (sym (e k (omega arith))) ∙ x.more l
        ∙ recurrence_same R A B k l a b (λ i m. e i (omega arith));
  }
