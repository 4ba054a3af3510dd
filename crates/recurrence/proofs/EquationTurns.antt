-- What one turn computes solves its equation: the residues that the functions of `field` and `expansion` give, put into document 01's formulas.
-- Assumes nothing.
use mathlib.Core.Path.{◌≡◌, sym, ◌∙◌, ap, ap₂}
use mathlib.Core.List.{List}
use Prim.Native.Nat.{ℕ, ◌+◌, ◌*◌, ◌-◌, ◌≤◌, ◌<◌}
use native.Mathlib.Omega.{arith}
use lib.ListN.{length, get_or, set}
use Rattle.ring.specs.Ring
use Rattle.ring.specs.Ring.{cast}
use Rattle.ring.specs.Identity.{solve4, solve5, solve6}
use Rattle.ring.specs.Identity.Ex.{◌:+◌, ◌:*◌, :-◌}
use Rattle.series.specs.Series.{Seq}
use Rattle.zmod.specs.Zmod.{Elt, Zmod, mk, plus, times, minus, mk_mul, cast_mk, times_assoc}
use Rattle.zmod.specs.Residues.{Residue, poly, poly_at}
use Rattle.isogeny.specs.Rules.{Question}
use Rattle.isogeny.specs.Expansion.{sum_to, recurrence}
use Rattle.isogeny.proofs.Terms.{recurrence_same}
use Rattle.field.specs.Inverse.{InverseOf}
use Rattle.expansion.specs.Multiple.{Multiple}
use Rattle.expansion.specs.Equations.{Solves}
use Rattle.expansion.specs.Stores.{stored_before, stored_at}
use Rattle.recurrence.specs.Equations.{HAt, Quotient, quotient_cast}

-- ── quotients

pub quotient_is : (p k y t r : ℕ) → InverseOf p k t → Residue p (times p (mk p t) (mk p y)) r → Quotient p k y r
quotient_is p k y t r i h = record {
  below = h.below;
  product =
      ap (times p (mk p k)) h.class ∙ sym (times_assoc p (mk p k) (mk p t) (mk p y)) ∙ ap (λ x. times p x (mk p y)) i.unit
      ∙ Ring.one-mul (Zmod p) (mk p y);
}

-- ── h from the two curves

module _ (p : ℕ) (q : Question (Zmod p)) (h : List ℕ) (k : ℕ) (inside : k < length h) where
  open q use {A, B, Ã, B̃}

  at : (m r : ℕ) → k ≡ m → poly p (set h k r) m ≡ mk p r
  at m r e = ap (poly p (set h k r)) (sym e) ∙ stored_at p h k r inside

  pub h_zero : 0 < p → k ≡ 0 → Solves p (HAt (Zmod p) q) h k 0
  h_zero pos e = record {
    below = pos;
    equation = record {
      zero = λ z. at 0 0 e;
      first = λ z. absurd (omega arith);
      second = λ z. absurd (omega arith);
      more = λ z. absurd (omega arith);
    };
  }

  pub h_first : (y r : ℕ) → k ≡ 1 → Residue p (plus p A (minus p Ã)) y → Quotient p 5 y r → Solves p (HAt (Zmod p) q) h k r
  h_first y r e hy hr = record {
    below = hr.below;
    equation = record {
      zero = λ z. absurd (omega arith);
      first = λ z. ap (times p (cast (Zmod p) 5)) (at 1 r e) ∙ quotient_cast hr ∙ hy.class;
      second = λ z. absurd (omega arith);
      more = λ z. absurd (omega arith);
    };
  }

  pub h_second : (y r : ℕ) → k ≡ 2 → Residue p (plus p B (minus p B̃)) y → Quotient p 7 y r → Solves p (HAt (Zmod p) q) h k r
  h_second y r e hy hr = record {
    below = hr.below;
    equation = record {
      zero = λ z. absurd (omega arith);
      first = λ z. absurd (omega arith);
      second = λ z. ap (times p (cast (Zmod p) 7)) (at 2 r e) ∙ quotient_cast hr ∙ hy.class;
      more = λ z. absurd (omega arith);
    };
  }

  module _ (l : 3 ≤ k) (t x y z w r : ℕ) (ht : InverseOf p (k - 2) t)
      (hx : Residue p (sum_to (Zmod p) (λ i. times p (poly p h i) (poly p h (k - 1 - i))) (k - 2)) x)
      (hy : Multiple p (2 * k - 3) (minus p A) y) (hz : Multiple p (2 * k - 6) (minus p B) z)
      (hw : Residue p (plus p (plus p (times p (mk p (3 * t)) (mk p x)) (times p (mk p y) (mk p (get_or h (k - 2) 0))))
      (times p (mk p z) (mk p (get_or h (k - 3) 0)))) w)
      (hr : Quotient p (2 * k + 3) w r) where
    abbrev # : ℕ → Elt p
    # n = cast (Zmod p) n

    abbrev H : Seq (Zmod p)
    H = poly p h

    abbrev squares : Elt p
    squares = sum_to (Zmod p) (λ i. times p (H i) (H (k - 1 - i))) (k - 2)

    -- what is divided by 2k + 3
    inner : mk p w ≡ plus p (plus p (times p (times p (# 3) (mk p t)) squares) (times p (times p (# (2 * k - 3)) (minus p A)) (H (k - 2))))
        (times p (times p (times p (# 2) (# (k - 3))) (minus p B)) (H (k - 3)))
    inner =
        hw.class
        ∙ ap₂ (plus p)
        (ap₂ (plus p) (ap₂ (times p) (mk_mul p 3 t ∙ ap (λ n. times p n (mk p t)) (sym (cast_mk p 3))) hx.class)
        (ap₂ (times p) hy.class (sym (poly_at p h (k - 2)))))
        (ap₂ (times p) (hz.class ∙ ap (λ n. times p n (minus p B)) (ap # (omega arith) ∙ Ring.cast_mul (Zmod p) 2 (k - 3))) (sym (poly_at p h (k - 3))))

    -- times k − 2
    whole : times p (# (k - 2)) (mk p w) ≡ recurrence (Zmod p) A B H k
    whole =
        ap (times p (# (k - 2))) inner
        ∙ solve6 (Zmod p) (λ a n t s y z. a :* (n :* t :* s :+ y :+ z)) (λ a n t s y z. a :* t :* (n :* s) :+ a :* y :+ a :* z) tt
        (# (k - 2)) (# 3) (mk p t) squares (times p (times p (# (2 * k - 3)) (minus p A)) (H (k - 2)))
        (times p (times p (times p (# 2) (# (k - 3))) (minus p B)) (H (k - 3)))
        ∙ ap₂ (plus p)
        (ap₂ (plus p)
        (ap (λ u. times p u (times p (# 3) squares)) (ap (λ n. times p n (mk p t)) (cast_mk p (k - 2)) ∙ ht.unit) ∙ Ring.one-mul (Zmod p) _)
        (solve4 (Zmod p) (λ a n b u. a :* (n :* :- b :* u)) (λ a n b u. :- (a :* n :* b :* u)) tt (# (k - 2)) (# (2 * k - 3)) A (H (k - 2))))
        (solve5 (Zmod p) (λ a m n b u. a :* (m :* n :* :- b :* u)) (λ a m n b u. :- (m :* a :* n :* b :* u)) tt
        (# (k - 2)) (# 2) (# (k - 3)) B (H (k - 3)))

    pub h_more : Solves p (HAt (Zmod p) q) h k r
    h_more = record {
      below = hr.below;
      equation = record {
        zero = λ z. absurd (omega arith);
        first = λ z. absurd (omega arith);
        second = λ z. absurd (omega arith);
        more = λ _.
            ap (times p (times p (# (k - 2)) (# (2 * k + 3)))) (stored_at p h k r inside)
            ∙ times_assoc p (# (k - 2)) (# (2 * k + 3)) (mk p r) ∙ ap (times p (# (k - 2))) (quotient_cast hr) ∙ whole
            ∙ sym (recurrence_same (Zmod p) A B k l (poly p (set h k r)) H (stored_before p h k r));
      };
    }
