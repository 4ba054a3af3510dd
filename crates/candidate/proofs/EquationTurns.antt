-- What one turn of each loop computes solves its equation: the residues that the functions of `field` and `poly` give, put into document 01's formulas.
-- Assumes nothing.
use mathlib.Core.Path.{◌≡◌, sym, ◌∙◌, ap, ap₂}
use mathlib.Core.List.{List}
use Prim.Native.Nat.{ℕ, ◌+◌, ◌*◌, ◌-◌, ◌≤◌, ◌<◌}
use native.Mathlib.Omega.{arith}
use lib.ListN.{length, get_or, set, take, drop}
use Rattle.ring.specs.Ring
use Rattle.ring.specs.Ring.{cast}
use Rattle.ring.specs.Identity.{solve5, solve7}
use Rattle.ring.specs.Identity.Ex.{:0, :1, ◌:+◌, ◌:*◌, :-◌}
use Rattle.series.specs.Series.{Seq, conv}
use Rattle.zmod.specs.Zmod.{Elt, Zmod, mk, plus, times, minus, cast_mk}
use Rattle.zmod.specs.Residues.{Residue, poly, poly_at, residue_same, residue_self}
use Rattle.isogeny.specs.Rules.{Question}
use Rattle.isogeny.specs.Expansion.{from_sums}
use Rattle.field.specs.Inverse.{InverseOf}
use Rattle.expansion.specs.Multiple.{Multiple}
use Rattle.expansion.specs.Equations.{Solves}
use Rattle.expansion.specs.Stores.{stored_before, stored_at}
use Rattle.expansion.specs.Parts.{part_at, take_at}
use Rattle.recurrence.specs.Equations.{Quotient, quotient_cast}
use Rattle.candidate.specs.Equations.{SAt, CAt, far}
use Rattle.candidate.proofs.Causal.{newton_same}
use Rattle.candidate.proofs.Products.{newton_split, far_none, far_part}

-- ── s from h

module _ (p : ℕ) (q : Question (Zmod p)) (h : Seq (Zmod p)) (s : List ℕ) where
  open q use {d, σ}

  pub s_zero : (r : ℕ) → 0 < length s → Residue p (mk p (2 * d)) r → Solves p (SAt (Zmod p) q h) s 0 r
  s_zero r inside hr = record {
    below = hr.below;
    equation = record {
      zero = λ z. stored_at p s 0 r inside ∙ hr.class ∙ sym (cast_mk p (2 * d));
      one = λ z. absurd (omega arith);
      more = λ z. absurd (omega arith);
    };
  }

  pub s_one : (r : ℕ) → 1 < length s → Residue p σ r → Solves p (SAt (Zmod p) q h) s 1 r
  s_one r inside hr = record {
    below = hr.below;
    equation = record { zero = λ z. absurd (omega arith); one = λ z. stored_at p s 1 r inside ∙ hr.class; more = λ z. absurd (omega arith) };
  }

module _ (p : ℕ) (q : Question (Zmod p)) (h s : List ℕ) (i : ℕ) (l : 1 ≤ i) (inside : i + 1 < length s) (y z w r : ℕ) where
  open q use {A, B}

  module _ (hy : Multiple p (2 * i - 1) (minus p A) y) (hz : Multiple p (2 * i - 2) (minus p B) z)
      (hw : Residue p (plus p (plus p (times p (mk p 1) (mk p (get_or h i 0))) (times p (mk p y) (mk p (get_or s (i - 1) 0))))
      (times p (mk p z) (mk p (get_or s (i - 2) 0)))) w)
      (hr : Quotient p (2 * i + 1) w r) where
    abbrev S : Seq (Zmod p)
    S = poly p (set s (i + 1) r)

    -- a multiple of −A or −B, times an earlier word
    term : (m : ℕ) (a : Elt p) (j x : ℕ) → j < i + 1 → Multiple p m a x
        → times p (mk p x) (mk p (get_or s j 0)) ≡ times p (times p (cast (Zmod p) m) a) (S j)
    term m a j x lt hx = ap₂ (times p) hx.class (sym (poly_at p s j) ∙ sym (stored_before p s (i + 1) r j lt))

    solved : from_sums (Zmod p) A B S i ≡ poly p h i
    solved =
        ap (λ x. plus p (plus p x (times p (times p (cast (Zmod p) (2 * i - 1)) A) (S (i - 1)))) (times p (times p (cast (Zmod p) (2 * i - 2)) B) (S (i - 2))))
        (ap (times p (cast (Zmod p) (2 * i + 1))) (stored_at p s (i + 1) r inside) ∙ quotient_cast hr ∙ hw.class
        ∙ ap₂ (plus p)
        (ap₂ (plus p) (ap (times p (mk p 1)) (sym (poly_at p h i))) (term (2 * i - 1) (minus p A) (i - 1) y (omega arith) hy))
        (term (2 * i - 2) (minus p B) (i - 2) z (omega arith) hz))
        ∙ solve7 (Zmod p)
        (λ h m a u n b w. :1 :* h :+ m :* :- a :* u :+ n :* :- b :* w :+ m :* a :* u :+ n :* b :* w)
        (λ h m a u n b w. h) tt
        (poly p h i) (cast (Zmod p) (2 * i - 1)) A (S (i - 1)) (cast (Zmod p) (2 * i - 2)) B (S (i - 2))

    pub s_more : Solves p (SAt (Zmod p) q (poly p h)) s (i + 1) r
    s_more =
        let at : i + 1 - 1 ≡ i = omega arith in
        record {
          below = hr.below;
          equation = record {
            zero = λ z. absurd (omega arith);
            one = λ z. absurd (omega arith);
            more = λ _. ap (from_sums (Zmod p) A B S) at ∙ solved ∙ ap (poly p h) (sym at);
          };
        }

-- ── c from s

-- what waits for no word but those before k − 1
pub far_zero : (p : ℕ) (s c : Seq (Zmod p)) (k : ℕ) → 0 < p → k ≡ 1 → Residue p (far (Zmod p) s c k) 0
far_zero p s c k pos e = residue_same (sym (far_none (Zmod p) s c k e)) (residue_self 0 pos)

pub far_more : (p : ℕ) (s c : List ℕ) (k n r : ℕ) → 2 ≤ k → k ≤ n + 1
    → Residue p (plus p (mk p 0) (conv (Zmod p) (poly p (take n (drop 2 s))) (poly p (take (k - 1) c)) (k - 2))) r
    → Residue p (far (Zmod p) (poly p s) (poly p c) k) r
far_more p s c k n r l fits =
    residue_same
    (Ring.zero-add (Zmod p) _
    ∙ far_part (Zmod p) (poly p s) (poly p c) (poly p (take n (drop 2 s))) (poly p (take (k - 1) c)) k l (λ i m. part_at p s 2 n i (omega arith))
    (take_at p c (k - 1)))

module _ (p : ℕ) (s c : List ℕ) where
  pub c_zero : 1 < p → 0 < length c → Solves p (CAt (Zmod p) (poly p s)) c 0 1
  c_zero big inside = record {
    below = big;
    equation = record { zero = λ z. stored_at p c 0 1 inside; more = λ z. absurd (omega arith) };
  }

  -- with t = −1/2k: from 2 on, then s₁
  pub c_more : (k : ℕ) → k < length c → (i t u f r : ℕ) → 1 ≤ k → InverseOf p (2 * k) i → Residue p (minus p (mk p i)) t
      → Residue p (times p (mk p (get_or s 1 0)) (mk p t)) u → Residue p (far (Zmod p) (poly p s) (poly p c) k) f
      → Residue p (plus p (plus p (times p (mk p f) (mk p t)) (times p (mk p u) (mk p (get_or c (k - 1) 0)))) (times p (mk p 0) (mk p 0))) r
      → Solves p (CAt (Zmod p) (poly p s)) c k r
  c_more k inside i t u f r l hi ht hu hf hr = record {
    below = hr.below;
    equation = record {
      zero = λ z. absurd (omega arith);
      more = λ _.
          ap₂ (times p) (cast_mk p (2 * k))
          (stored_at p c k r inside ∙ hr.class
          ∙ ap (λ x. plus p x (times p (mk p 0) (mk p 0)))
          (ap₂ (plus p) (ap₂ (times p) hf.class ht.class)
          (ap₂ (times p) (hu.class ∙ ap₂ (times p) (sym (poly_at p s 1)) ht.class) (sym (poly_at p c (k - 1))))))
          ∙ solve5 (Zmod p) (λ k i f s c. k :* (f :* :- i :+ s :* :- i :* c :+ :0 :* :0)) (λ k i f s c. :- (k :* i :* (s :* c :+ f))) tt
          (mk p (2 * k)) (mk p i) (far (Zmod p) (poly p s) (poly p c) k) (poly p s 1) (poly p c (k - 1))
          ∙ ap (minus p)
          (ap (λ x. times p x (plus p (times p (poly p s 1) (poly p c (k - 1))) (far (Zmod p) (poly p s) (poly p c) k))) hi.unit
          ∙ Ring.one-mul (Zmod p) _ ∙ sym (newton_split (Zmod p) (poly p s) (poly p c) k l)
          ∙ sym (newton_same (Zmod p) (poly p s) k (poly p (set c k r)) (poly p c) (stored_before p c k r)));
    };
  }
