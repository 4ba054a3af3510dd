-- What one turn of each loop computes solves its equation: the residues that the functions of `field` and `poly` give, put into document 01's formulas.
-- Assumes nothing.
use mathlib.Core.Path.{◌≡◌, refl, sym, ◌∙◌, ap, ap₂}
use mathlib.Core.List.{List}
use mathlib.Core.Bool.{true}
use mathlib.Core.Logic.{◌↔◌}
use Prim.Native.Nat.{ℕ, ◌+◌, ◌*◌, ◌-◌, ◌≤◌, ◌<◌}
use native.Mathlib.Omega.{arith}
use lib.Dec.{eqb}
use borrow.Author.Tests.{eqb-true, eq-eqb}
use lib.ListN.{get_or, take, drop}
use Rattle.ring.specs.Ring
use Rattle.ring.specs.Ring.{cast}
use Rattle.ring.specs.Identity.{solve4, solve5, solve8}
use Rattle.ring.specs.Identity.Ex.{:0, ◌:+◌, ◌:-◌, ◌:*◌, :-◌}
use Rattle.series.specs.Series.{conv}
use Rattle.zmod.specs.Zmod.{Elt, Zmod, mk, plus, times, minus, cast_mk}
use Rattle.zmod.specs.Residues.{Residue, poly, poly_at, residue_self, residue_same, residue_unique}
use Rattle.isogeny.specs.Expansion.{sum_to, recurrence, Recurs, expansion}
use Rattle.expansion.specs.Multiple.{Multiple}
use Rattle.expansion.specs.Parts.{part_at}
use Rattle.expansion.specs.Products.{square_part, expansion_above}

-- ── equality

pub same_residue : {p : ℕ} {x y : Elt p} (l r : ℕ) → Residue p x l → Residue p y r → (eqb l r ≡ true) ↔ (x ≡ y)
same_residue {p} l r hl hr =
    (λ e. sym hl.class ∙ ap (mk p) (eqb-true l r e) ∙ hr.class, λ e. eq-eqb l r (residue_unique (residue_same e hl) hr))

-- ── the expansion from the power sums

pub expands : (p : ℕ) (A B : Elt p) (s : List ℕ) (i y z r : ℕ) → 1 ≤ i → Multiple p (2 * i - 1) A y → Multiple p (2 * i - 2) B z
    → Residue p (plus p (plus p (times p (mk p (2 * i + 1)) (mk p (get_or s (i + 1) 0))) (times p (mk p y) (mk p (get_or s (i - 1) 0))))
    (times p (mk p z) (mk p (get_or s (i - 2) 0)))) r
    → Residue p (expansion (Zmod p) A B (poly p s) i) r
expands p A B s i y z r l hy hz =
    residue_same
    (ap₂ (plus p)
    (ap₂ (plus p) (ap₂ (times p) (sym (cast_mk p (2 * i + 1))) (sym (poly_at p s (i + 1)))) (ap₂ (times p) hy.class (sym (poly_at p s (i - 1)))))
    (ap₂ (times p) hz.class (sym (poly_at p s (i - 2))))
    ∙ sym (expansion_above (Zmod p) A B (poly p s) i l))

-- ── the recurrence

-- the sum, as the coefficient of a square
pub squares : (p : ℕ) (h : List ℕ) (k x : ℕ) → 3 ≤ k
    → Residue p (conv (Zmod p) (poly p (take (k - 1 - 1) (drop 1 h))) (poly p (take (k - 1 - 1) (drop 1 h))) (k - 3)) x
    → Residue p (sum_to (Zmod p) (λ i. times p (poly p h i) (poly p h (k - 1 - i))) (k - 2)) x
squares p h k x l =
    residue_same (square_part (Zmod p) (poly p h) (poly p (take (k - 1 - 1) (drop 1 h))) k l (λ i m. part_at p h 1 (k - 1 - 1) i (omega arith)))

module _ (p : ℕ) (A B : Elt p) (h : List ℕ) (k : ℕ) (l : 3 ≤ k) where
  abbrev S : Elt p
  S = sum_to (Zmod p) (λ i. times p (poly p h i) (poly p h (k - 1 - i))) (k - 2)

  abbrev # : ℕ → Elt p
  # n = cast (Zmod p) n

  -- both sides of the recurrence on one side
  difference : (e : Elt p)
      → plus p (plus p (times p (# (k - 2)) (plus p (plus p (times p (# (2 * k + 3)) (poly p h k)) (times p (times p (# (2 * k - 3)) A) (poly p h (k - 2))))
      (times p (times p (times p (# 2) (# (k - 3))) B) (poly p h (k - 3))))) (times p (# 3) (minus p S))) (times p e (mk p 0))
      ≡ plus p (times p (times p (# (k - 2)) (# (2 * k + 3))) (poly p h k)) (minus p (recurrence (Zmod p) A B (poly p h) k))
  difference e =
      solve8 (Zmod p)
      (λ a b x t u n s e. a :* (b :* x :+ t :+ u) :+ n :* :- s :+ e :* :0)
      (λ a b x t u n s e. a :* b :* x :- (n :* s :- a :* t :- a :* u)) tt
      (# (k - 2)) (# (2 * k + 3)) (poly p h k) (times p (times p (# (2 * k - 3)) A) (poly p h (k - 2)))
      (times p (times p (times p (# 2) (# (k - 3))) B) (poly p h (k - 3))) (# 3) S e
      ∙ ap₂ (λ t u. plus p (times p (times p (# (k - 2)) (# (2 * k + 3))) (poly p h k)) (minus p (plus p (plus p (times p (# 3) S) (minus p t)) (minus p u))))
      (solve4 (Zmod p) (λ a c x y. a :* (c :* x :* y)) (λ a c x y. a :* c :* x :* y) tt (# (k - 2)) (# (2 * k - 3)) A (poly p h (k - 2)))
      (solve5 (Zmod p) (λ a w c x y. a :* (w :* c :* x :* y)) (λ a w c x y. w :* a :* c :* x :* y) tt (# (k - 2)) (# 2) (# (k - 3)) B (poly p h (k - 3)))

  pub recurs_is : (y z u x₀ x r : ℕ) → 0 < p → Multiple p (2 * k - 3) A y → Multiple p (2 * k - 6) B z
      → Residue p (plus p (plus p (times p (mk p (2 * k + 3)) (mk p (get_or h k 0))) (times p (mk p y) (mk p (get_or h (k - 2) 0))))
      (times p (mk p z) (mk p (get_or h (k - 3) 0)))) u
      → Residue p S x₀ → Residue p (minus p (mk p x₀)) x
      → Residue p (plus p (plus p (times p (mk p (k - 2)) (mk p u)) (times p (mk p 3) (mk p x))) (times p (mk p 0) (mk p 0))) r
      → (eqb r 0 ≡ true) ↔ Recurs (Zmod p) A B (poly p h) k
  recurs_is y z u x₀ x r pos hy hz hu hx₀ hx hr =
      (λ e. Ring.sub-zero (Zmod p) _ _ (test.0 e), λ e. test.1 (ap (λ s. plus p s (minus p (recurrence (Zmod p) A B (poly p h) k))) e ∙ (Zmod p).add-neg _))
    where
      inner : mk p u ≡ plus p (plus p (times p (# (2 * k + 3)) (poly p h k)) (times p (times p (# (2 * k - 3)) A) (poly p h (k - 2))))
          (times p (times p (times p (# 2) (# (k - 3))) B) (poly p h (k - 3)))
      inner =
          hu.class
          ∙ ap₂ (plus p)
          (ap₂ (plus p) (ap₂ (times p) (sym (cast_mk p (2 * k + 3))) (sym (poly_at p h k))) (ap₂ (times p) hy.class (sym (poly_at p h (k - 2)))))
          (ap₂ (times p) (hz.class ∙ ap (λ n. times p n B) (ap # (omega arith) ∙ Ring.cast_mul (Zmod p) 2 (k - 3))) (sym (poly_at p h (k - 3))))

      test : (eqb r 0 ≡ true) ↔ (plus p (times p (times p (# (k - 2)) (# (2 * k + 3))) (poly p h k)) (minus p (recurrence (Zmod p) A B (poly p h) k)) ≡ mk p 0)
      test =
          same_residue r 0
          (residue_same
          (ap₂ (plus p)
          (ap₂ (plus p) (ap₂ (times p) (sym (cast_mk p (k - 2))) inner)
          (ap₂ (times p) (sym (cast_mk p 3)) (hx.class ∙ ap (minus p) hx₀.class)))
          refl
          ∙ difference (mk p 0)) hr)
          (residue_self 0 pos)
