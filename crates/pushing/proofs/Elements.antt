-- Residues and quotients: from the products and sums that code computes to the elements that the contracts name.
-- Assumes nothing.
use mathlib.Core.Path.{◌≡◌, sym, ◌∙◌, ap}
use mathlib.Core.Logic.{◌↔◌, ◌≢◌}
use mathlib.Core.Bool.{true}
use Prim.Native.Nat.{ℕ}
use native.Mathlib.Omega.{arith}
use lib.Dec.{eqb}
use borrow.Author.Tests.{eqb-true, eq-eqb}
use Rattle.ring.specs.Ring.{CRing, pow}
use Rattle.ring.specs.Identity.{solve1, solve3, solve4}
use Rattle.ring.specs.Identity.Ex.{:1, ◌:+◌, ◌:*◌, ◌:^◌}
use Rattle.zmod.specs.Zmod.{Elt, Zmod, mk, plus, times, mk_apart}
use Rattle.zmod.specs.Residues.{Residue, residue_unique, residue_same}

-- ── residues

pub not-zero : {p : ℕ} {x : Elt p} {r : ℕ} → Residue p x r → (r ≡ 0 → ⊥) → x ≢ mk p 0
not-zero {p} {x} {r} h n e = n (mk_apart {p = p} (omega arith) r 0 h.below (omega arith) (h.class ∙ e))

-- residues are equal exactly where their elements are
pub same : {p : ℕ} {x y : Elt p} {r s : ℕ} → Residue p x r → Residue p y s → (eqb r s ≡ true) ↔ (x ≡ y)
same {p} {x} {y} {r} {s} h k =
    (λ t. sym h.class ∙ ap (mk p) (eqb-true r s t) ∙ k.class, λ e. eq-eqb r s (residue_unique {x = y} (residue_same e h) k))

-- ── quotients

module _ (R : CRing) where
  open R use {Car, 𝟙, mul as ◌⊗◌, mul-one}

  infixl 70 ◌⊗◌
  -- where i is the inverse of b: a/b² and (y w)/b³, times b² and b³
  module _ (b i : Car) (unit : b ⊗ i ≡ 𝟙) where
    pub quotient_square : (a : Car) → a ⊗ (i ⊗ i) ⊗ pow R b 2 ≡ a
    quotient_square a =
        solve3 R (λ a b i. a :* (i :* i) :* b :^ 2) (λ a b i. a :* (b :* i) :^ 2) tt a b i ∙ ap (λ z. a ⊗ pow R z 2) unit
        ∙ solve1 R (λ a. a :* :1 :^ 2) (λ a. a) tt a

    pub quotient_cube : (y w : Car) → y ⊗ w ⊗ i ⊗ (i ⊗ i) ⊗ pow R b 3 ≡ y ⊗ w
    quotient_cube y w =
        solve4 R (λ y w b i. y :* w :* i :* (i :* i) :* b :^ 3) (λ y w b i. y :* w :* (b :* i) :^ 3) tt y w b i ∙ ap (λ z. y ⊗ w ⊗ pow R z 3) unit
        ∙ solve1 R (λ a. a :* :1 :^ 3) (λ a. a) tt (y ⊗ w)

-- ── the right side of a curve's equation

pub cubic_is : (p a b x : ℕ) {s t m r : ℕ} → Residue p (times p (mk p x) (mk p x)) s → Residue p (plus p (mk p s) (mk p a)) t
    → Residue p (times p (mk p t) (mk p x)) m → Residue p (plus p (mk p m) (mk p b)) r
    → Residue p (plus p (plus p (pow (Zmod p) (mk p x) 3) (times p (mk p a) (mk p x))) (mk p b)) r
cubic_is p a b x hs ht hm hr =
    residue_same
    (ap (λ z. plus p z (mk p b)) (hm.class ∙ ap (λ z. times p z (mk p x)) (ht.class ∙ ap (λ z. plus p z (mk p a)) hs.class))
    ∙ solve3 (Zmod p) (λ x a b. (x :* x :+ a) :* x :+ b) (λ x a b. x :^ 3 :+ a :* x :+ b) tt (mk p x) (mk p a) (mk p b))
    hr
