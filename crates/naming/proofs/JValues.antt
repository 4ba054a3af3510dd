-- The j-value from the products that code computes.
-- Assumes nothing.
use mathlib.Core.Path.{◌≡◌, sym, ◌∙◌, ap, ap₂}
use mathlib.Core.Logic.{◌≢◌}
use Prim.Native.Nat.{ℕ, ◌<◌}
use native.Mathlib.Nat.{pos_of_ne-zero}
use Rattle.ring.specs.Ring.{CRing}
use Rattle.ring.specs.Identity.{solve3}
use Rattle.ring.specs.Identity.Ex.{◌:*◌}
use Rattle.zmod.specs.Zmod.{Elt, Zmod, mk, times, cast_mk}
use Rattle.zmod.specs.Residues.{Residue}
use Rattle.isogeny.specs.Curve.{discriminant, JValue}
use Rattle.ring.specs.Powers.{cubed}
use Rattle.field.specs.Inverse.{InverseOf}

pub is_zero : {p : ℕ} {x : Elt p} {r : ℕ} → Residue p x r → r ≡ 0 → x ≡ mk p 0
is_zero {p} h e = sym h.class ∙ ap (mk p) e

pub positive : {p : ℕ} {x : Elt p} {r : ℕ} → Residue p x r → x ≢ mk p 0 → 0 < r
positive h n = pos_of_ne-zero (λ e. n (is_zero h e))

module _ (R : CRing) where
  open R use {Car, 𝟙, mul as ◌⊗◌, mul-one}

  infixl 70 ◌⊗◌
  -- where i is the inverse of b: a/b, times b
  module _ (b i : Car) (unit : b ⊗ i ≡ 𝟙) where
    pub quotient : (a : Car) → a ⊗ i ⊗ b ≡ a
    quotient a = solve3 R (λ a b i. a :* i :* b) (λ a b i. a :* (b :* i)) tt a b i ∙ ap (λ z. a ⊗ z) unit ∙ mul-one a

pub j_is : (p a b : ℕ) {divisor i s c f n r : ℕ} → Residue p (discriminant (Zmod p) (mk p a) (mk p b)) divisor → InverseOf p divisor i
    → Residue p (times p (mk p a) (mk p a)) s → Residue p (times p (mk p s) (mk p a)) c → Residue p (times p (mk p 4) (mk p c)) f
    → Residue p (times p (mk p 1728) (mk p f)) n → Residue p (times p (mk p n) (mk p i)) r → JValue (Zmod p) (mk p a) (mk p b) (mk p r)
unfolding JValue
j_is p a b {divisor} {i} {n = n} hd hi hs hc hf hn hr =
    ap₂ (times p) hr.class (sym hd.class) ∙ quotient (Zmod p) (mk p divisor) (mk p i) hi.unit (mk p n)
    ∙ hn.class
    ∙ ap₂ (times p) (sym (cast_mk p 1728))
    (hf.class ∙ ap₂ (times p) (sym (cast_mk p 4)) (hc.class ∙ ap (λ z. times p z (mk p a)) hs.class ∙ cubed (Zmod p) (mk p a)))
