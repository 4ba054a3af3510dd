-- The discriminant 4 a³ + 27 b² from two squares and a sum.
-- Assumes nothing.
use Rattle.std.proofs.Common.{◌≡◌, ℕ, ◌+◌, ◌*◌, true, not, eqb, ◌≢◌, ◌↔◌, sym, ap, ◌∙◌, ap₂, mul_assoc, arith, ne_eqb}
use borrow.Author.Tests.{eqb-false, not-true}
use Rattle.ring.specs.Ring.{cast, pow}
use Rattle.ring.specs.Powers.{squared, cubed}
use Rattle.zmod.specs.Zmod.{Zmod, Elt, mk, plus, times, mk_add, mk_mul, cast_mk}
use Rattle.zmod.specs.Residues.{Residue, residue_unique}
use Rattle.isogeny.specs.Curve.{discriminant}

module _ (p a b : ℕ) {a₂ b₂ x r : ℕ} (sq : Residue p (times p (mk p a) (mk p a)) a₂) (sq' : Residue p (times p (mk p b) (mk p b)) b₂)
    (sum : x ≡ 4 * a₂ * a + 27 * b₂) (rest : Residue p (mk p x) r) where
  pub discriminant_is : Residue p (discriminant (Zmod p) (mk p a) (mk p b)) r
  unfolding discriminant
  discriminant_is =
      let cube : mk p (a₂ * a) ≡ pow (Zmod p) (mk p a) 3 = mk_mul p a₂ a ∙ ap (λ x. times p x (mk p a)) sq.class ∙ cubed (Zmod p) (mk p a) in
      let square : mk p b₂ ≡ pow (Zmod p) (mk p b) 2 = sq'.class ∙ squared (Zmod p) (mk p b) in
      let four : mk p (4 * a₂ * a) ≡ times p (cast (Zmod p) 4) (pow (Zmod p) (mk p a) 3) =
      ap (mk p) (mul_assoc 4 a₂ a) ∙ mk_mul p 4 (a₂ * a) ∙ ap₂ (times p) (sym (cast_mk p 4)) cube in
      let more : mk p (27 * b₂) ≡ times p (cast (Zmod p) 27) (pow (Zmod p) (mk p b) 2) = mk_mul p 27 b₂ ∙ ap₂ (times p) (sym (cast_mk p 27)) square in
      record { below = rest.below; class = rest.class ∙ ap (mk p) sum ∙ mk_add p (4 * a₂ * a) (27 * b₂) ∙ ap₂ (plus p) four more }

-- a residue is 0 exactly where its element is
pub nonzero : {p : ℕ} {x : Elt p} {r : ℕ} → Residue p x r → (not (eqb r 0) ≡ true) ↔ (x ≢ mk p 0)
nonzero {p} {x} {r} h = (
  λ t e. eqb-false r 0 (not-true _ t) (residue_unique {x = x} h (record { below = omega (arith, h.below); class = sym e })),
  λ n. ap not (ne_eqb r 0 (λ z. n (sym h.class ∙ ap (mk p) z))),
)
