-- What a comparison of both sides says of R3.
-- Assumes nothing.
use mathlib.Core.Path.{◌≡◌, sym, ◌∙◌, ap, fun_ext}
use mathlib.Core.Logic.{◌↔◌}
use mathlib.Core.Bool.{Bool, true}
use mathlib.Core.List.{List}
use Prim.Native.Nat.{ℕ, suc, ◌+◌, ◌*◌}
use native.Mathlib.Omega.{arith}
use lib.ListN.{length}
use Rattle.series.specs.Degree.{Below}
use Rattle.zmod.specs.Zmod.{Zmod}
use Rattle.zmod.specs.Residues.{Reduced, poly, poly_past, Residues, residues_poly}
use Rattle.isogeny.specs.Rules.{R3, left, right}
use Rattle.sheet.specs.declared.Values.{Values}
use Rattle.sheet.specs.Values.{half, question}
use Rattle.sheet.specs.Ready.{Ready}
use Rattle.sides.specs.Sides.{left_below, right_below}

module _ (v : Values) (ready : Ready v) (g : List ℕ) (size : length g ≡ half v + 1) (low : Reduced v.p g) where
  abbrev p : ℕ
  p = v.p

  g_below : Below (Zmod p) (suc (half v)) (poly p g)
  g_below i l = poly_past p g i (omega arith)

  pub three : (n l r : List ℕ) (b : Bool) → length n ≡ 2 * half v + 2 → length l ≡ 6 * half v + 4 → length r ≡ 6 * half v + 4
      → Residues p (left (Zmod p) (question v) (poly p g) (poly p n)) l → Residues p (right (Zmod p) (question v) (poly p g) (poly p n)) r
      → (b ≡ true) ↔ (poly p l ≡ poly p r) → (b ≡ true) ↔ (R3 (Zmod p) (question v) (poly p g) (poly p n))
  three n l r b ln ll lr hl hr h = (λ e i. ap (λ s. s i) (sym left_is ∙ h.0 e ∙ right_is), λ r3. h.1 (left_is ∙ fun_ext r3 ∙ sym right_is))
    where
      n_below : Below (Zmod p) (2 * half v + 2) (poly p n)
      n_below i k = poly_past p n i (omega arith)

      left_is : poly p l ≡ left (Zmod p) (question v) (poly p g) (poly p n)
      left_is = residues_poly hl (λ i k. left_below (Zmod p) (question v) (poly p g) (poly p n) g_below n_below i (omega arith))

      right_is : poly p r ≡ right (Zmod p) (question v) (poly p g) (poly p n)
      right_is = residues_poly hr (λ i k. right_below (Zmod p) (question v) (poly p g) (poly p n) g_below n_below i (omega arith))
