-- The kernel polynomial of a composite, from slices: g₁², g₂ at n / g₁², and its product with g₁.
-- Assumes nothing.
use Rattle.std.specs.Prelude.{◌≡◌, List, ℕ, suc, ◌+◌, ◌-◌, ◌*◌, ◌≤◌, length}
use Rattle.std.proofs.Common.{◌∙◌, ap, arith}
use Rattle.ring.specs.Ring.{pow}
use Rattle.ring.specs.Identity.{solve1}
use Rattle.ring.specs.Identity.Ex.{◌:*◌, ◌:^◌}
use Rattle.series.specs.Series.{Series, conv}
use Rattle.series.specs.Degree.{below_mono, degree_mul}
use Rattle.zmod.specs.Zmod.{Zmod}
use Rattle.zmod.specs.Residues.{poly, poly_past, poly_below, Residues, residues_poly, residues_same}
use Rattle.composition.specs.Substitution.{homogenize}
use Rattle.substitution.specs.Degree.{numerator_below}

module _ (p : ℕ) (n g₁ g₂ square part out : List ℕ) (some : 2 ≤ length g₁) (size_n : length n ≡ 2 * length g₁)
    (size : length square + 1 ≡ 2 * length g₁) (squared : Residues p (conv (Zmod p) (poly p g₁) (poly p g₁)) square) where
  is_square : poly p square ≡ pow (Series (Zmod p)) (poly p g₁) 2
  is_square =
      residues_poly squared (below_mono (Zmod p) _ _ _ (omega arith) (degree_mul (Zmod p) (length g₁ - 1) (length g₁ - 1) (poly p g₁) (poly p g₁)
      (poly_below p g₁ _ (omega arith)) (poly_below p g₁ _ (omega arith))))
      ∙ solve1 (Series (Zmod p)) (λ g. g :* g) (λ g. g :^ 2) tt (poly p g₁)

  pub composed : suc ((length g₂ - 1) * length square) ≤ length part
      → Residues p (homogenize (Zmod p) (poly p n) (poly p square) (length g₂ - 1) (poly p g₂)) part
      → Residues p (conv (Zmod p) (poly p g₁) (poly p part)) out
      → Residues p (conv (Zmod p) (poly p g₁)
      (homogenize (Zmod p) (poly p n) (pow (Series (Zmod p)) (poly p g₁) 2) (length g₂ - 1) (poly p g₂))) out
  composed long substituted =
      residues_same (ap (conv (Zmod p) (poly p g₁)) (residues_poly substituted (below_mono (Zmod p) _ _ _ long
      (numerator_below (Zmod p) (length square) (omega arith) (poly p square) (poly_past p square) (poly p n) (poly_below p n _ (omega arith))
      (length g₂ - 1) (poly p g₂)))
      ∙ ap (λ Y. homogenize (Zmod p) (poly p n) Y (length g₂ - 1) (poly p g₂)) is_square))
