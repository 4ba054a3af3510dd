-- The five calls that form the products that the parts of N are made of.
-- Assumes nothing.
use mathlib.Core.Path.{◌≡◌, ◌∙◌, ap, ap₂}
use mathlib.Core.List.{List}
use Prim.Native.Nat.{ℕ, ◌+◌, ◌*◌, ◌≤◌}
use native.Mathlib.Omega.{arith}
use lib.ListN.{length}
use Rattle.series.specs.Series.{conv, negs, ∂}
use Rattle.series.specs.Degree.{negs_below}
use Rattle.zmod.specs.Zmod.{Zmod}
use Rattle.zmod.specs.Residues.{poly, poly_past, Residues}
use Rattle.rules.specs.Degrees.{below_∂, below_conv}
use Rattle.rules.specs.Numerator.{minus_slope, minus_bend, bend_from, slope_of_square, bend_of_slope, bend_from_below}
use Rattle.rules.specs.Words.{Whole, whole, whole_same, from_derivative, from_product}
use Rattle.rules.specs.Products.{Products}

module _ (p : ℕ) where
  pub products_steps : (g square slope h hh bend : List ℕ) → length square + 1 ≡ 2 * length g → length square ≡ length slope + 1
      → length g ≡ length h + 1 → 2 * length h ≤ length hh + 1 → length slope ≡ length bend + 1 → length bend + 1 ≡ 2 * length h
      → Residues p (conv (Zmod p) (poly p g) (poly p g)) square → Residues p (negs (Zmod p) (∂ (Zmod p) (poly p square))) slope
      → Residues p (∂ (Zmod p) (poly p g)) h → Residues p (conv (Zmod p) (poly p h) (poly p h)) hh
      → Residues p (bend_from (Zmod p) (poly p slope) (poly p hh)) bend → Products p (poly p g) square slope bend
  products_steps g square slope h hh bend l₁ l₂ l₃ l₄ l₅ l₆ r₁ r₂ r₃ r₄ r₅ = record { square_is = square_whole; slope_is = slope_whole; bend_is = bend_whole }
    where
      square_whole : Whole p (conv (Zmod p) (poly p g) (poly p g)) square
      square_whole = from_product p g g square (omega arith) r₁

      slope_whole : Whole p (minus_slope (Zmod p) (poly p g)) slope
      slope_whole =
          whole_same (ap (λ a. negs (Zmod p) (∂ (Zmod p) a)) square_whole.same ∙ slope_of_square (Zmod p) (poly p g))
          (whole r₂ (negs_below (Zmod p) (length slope) _ (below_∂ (Zmod p) (poly p square) (omega arith) (poly_past p square))))

      derivative² : poly p hh ≡ conv (Zmod p) (∂ (Zmod p) (poly p g)) (∂ (Zmod p) (poly p g))
      derivative² = (from_product p h h hh (omega arith) r₄).same ∙ ap (λ a. conv (Zmod p) a a) (from_derivative p g h (omega arith) r₃).same

      bend_whole : Whole p (minus_bend (Zmod p) (poly p g)) bend
      bend_whole =
          whole_same (ap₂ (bend_from (Zmod p)) slope_whole.same derivative² ∙ bend_of_slope (Zmod p) (poly p g))
          (whole r₅ (bend_from_below (Zmod p) (length bend) (poly p slope) (poly p hh) (λ i l. poly_past p slope i (omega arith))
          (λ i l. ap (λ f. f i) (from_product p h h hh (omega arith) r₄).same
          ∙ below_conv (Zmod p) (length h) (length h) (poly p h) (poly p h) (omega arith) (poly_past p h) (poly_past p h) i l)))
