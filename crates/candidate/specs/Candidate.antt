-- What is said of the polynomial that solving computes.
-- Assumes nothing.
use Rattle.std.specs.Prelude.{◌≡◌, List, ℕ}
use Rattle.series.specs.Series.{Seq}
use Rattle.zmod.specs.Zmod.{Zmod}
use Rattle.zmod.specs.Residues.{Reduced, poly}
use Rattle.isogeny.specs.Rules.{R1, Meets}
use Rattle.sheet.specs.declared.Values.{Values}
use Rattle.sheet.specs.Values.{half, question}
use Rattle.expansion.specs.Begun.{Begun}

-- the words of the polynomial that solving computes, which is the only one that can meet the rules, and of its expansion and power sums as far as they are
-- computed with it
pub record Candidate (v : Values) (h s g : List ℕ) : Type 0 where
  pub reduced : Reduced v.p g
  pub r1 : R1 (Zmod v.p) (question v) (poly v.p g)
  pub only : (g' : Seq (Zmod v.p)) → Meets (Zmod v.p) (question v) g' → g' ≡ poly v.p g
  pub begun : Begun v g s h (half v)
