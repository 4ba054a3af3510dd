-- Where an affine point goes, for the values v and the coefficients g and n of a certificate; and the slope of the map's ordinate.
-- Assumes nothing.
use Rattle.std.specs.Prelude.{List, ℕ}
use Rattle.ring.specs.Ring.{cast}
use Rattle.zmod.specs.Zmod.{Elt, Zmod, mk, plus, times, minus}
use Rattle.evaluation.specs.declared.Jet.{Jet}
use Rattle.sheet.specs.declared.Values.{Values}
use Rattle.promises.specs.declared.Point.{Point}
use Rattle.promises.specs.declared.Point.TheVariants.{Affine}
use Rattle.promises.specs.Answer.{Goes}

-- N'g − 2Ng' at a point, from what g and N are there
abbrev pub slope_of : (p : ℕ) → Jet → Jet → Elt p
slope_of p g n =
    plus p (times p (mk p n.slope) (mk p g.value)) (minus p (times p (times p (cast (Zmod p) 2) (mk p n.value)) (mk p g.slope)))

abbrev pub Pushed : Values → List ℕ → List ℕ → ℕ → ℕ → Point → Type 0
Pushed v g n x y image = Goes v g n (Affine x y) image
