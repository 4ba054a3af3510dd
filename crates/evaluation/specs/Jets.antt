-- What a polynomial in a slice and its derivative are at a point; and the same after one block more.
-- Assumes nothing.
use Rattle.std.specs.Prelude.{List, ℕ, length}
use Rattle.series.specs.Series.{∂}
use Rattle.series.specs.Value.{value}
use Rattle.zmod.specs.Zmod.{Elt, Zmod, mk, plus, times}
use Rattle.zmod.specs.Residues.{Residue, poly}
use Rattle.evaluation.specs.declared.Jet.{Jet}
use Rattle.evaluation.specs.Tables.{weighed}

pub record JetOf (p : ℕ) (a : List ℕ) (u : Elt p) (j : Jet) : Type 0 where
  pub value_is : Residue p (value (Zmod p) (length a) (poly p a) u) j.value
  pub slope_is : Residue p (value (Zmod p) (length a) (∂ (Zmod p) (poly p a)) u) j.slope

pub record Stepped (p : ℕ) (a powers slopes : List ℕ) (above r : Jet) : Type 0 where
  pub value_is :
      Residue p (plus p (weighed (Zmod p) (poly p a) (poly p powers) (length a)) (times p (poly p powers (length a)) (mk p above.value))) r.value
  pub slope_is :
      Residue p
      (plus p (plus p (weighed (Zmod p) (poly p a) (poly p slopes) (length a)) (times p (poly p powers (length a)) (mk p above.slope)))
      (times p (poly p slopes (length a)) (mk p above.value)))
      r.slope
