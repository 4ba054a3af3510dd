-- Values that questions 3, 4 and 5 have passed, and slices that hold the coefficients of a g or an N for them: what the rules over slices ask.
-- Assumes nothing.
use Rattle.std.specs.Prelude.{◌≡◌, List, ℕ, ◌+◌, ◌*◌, ◌≤◌, ◌<◌, length}
use Rattle.std.proofs.Common.{arith}
use Rattle.zmod.specs.Residues.{Reduced}
use Rattle.questions.specs.Questions.{AllYes}
use Rattle.questions.specs.Numbered.{yes_to}
use Rattle.sheet.specs.declared.Form.{Form}
use Rattle.sheet.specs.declared.Values.{Values}
use Rattle.sheet.specs.Values.{values_of, half}
use Rattle.sheet.specs.Asked.{PrimeAllowed, DegreeAllowed, ValuesBelow, asked}

pub record Ready (v : Values) : Type 0 where
  pub prime : PrimeAllowed v.p
  pub degree : DegreeAllowed v.degree v.p
  pub below : ValuesBelow v

-- d + 1 residues, and 2 d + 2
pub record HoldsG (v : Values) (g : List ℕ) : Type 0 where
  pub count : length g ≡ half v + 1
  pub reduced : Reduced v.p g

pub record HoldsN (v : Values) (n : List ℕ) : Type 0 where
  pub count : length n ≡ 2 * half v + 2
  pub reduced : Reduced v.p n

pub ready : (form : Form) (ws : List ℕ) → AllYes (asked form ws) → Ready (values_of form ws)
ready form ws all = record { prime = yes_to (asked form ws) 3 all; degree = yes_to (asked form ws) 4 all; below = yes_to (asked form ws) 5 all }

-- ℓ = 2 d + 1, with d from 1 to 127
module _ (v : Values) (r : Ready v) where
  pub degree_half : v.degree ≡ 2 * half v + 1
  degree_half = omega (arith, r.degree)

  pub half_least : 1 ≤ half v
  half_least = omega (arith, r.degree)

  pub half_most : half v ≤ 127
  half_most = omega (arith, r.degree)

  pub degree_below : v.degree < v.p
  degree_below = omega (arith, r.degree)
