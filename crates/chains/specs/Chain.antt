-- The questions put to a chain of sheets (document 02, E7): when it can be composed, whichever two of the sheets are composed first.
-- Assumes nothing.
use Rattle.std.specs.Prelude.{List, [], ◌∷◌, ◌++◌, ℕ, ◌*◌}
use Rattle.questions.specs.Questions.{Questions, AllYes}
use Rattle.sheet.specs.declared.Form.TheVariants.{Certificate}
use Rattle.sheet.specs.declared.Values.{Values}
use Rattle.sheet.specs.Values.{values_of}
use Rattle.sheet.specs.Asked.{DegreeAllowed}
use Rattle.promises.specs.Asked.{check_asks, ComposableValues}

-- the values on a certificate
abbrev pub values : List ℕ → Values
values ws = values_of Certificate ws

-- 2 to 10 of each sheet
abbrev pub each_asks : List (List ℕ) → Questions
each_asks [] = []
each_asks (ws ∷ rest) = check_asks ws ++ each_asks rest

-- 13 of every two neighbours
abbrev pub meet_asks : List (List ℕ) → Questions
meet_asks [] = []
meet_asks (ws ∷ []) = []
meet_asks (ws ∷ us ∷ rest) = (13, ComposableValues (values ws) (values us)) ∷ meet_asks (us ∷ rest)

-- the product of all degrees
abbrev pub product : List (List ℕ) → ℕ
product [] = 1
product (ws ∷ rest) = (values ws).degree * product rest

-- it holds of each of the sheets
abbrev pub Each : (List ℕ → Type 0) → List (List ℕ) → Type 0
Each P [] = Unit {0}
Each P (ws ∷ rest) = P ws × Each P rest

-- 14 of all: the product is a degree that question 4 allows over their prime, whichever sheet it is read from
abbrev pub Permitted : List (List ℕ) → Type 0
Permitted sheets = Each (λ ws. DegreeAllowed (product sheets) (values ws).p) sheets

abbrev pub chain_asks : List (List ℕ) → Questions
chain_asks sheets = each_asks sheets ++ meet_asks sheets ++ (14, Permitted sheets) ∷ []

-- The sheets pass check, they meet in turn, and their degrees multiply to a permitted degree.
abbrev pub Chain : List (List ℕ) → Type 0
Chain sheets = AllYes (chain_asks sheets)
