-- When two ways to compose a chain of sheets agree. (That any two do: `proofs/Theorems`.)
-- Assumes nothing.
use Rattle.std.specs.Prelude.{◌≡◌, List, ℕ}
use Rattle.questions.specs.Answers.{Outcome, result, refused}

-- Two ways agree if both end with the same words, or both are refused, with whatever numbers.
abbrev pub Agree : Outcome (List ℕ) → Outcome (List ℕ) → Type 0
Agree (result ws) (result us) = ws ≡ us
Agree (result ws) (refused k) = ⊥
Agree (refused k) (result ws) = ⊥
Agree (refused j) (refused k) = Unit {0}
