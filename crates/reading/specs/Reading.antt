-- What the reader of sheets answers: the values of an accepted sheet, or the first question that it does not pass.
-- Assumes nothing.
use Rattle.std.specs.Prelude.{◌≡◌, ℕ, List, Result}
use Rattle.std.proofs.Common.{sym, ◌∙◌}
use Rattle.questions.specs.Answers.{Answers, answers_unique}
use Rattle.questions.specs.Number.{outcome, same_outcome}
use Rattle.questions.specs.declared.refusal.Refusal.{Refusal}
use Rattle.sheet.specs.declared.Form.{Form}
use Rattle.sheet.specs.declared.Values.{Values}
use Rattle.sheet.specs.Values.{values_of}
use Rattle.sheet.specs.Asked.{asked}

-- the answer that is right for a sheet
abbrev pub Right : Form → List ℕ → Result Values Refusal → Type 0
Right form ws r = Answers (asked form ws) (λ v. v ≡ values_of form ws) (outcome r)

-- there is one at most
pub reading_unique : (form : Form) (ws : List ℕ) (r s : Result Values Refusal) → Right form ws r → Right form ws s → r ≡ s
reading_unique form ws r s h k =
    same_outcome r s (answers_unique (asked form ws) (λ v. v ≡ values_of form ws) (λ _ v w e f. e ∙ sym f) (outcome r) (outcome s) h k)
