-- What a customer can cite of check.
-- Assumes nothing.
use Rattle.std.specs.Prelude.{◌≡◌, refl, List, ℕ, Result}
use Rattle.questions.specs.Answers.{answers_unique}
use Rattle.questions.specs.Number.{outcome, same_outcome}
use Rattle.questions.specs.declared.refusal.Refusal.{Refusal}
use Rattle.promises.specs.Asked.{check_asks}
use Rattle.promises.specs.Answer.{CheckRight}

-- One verdict is right at most, and what check returns is.
pub check_unique : (ws : List ℕ) (r s : Result (Unit {0}) Refusal) → CheckRight ws r → CheckRight ws s → r ≡ s
check_unique ws r s h k =
    same_outcome r s (answers_unique (check_asks ws) (λ _. Unit {0}) (λ _ a b _ _. one a b) (outcome r) (outcome s) h k)
  where
    one : (a b : Unit {0}) → a ≡ b
    one a b = refl
