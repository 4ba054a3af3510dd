-- A certificate that was asked 2 to 10, with its coefficients in lent slices.
-- Assumes nothing.
use Rattle.std.specs.Prelude.{◌≡◌, List, ℕ, ◌+◌, ◌*◌, ◌≤◌, take, Result, Ok, Err}
use Rattle.questions.specs.Questions.{AllYes, FirstNo}
use Rattle.questions.specs.Answers.{Answers}
use Rattle.questions.specs.Number.{number, outcome}
use Rattle.questions.specs.declared.refusal.Refusal.{Refusal}
use Rattle.accepted.specs.declared.Accepted.{Accepted}
use Rattle.sheet.specs.declared.Form.TheVariants.{Certificate}
use Rattle.sheet.specs.declared.Values.{Values}
use Rattle.sheet.specs.Values.{values_of, half, gOf, n_of}
use Rattle.sheet.specs.Ready.{half_most}
use Rattle.promises.specs.Asked.{certificate_rules, check_asks}
use Rattle.promises.specs.Certificates.{ready_of}

-- the sheet's coefficients, and the answer to 8 to 10
pub record Coefficients (ws g n : List ℕ) (r : Result (Unit {0}) Refusal) : Type 0 where
  pub g_is : g ≡ gOf Certificate ws
  pub n_is : n ≡ n_of Certificate ws
  pub judged : Answers (certificate_rules ws) (λ _. Unit {0}) (outcome r)

-- it passes, and the slices begin with its coefficients
pub record Passes (ws g n : List ℕ) (v : Values) : Type 0 where
  pub all : AllYes (check_asks ws)
  pub values : v ≡ values_of Certificate ws
  pub g_is : take (half v + 1) g ≡ gOf Certificate ws
  pub n_is : take (2 * half v + 2) n ≡ n_of Certificate ws

-- its d is 127 at most, so the slices are long enough for its coefficients
pub passes_half : {ws g n : List ℕ} {v : Values} → Passes ws g n v → half v ≤ 127
passes_half {ws = ws} {v = v} h = half_most v (ready_of ws v h.values h.all)

abbrev pub Passed : List ℕ → List ℕ → List ℕ → Result Accepted Refusal → Type 0
Passed ws g n (Ok v) = Passes ws g n v.values
Passed ws g n (Err refusal) = FirstNo (check_asks ws) (number refusal)
