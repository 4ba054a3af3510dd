-- The ways to compose a chain of sheets by calls of compose, two at a time: a way is told by its brackets, and ends with the words that its last call wrote,
-- or with the number of a call that was refused. Of compose nothing is used but its promise.
-- Assumes nothing.
use Rattle.std.specs.Prelude.{◌≡◌, List, [], ◌∷◌, ◌++◌, ℕ, length, take, Result, Ok, Err}
use Rattle.questions.specs.Answers.{Outcome, result, refused}
use Rattle.questions.specs.Number.{number}
use Rattle.questions.specs.declared.refusal.Refusal.{Refusal}
use Rattle.promises.specs.Asked.{Room}
use Rattle.promises.specs.Answer.{ComposeRight}

-- ── one call

-- what it wrote, the first `count` words of its buffer; or its refusal
abbrev pub wrote : Result ℕ Refusal → List ℕ → Outcome (List ℕ)
wrote (Ok count) after = result (take count after)
wrote (Err q) after = refused (number q)

-- a call with these two sheets, and some buffer of 393 words or more, can have this outcome
pub record Call (first second : List ℕ) (o : Outcome (List ℕ)) : Type 0 where
  pub before : List ℕ
  pub after : List ℕ
  pub answer : Result ℕ Refusal
  pub room : Room (length before)
  pub right : ComposeRight first second before after answer
  pub outcome : wrote answer after ≡ o

-- ── brackets

-- a sheet as it is, or two parts that are composed
pub data Brackets : Type 0 where
  sheet : List ℕ → Brackets
  both : Brackets → Brackets → Brackets

-- the sheets, from left to right
abbrev pub sheets : Brackets → List (List ℕ)
sheets (sheet ws) = ws ∷ []
sheets (both s t) = sheets s ++ sheets t

-- The calls that the brackets ask for can have this outcome. Where both parts are there, a call gets their words, a sheet's own or those that were written
-- for it; where one of them was refused, so is the whole, with its number.
pub data Way : Brackets → Outcome (List ℕ) → Type 0 where
  given : {ws : List ℕ} → Way (sheet ws) (result ws)
  called : {s t : Brackets} {first second : List ℕ} {o : Outcome (List ℕ)} → Way s (result first) → Way t (result second) → Call first second o
      → Way (both s t) o
  left_refused : {s t : Brackets} {k : ℕ} → Way s (refused k) → Way (both s t) (refused k)
  right_refused : {s t : Brackets} {k : ℕ} → Way t (refused k) → Way (both s t) (refused k)
