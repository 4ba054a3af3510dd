-- What the programs print for an input, from the right answer to it: for the answer program as document 01 has it, and alike for the programs of the other
-- services.
-- Assumes nothing.
use Rattle.std.specs.Prelude.{◌≡◌, List, ℕ, ◌≤◌, length, take, replicate, Result, Ok, Err}
use Rattle.questions.specs.Number.{number}
use Rattle.questions.specs.declared.refusal.Refusal.{Refusal}
use Rattle.promises.specs.declared.Point.{Point}
use Rattle.sheet.specs.Form.{most_words}
use Rattle.promises.specs.Outcome.{image_number}
use Rattle.sagepliers.specs.Entry.{CheckAnswer, PushInput, SolveAnswer, KernelAnswer}
use Rattle.text.specs.Text.{hex_line, hex_lines, refused_line, passes_line}

-- ── the text of an answer

-- a line for each word of the certificate in the answer buffer, or the number
abbrev pub written_text : List ℕ → Result ℕ Refusal → List ℕ
written_text words (Ok c) = hex_lines (take c words)
written_text words (Err q) = refused_line (number q)

abbrev pub verdict_text : Result (Unit {0}) Refusal → List ℕ
verdict_text (Ok _) = passes_line
verdict_text (Err q) = refused_line (number q)

-- the number of the image as sixteen digits
abbrev pub image_text : Result Point Refusal → List ℕ
image_text (Ok image) = hex_line 16 (image_number (Ok image))
image_text (Err q) = refused_line (number q)

-- ── the text is that of the right answer

-- the lent answer buffer: words of 0, as many as question 1 asks for
abbrev pub blank : List ℕ
blank = replicate most_words 0

-- `Right after answer`: what solve or kernel may leave in the buffer and answer
pub record AnswerText (Right : List ℕ → Result ℕ Refusal → Type 0) (text : List ℕ) : Type 0 where
  pub after : List ℕ
  pub answer : Result ℕ Refusal
  pub right : Right after answer
  pub text_is : text ≡ written_text after answer

abbrev pub SolveText : List ℕ → List ℕ → Type 0
SolveText bytes = AnswerText (SolveAnswer bytes blank)

abbrev pub KernelText : List ℕ → List ℕ → Type 0
KernelText bytes = AnswerText (KernelAnswer bytes blank)

pub record CheckText (bytes text : List ℕ) : Type 0 where
  pub answer : Result (Unit {0}) Refusal
  pub right : CheckAnswer bytes answer
  pub text_is : text ≡ verdict_text answer

pub record PushText (bytes text : List ℕ) : Type 0 where
  pub answer : Result Point Refusal
  pub right : PushInput bytes answer
  pub text_is : text ≡ image_text answer

-- ── the first bytes of a buffer are such a text

pub record Prints (Text : List ℕ → Type 0) (after : List ℕ) (count : ℕ) : Type 0 where
  pub fits : count ≤ length after
  pub counted : count ≡ length (take count after)
  pub right : Text (take count after)
