-- Room: for every text, and for the words of a certificate, of which solve and kernel write no more than the largest has.
-- Assumes nothing.
use Rattle.std.specs.Prelude.{List, ℕ, ◌*◌, ◌≤◌, Result, Ok, Err}
use Rattle.questions.specs.declared.refusal.Refusal.{Refusal}
use Rattle.sheet.specs.Form.{most_words}
use Rattle.sheet.specs.Word.{words_of}
use Rattle.sagepliers.specs.Entry.{SolveAnswer, KernelAnswer}
use Rattle.sagepliers.specs.Numbers.{solve_count, kernel_count}

-- nine characters for each word of the largest certificate
abbrev pub room : ℕ
room = 9 * most_words

-- the count is one of words that a buffer has
abbrev pub Within : Result ℕ Refusal → ℕ → Type 0
Within (Ok c) room = c ≤ room
Within (Err q) room = Unit {0}

module _ (bytes before after : List ℕ) where
  pub solve_within : (w : Result ℕ Refusal) → SolveAnswer bytes before after w → Within w most_words
  solve_within (Ok c) h = solve_count (words_of bytes) before after c ((h.0.0, h.0.1.1), h.1)
  solve_within (Err q) h = tt

  pub kernel_within : (w : Result ℕ Refusal) → KernelAnswer bytes before after w → Within w most_words
  kernel_within (Ok c) h = kernel_count (words_of bytes) before after c ((h.0.0, h.0.1.1), h.1)
  kernel_within (Err q) h = tt
