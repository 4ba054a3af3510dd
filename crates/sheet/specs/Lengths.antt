-- How many words a sheet of each form has, and the place of its last word, the end.
-- Assumes nothing.
use Rattle.std.specs.Prelude.{◌≡◌, ℕ, ◌+◌, ◌-◌, ◌≤◌, length}
use Rattle.std.proofs.Common.{arith, length-append}
use Rattle.std.proofs.lemmas.List.{length-replicate}
use Rattle.sheet.specs.declared.Form.{Form}
use Rattle.sheet.specs.declared.Form.TheVariants.{Question, Certificate, Kernel}
use Rattle.sheet.specs.Form.{kinds_of, certificate_words, most_words}

abbrev pub last : Form → ℕ → ℕ
last form d = length (kinds_of form d) - 1

pub certificate_words_lem : (d : ℕ) → length (kinds_of Certificate d) ≡ certificate_words d
certificate_words_lem d = simp (length-append, length-replicate) (omega arith)

pub kernel_words : (d : ℕ) → length (kinds_of Kernel d) ≡ d + 6
kernel_words d = simp (length-append, length-replicate) (omega arith)

-- no form has more than the largest certificate
pub words_most : (form : Form) (d : ℕ) → d ≤ 127 → length (kinds_of form d) ≤ most_words
words_most Question d l = omega arith
words_most Certificate d l = omega (arith, certificate_words_lem d)
words_most Kernel d l = omega (arith, kernel_words d)
