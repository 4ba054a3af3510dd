-- The three forms of a sheet, each by the kinds of its words in order: a header, sections of words of one kind each, and the end. The kinds 1 to 7 are
-- those of p, A, B, Ã, B̃, ℓ and σ, 8 and 9 those of g's and N's coefficients, 10 that of the count of rational abscissas, 15 is the end's. And how a form
-- reads a value.
-- Assumes nothing.
use Rattle.std.specs.Prelude.{List, [], ◌∷◌, ◌++◌, ℕ, suc, ◌+◌, ◌*◌, ◌%◌, eqb, get_or, replicate, Bool, true, false, cond}
use Rattle.sheet.specs.declared.Form.{Form}
use Rattle.sheet.specs.declared.Form.TheVariants.{Question, Certificate, Kernel}
use Rattle.sheet.specs.Word.{value_of}

-- the words that carry the values
abbrev pub header : Form → List ℕ
header Question = 1 ∷ 2 ∷ 3 ∷ 4 ∷ 5 ∷ 6 ∷ 7 ∷ []
header Certificate = 1 ∷ 2 ∷ 3 ∷ 4 ∷ 5 ∷ 6 ∷ 7 ∷ []
header Kernel = 1 ∷ 2 ∷ 3 ∷ 6 ∷ []

-- the sections after them, where ℓ = 2 d + 1: a kind, and how many words
abbrev pub sections : Form → ℕ → List (ℕ × ℕ)
sections Question d = []
sections Certificate d = (8, d + 1) ∷ (9, 2 * d + 2) ∷ (10, 1) ∷ []
sections Kernel d = (8, d + 1) ∷ []

-- the kinds of the words of sections, and of the end
abbrev pub laid : List (ℕ × ℕ) → List ℕ
laid [] = 15 ∷ []
laid (s ∷ ss) = replicate s.1 s.0 ++ laid ss

-- the kinds of the words after the header, and of all words
abbrev pub body : Form → ℕ → List ℕ
body form d = laid (sections form d)

abbrev pub kinds_of : Form → ℕ → List ℕ
kinds_of form d = header form ++ body form d

-- how many words a certificate of degree 2 d + 1 has, and the largest one, of degree 255
abbrev pub certificate_words : ℕ → ℕ
certificate_words d = 3 * d + 12

abbrev pub most_words : ℕ
most_words = certificate_words 127

-- the place of a kind in a list of kinds: where it stands first
abbrev pub position : ℕ → List ℕ → ℕ
position k [] = 0
position k (j ∷ js) = cond (eqb k j) 0 (suc (position k js))

-- whether a kind is in a list
abbrev pub holds : ℕ → List ℕ → Bool
holds k [] = false
holds k (j ∷ js) = cond (eqb k j) true (holds k js)

-- what a value x on a sheet over p is read as, p, ℓ and the count apart: a certificate has it as it stands, on a question or a kernel sheet it is taken modulo
-- p (document 02, E2)
abbrev pub value_in : Form → ℕ → ℕ → ℕ
value_in Question p x = x % p
value_in Certificate p x = x
value_in Kernel p x = x % p

-- the number in the header's word of a kind; 0 where the form has no such word, or the sheet ends before it
abbrev pub entry : Form → ℕ → List ℕ → ℕ
entry form k ws = cond (holds k (header form)) (value_of (get_or ws (position k (header form)) 0)) 0
