-- What the single tests of the reader decide, of one kind, of one section and of all sections; `proofs/` shows how questions 2 and 6 are made of them.
-- Assumes nothing.
use Rattle.std.specs.Prelude.{◌≡◌, ℕ, ◌^◌, ◌<◌, ◌≤◌, true, ◌↔◌, List, length, slice_index}
use Rattle.sheet.specs.declared.Form.{Form}
use Rattle.sheet.specs.Word.{kind_of, value_of}
use Rattle.sheet.specs.Form.{header, kinds_of, position, holds, value_in}
use Rattle.sheet.specs.Values.{coefficient_in}

-- if the header has a word of kind k, the sheet has it there
unfoldable pub Stands : Form → ℕ → List ℕ → Type 0
Stands form k ws = holds k (header form) ≡ true → (position k (header form) < length ws) × (kind_of (slice_index ws (position k (header form))) ≡ k)

-- the words from `from` up to `to` are each of the kind that the form has there, and the coefficients are below p
unfoldable pub Sections : Form → ℕ → ℕ → ℕ → ℕ → List ℕ → Type 0
Sections form d from to p ws = (i : ℕ) → from ≤ i → i < to
    → (kind_of (slice_index ws i) ≡ slice_index (kinds_of form d) i) × (slice_index (kinds_of form d) i < 10 → coefficient_in form p (slice_index ws i) < p)

-- a word is of kind k, with a value below a bound
abbrev pub Fits : ℕ → ℕ → ℕ → Type 0
Fits k bound w = (kind_of w ≡ k) × (value_of w < bound)

-- so is each of a list
unfoldable pub EachFits : ℕ → ℕ → List ℕ → Type 0
EachFits k bound ws = (i : ℕ) → i < length ws → Fits k bound (slice_index ws i)

-- so are the words from `from` up to `to`
unfoldable pub Section : List ℕ → ℕ → ℕ → ℕ → ℕ → Type 0
Section ws from to k bound = (i : ℕ) → from ≤ i → i < to → Fits k bound (slice_index ws i)

-- the values of 28 bits below the bound are those that the form reads as values below p
unfoldable pub Bounds : Form → ℕ → ℕ → Type 0
Bounds form p bound = (x : ℕ) → x < 2 ^ 28 → (x < bound) ↔ (value_in form p x < p)
