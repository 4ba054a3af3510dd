-- Words of 32 bits: the kind is in the top four, the value in the other 28; and words from bytes, the lowest of the four first.
-- Assumes nothing.
use Rattle.std.specs.Prelude.{List, ℕ, ◌+◌, ◌*◌, ◌/◌, ◌%◌, ◌^◌, length, get_or}
use Rattle.slices.specs.Filling.{tab}

abbrev pub kind_of : ℕ → ℕ
kind_of w = w / 2 ^ 28

abbrev pub value_of : ℕ → ℕ
value_of w = w % 2 ^ 28

-- the word of a kind and a value
abbrev pub word : ℕ → ℕ → ℕ
word kind value = kind * 2 ^ 28 + value

-- word i of a run of bytes, and all of them
abbrev pub word_at : List ℕ → ℕ → ℕ
word_at bytes i =
    get_or bytes (4 * i) 0 + 2 ^ 8 * get_or bytes (4 * i + 1) 0 + 2 ^ 16 * get_or bytes (4 * i + 2) 0 + 2 ^ 24 * get_or bytes (4 * i + 3) 0

abbrev pub words_of : List ℕ → List ℕ
words_of bytes = tab (length bytes / 4) (word_at bytes)
