-- The words and the number at the front of a run of bytes.
-- Assumes nothing.
use Rattle.std.proofs.Common.{◌≡◌, ◌∙◌, sym, ap, subst, List, ℕ, ◌+◌, ◌*◌, ◌<◌, arith, length, take, get_or, get_or-take}
use Rattle.sheet.specs.Word.{word_at, words_of}
use Rattle.sheet.specs.Form.{most_words}

-- what holds of the words that fill a blank buffer holds of the first words
pub at_kept : (bytes blank : List ℕ) {words : List ℕ} (P : List ℕ → Type 0) → most_words + 1 ≡ length blank → words ≡ take (length blank) (words_of bytes)
    → P words → P (take (most_words + 1) (words_of bytes))
at_kept bytes blank P full kept h = subst P (kept ∙ ap (λ m. take m (words_of bytes)) (sym full)) h

-- the words of eight bytes
pub word_take : (bytes : List ℕ) (i : ℕ) → i < 2 → word_at (take 8 bytes) i ≡ word_at bytes i
word_take bytes i h = cc (at (4 * i) (omega arith), at (4 * i + 1) (omega arith), at (4 * i + 2) (omega arith), at (4 * i + 3) (omega arith))
  where
    at : (k : ℕ) → k < 8 → get_or (take 8 bytes) k 0 ≡ get_or bytes k 0
    at k h = get_or-take 8 bytes k 0 h
