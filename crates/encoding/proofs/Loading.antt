-- The words of a run of bytes at the front of a buffer, as `keep` leaves them.
-- Assumes nothing.
use mathlib.Core.Path.{◌≡◌, sym, ◌∙◌, ap, subst}
use mathlib.Core.List.{List, ◌++◌}
use Prim.Native.Nat.{ℕ, ◌/◌, ◌≤◌, min}
use native.Mathlib.Decide.{dec_le}
use native.Mathlib.Omega.{arith}
use lib.ListN.{length, take, drop, length-take, length-append}
use lib.Seq.{take_all, take-append_seam}
use Rattle.slices.specs.Filling.{length_tab}
use Rattle.sheet.specs.Word.{word_at, words_of}
use Rattle.encoding.specs.Encoding.{Loaded}

words_length : (bytes : List ℕ) → length (words_of bytes) ≡ length bytes / 4
words_length bytes = length_tab (length bytes / 4) (word_at bytes)

-- n, the lesser of the count of words and the room, takes what the room takes
same_words : (ws : List ℕ) (room n : ℕ) → n ≡ min (length ws) room → take n ws ≡ take room ws
same_words ws room n e = go (dec_le room (length ws))
  where
    go : Dec (room ≤ length ws) → take n ws ≡ take room ws
    go (yes le) = let same : n ≡ room = omega arith in ap (λ m. take m ws) same
    go (no gt) = take_all n ws (omega arith) ∙ sym (take_all room ws (omega arith))

module _ (bytes before out : List ℕ) (n : ℕ) (least : n ≡ min (length bytes / 4) (length before)) where
  count : length (take n before) ≡ n
  count = omega (arith, length-take n before)

  pub loaded : out ≡ take (length (take n before)) (words_of bytes) → Loaded bytes (length before) (out ++ drop n before) n
  loaded e =
      let words : out ≡ take n (words_of bytes) = e ∙ ap (λ m. take m (words_of bytes)) count in
      let long : length out ≡ n = ap length words ∙ omega (arith, length-take n (words_of bytes), words_length bytes) in
      let front : take n (out ++ drop n before) ≡ out = subst (λ m. take m (out ++ drop n before) ≡ out) long (take-append_seam out (drop n before)) in
      record {
        fits = omega (arith, length-append out (drop n before));
        counted = sym (ap length front ∙ long);
        words = front ∙ words ∙ same_words (words_of bytes) (length before) n (least ∙ ap (λ m. min m (length before)) (sym (words_length bytes)));
      }
