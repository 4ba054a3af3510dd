-- `encoding::number` meets its contract. Assumes nothing.
use Rattle.std.proofs.Common.{List, ap, arith, get_or, get_or-take, take, ℕ, ◌*◌, ◌+◌, ◌<◌, ◌^◌, ◌∙◌, ◌≡◌}
use Rattle.std.specs.Int.{w64, from_le_bytes}
use Rattle.sheet.specs.Word.{word_at}
use Rattle.encoding.proofs.number.Goals as goal

-- eight bytes are two words
two_words : (bytes : List ℕ) → from_le_bytes w64 (take 8 bytes) ≡ word_at bytes 0 + 2 ^ 32 * word_at bytes 1
two_words bytes =
    let at : (i : ℕ) → i < 8 → get_or (take 8 bytes) i 0 ≡ get_or bytes i 0 = λ i h. get_or-take 8 bytes i 0 h in
    omega (
      arith,
      at 0 (omega arith),
      at 1 (omega arith),
      at 2 (omega arith),
      at 3 (omega arith),
      at 4 (omega arith),
      at 5 (omega arith),
      at 6 (omega arith),
      at 7 (omega arith),
    )

pub returns : goal.returns
returns c =
    c.from_le_bytes.ensures ∙ ap (from_le_bytes w64) c.copy_from_slice.ensures.after ∙ two_words c.args.bytes.now
