-- What a loop that loads words one a turn leaves.
-- Assumes nothing.
use mathlib.Core.Path.{◌≡◌, sym, ◌∙◌}
use mathlib.Core.List.{List}
use Prim.Native.Nat.{ℕ, ◌*◌, ◌≤◌, ◌/◌}
use native.Mathlib.Omega.{arith}
use lib.ListN.{length, take}
use lib.Seq.{ext_get_or, get_or-take, length-take-le}
use Rattle.slices.specs.Filling.{Filled, length_tab, get_d_tab}
use Rattle.sheet.specs.Word.{word_at, words_of}

pub words_filled : (bytes xs : List ℕ) (n : ℕ) → length xs ≡ n → 4 * n ≤ length bytes → Filled (λ j v. v ≡ word_at bytes j) xs n → xs ≡ take n (words_of bytes)
words_filled bytes xs n len room all =
    let m : ℕ = length bytes / 4 in
    let inside : n ≤ m = omega arith in
    let count : length (take n (words_of bytes)) ≡ n = length-take-le n (words_of bytes) (omega (arith, length_tab m (word_at bytes))) in
    ext_get_or 0 xs (take n (words_of bytes)) (len ∙ sym count) (λ i l.
    all i (omega arith) ∙ sym (get_or-take n (words_of bytes) i 0 (omega arith) ∙ get_d_tab m (word_at bytes) i (omega arith)))
