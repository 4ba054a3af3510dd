-- A text at the front of a buffer is the text of its first bytes.
-- Assumes nothing.
use mathlib.Core.Path.{◌≡◌, sym, ap, subst, ◌∙◌}
use mathlib.Core.List.{List}
use Prim.Native.Nat.{ℕ}
use native.Mathlib.Omega.{arith}
use lib.ListN.{length, take, drop, length-append}
use Rattle.text.specs.Fills.{Fills, fills_take}
use Rattle.printing.specs.Printing.{Prints}

pub printed : (Text : List ℕ → Type 0) {text before after : List ℕ} {count : ℕ} → Fills text before after count → Text text → Prints Text after count
printed Text {text} {before} {after} {count} h right = record {
  fits = omega (arith, h.count_is, ap length h.bytes, length-append text (drop count before));
  counted = h.count_is ∙ ap length (sym (fills_take h));
  right = subst Text (sym (fills_take h)) right;
}
