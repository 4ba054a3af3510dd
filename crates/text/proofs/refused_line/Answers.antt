-- `text::refused_line` meets its contract: a 32-bit number has ten digits at most. Assumes nothing.
use Rattle.std.proofs.Common.{List, [], ap, arith, drop, length, length-drop, length-set, length-take, refl, take, ℕ, ◌++◌, ◌+◌, ◌-◌, ◌<◌, ◌^◌, ◌∷◌, ◌≤◌}
use Rattle.text.specs.Text.{decimal, refused_word, refused_line}
use Rattle.text.specs.Fills.{Fills, fills_length, fills_as, fills_one, fills_part}
use Rattle.text.proofs.Decimal.{decimal_short}
use Rattle.text.proofs.refused_line.Goals.{After-slice_known-3-1}
use Rattle.text.proofs.refused_line.Goals as goal

-- a number of 32 bits has ten decimal digits at most
ten : (n : ℕ) → n < 2 ^ 32 → length (decimal n) ≤ 10
ten n h = decimal_short n 9 (omega arith)

pub put_decimal-k-requires : goal.put_decimal-k-requires
put_decimal-k-requires c = simp (length-take, length-drop) (omega (arith, ten c.from.result (omega arith)))

pub overflow_add-end : goal.overflow_add-end
overflow_add-end c = omega (arith, ten c.from.result (omega arith), c.put_decimal-k.ensures.count_is)

module _ (c : After-slice_known-3-1) where
  abbrev out : List ℕ
  out = c.args.out.now

  abbrev word : List ℕ
  word = c.put_bytes.new.out

  abbrev number : ℕ
  number = c.from.result

  -- the word, the space and the digits
  begun : Fills (refused_word ++ decimal number) out
      (take 8 word ++ (c.put_decimal-k.new.out ++ drop (length word - 8) (drop 8 word))) (8 + c.put_decimal-k.result)
  begun =
      fills_part c.put_bytes.ensures (length word - 8) (omega arith)
      c.put_decimal-k.ensures

  room : 8 + c.put_decimal-k.result < length out
  room = omega (arith, ten number (omega arith), c.put_decimal-k.ensures.count_is)

pub bounds-out-end : goal.bounds-out-end
bounds-out-end c = omega (arith, fills_length (begun c) (omega (arith, room c)), room c)

pub overflow_add-result : goal.overflow_add-result
overflow_add-result c = omega (arith, room c)

pub shape_of-out : goal.shape_of-out
shape_of-out c = simp length-set (fills_length (begun c) (omega (arith, room c)))

pub returns : goal.returns
unfolding refused_line
returns c =
    fills_as (fills_one (begun c) 10 (room c)) (ap (λ n. (refused_word ++ decimal n) ++ 10 ∷ []) c.from.ensures) refl
