-- What `read` keeps of an input whose bytes are known, and what its count says of the others.
-- Assumes nothing.
use Rattle.std.specs.Prelude.{◌≡◌, List, ℕ, ◌+◌, ◌-◌, ◌%◌, length, min, take}
use Rattle.std.specs.Io.KnownBytes.{Consumes}
use Rattle.std.specs.declared.option.Option.{Option}

-- The input had the bytes `old` left and has `new` left now, where they are known: it gave `got`. The first of these, as many as there is room for, are
-- the front of `kept`; the count has the number of the others modulo 4 on top.
pub record KeepsFront (old new : Option (List ℕ)) (kept : List ℕ) (room count : ℕ) : Type 0 where
  pub got : List ℕ
  pub gave : Consumes old new got
  pub front : take (min (length got) room) kept ≡ take room got
  pub count_is : count ≡ min (length got) room + (length got - room) % 4

-- It gave so many bytes.
abbrev pub Gives : Option (List ℕ) → Option (List ℕ) → ℕ → Type 0
Gives old new n = (got : List ℕ) × Consumes old new got × (n ≡ length got)

-- It gave some number of bytes, of which this is the remainder.
abbrev pub GivesModulo4 : Option (List ℕ) → Option (List ℕ) → ℕ → Type 0
GivesModulo4 old new n = (got : List ℕ) × Consumes old new got × (n ≡ length got % 4)
