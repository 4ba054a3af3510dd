-- What the programs print, as lists of character codes: what document 01 says of the answer program, and the like for the others.
-- A digit's code is 48 + d for 0 to 9 and 87 + d for a to f (10 to 15); 10 is the line feed, 32 the space.
-- Assumes nothing.
use Rattle.std.specs.Prelude.{cond, List, [], ◌∷◌, ◌++◌, ℕ, zero, suc, ◌+◌, ◌/◌, ◌%◌, ltb}

-- the code of a digit below 16
abbrev pub code : ℕ → ℕ
code d = cond (ltb d 10) (48 + d) (87 + d)

-- the last k digits of n in base b, the highest first
unfoldable pub digits : ℕ → ℕ → ℕ → List ℕ
digits b zero n = []
digits b (suc k) n = digits b k (n / b) ++ code (n % b) ∷ []

-- the decimal digits of n and no more of them: those of n / 10, then the last one. More than n steps are never needed.
unfoldable pub decimal_in : ℕ → ℕ → List ℕ
decimal_in zero n = code n ∷ []
decimal_in (suc steps) n = cond (ltb n 10) (code n ∷ []) (decimal_in steps (n / 10) ++ code (n % 10) ∷ [])

unfoldable pub decimal : ℕ → List ℕ
decimal n = decimal_in n n

-- a line of k hexadecimal digits; for each word, one of eight
unfoldable pub hex_line : ℕ → ℕ → List ℕ
hex_line k n = digits 16 k n ++ 10 ∷ []

unfoldable pub hex_lines : List ℕ → List ℕ
hex_lines [] = []
hex_lines (w ∷ ws) = hex_line 8 w ++ hex_lines ws

-- `refused` and a space; then the number in decimal and a line feed
abbrev pub refused_word : List ℕ
refused_word = 114 ∷ 101 ∷ 102 ∷ 117 ∷ 115 ∷ 101 ∷ 100 ∷ 32 ∷ []

unfoldable pub refused_line : ℕ → List ℕ
refused_line n = refused_word ++ decimal n ++ 10 ∷ []

-- `passes`, a line feed
abbrev pub passes_line : List ℕ
passes_line = 112 ∷ 97 ∷ 115 ∷ 115 ∷ 101 ∷ 115 ∷ 10 ∷ []
