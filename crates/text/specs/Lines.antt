-- Laws of the lines: their lengths, the lines of words one after the other, and two lines computed.
-- Assumes nothing.
use Rattle.std.specs.Prelude.{◌≡◌, refl, List, [], ◌∷◌, ◌++◌, ℕ, ◌+◌, ◌*◌, ◌<◌, length, get_or, take}
use Rattle.std.proofs.Common.{sym, ◌∙◌, ap, append_assoc, append-nil, add-one, arith, length-append, take-suc}
use Rattle.text.specs.Text.{digits, decimal, decimal_in, hex_line, hex_lines, refused_line}
use Rattle.text.specs.Digits.{length_digits}

pub length_hex_line : (k n : ℕ) → length (hex_line k n) ≡ k + 1
unfolding hex_line
length_hex_line k n = length-append (digits 16 k n) (10 ∷ []) ∙ ap (λ m. m + 1) (length_digits 16 k n)

pub length_hex_lines : (ws : List ℕ) → length (hex_lines ws) ≡ 9 * length ws
unfolding hex_lines
length_hex_lines [] = refl
length_hex_lines (w ∷ ws) =
    length-append (hex_line 8 w) (hex_lines ws) ∙ omega (arith, length_hex_line 8 w, length_hex_lines ws)

hex_lines_last : (ws : List ℕ) (w : ℕ) → hex_lines (ws ++ w ∷ []) ≡ hex_lines ws ++ hex_line 8 w
unfolding hex_lines
hex_lines_last [] w = append-nil (hex_line 8 w)
hex_lines_last (x ∷ ws) w = ap (λ (l : List ℕ). hex_line 8 x ++ l) (hex_lines_last ws w) ∙ sym (append_assoc (hex_line 8 x) (hex_lines ws) (hex_line 8 w))

pub hex_lines_more : (ws : List ℕ) (i : ℕ) → i < length ws → hex_lines (take i ws) ++ hex_line 8 (get_or ws i 0) ≡ hex_lines (take (i + 1) ws)
hex_lines_more ws i h =
    sym (hex_lines_last (take i ws) (get_or ws i 0)) ∙ ap hex_lines (sym (take-suc ws i 0 h) ∙ ap (λ n. take n ws) (sym (add-one i)))

-- ── two lines computed: the first that document 01 shows for its first question, 100003f1, and a refusal by question 11

pub first_line : hex_line 8 0x100003f1 ≡ 49 ∷ 48 ∷ 48 ∷ 48 ∷ 48 ∷ 51 ∷ 102 ∷ 49 ∷ 10 ∷ []
unfolding hex_line digits
first_line = refl

pub refused_11 : refused_line 11 ≡ 114 ∷ 101 ∷ 102 ∷ 117 ∷ 115 ∷ 101 ∷ 100 ∷ 32 ∷ 49 ∷ 49 ∷ 10 ∷ []
unfolding refused_line decimal decimal_in
refused_11 = refl
