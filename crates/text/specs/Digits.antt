-- How many characters a run of digits has.
-- Assumes nothing.
use Rattle.std.specs.Prelude.{◌≡◌, refl, [], ◌∷◌, ℕ, zero, suc, ◌/◌, ◌%◌, length}
use Rattle.std.proofs.Common.{◌∙◌, ap, add-one, length-append}
use Rattle.text.specs.Text.{code, digits}

pub length_digits : (b k n : ℕ) → length (digits b k n) ≡ k
unfolding digits
length_digits b zero n = refl
length_digits b (suc k) n =
    length-append (digits b k (n / b)) (code (n % b) ∷ []) ∙ add-one (length (digits b k (n / b))) ∙ ap suc (length_digits b k (n / b))
