-- The question sheet and the kernel sheet of a certificate. (What solve and kernel answer to them: `proofs/Again`.)
-- Assumes nothing.
use mathlib.Core.List.{List, [], ◌∷◌, ◌++◌}
use Prim.Native.Nat.{ℕ, ◌+◌}
use Rattle.std.proofs.Math.ListN.{take, drop}
use Rattle.sheet.specs.declared.Form.TheVariants.{Certificate}
use Rattle.sheet.specs.Word.{word}
use Rattle.sheet.specs.Values.{values_of, half}

-- the question sheet of a certificate: its first seven words, and the end
abbrev pub question_of : List ℕ → List ℕ
question_of ws = take 7 ws ++ word 15 0 ∷ []

-- the kernel sheet of a certificate: p, A, B, ℓ, the coefficients of g, and the end
abbrev pub kernel_of : List ℕ → List ℕ
kernel_of ws = take 3 ws ++ take 1 (drop 5 ws) ++ take (half (values_of Certificate ws) + 1) (drop 7 ws) ++ word 15 0 ∷ []
