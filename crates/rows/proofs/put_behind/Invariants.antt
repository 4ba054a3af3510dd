use Rattle.std.proofs.Common.{List, get_or, length, ℕ, ◌∷◌, ◌≡◌}
use Rattle.slices.specs.Filling.{Filled}
use Rattle.rows.proofs.put_behind.Given as goal

abbrev pub Behind : List ℕ → ℕ → ℕ → Type 0
Behind a j v = v ≡ get_or (0 ∷ 0 ∷ 0 ∷ a) j 0

abbrev pub invariant-loop-k : goal.invariant-loop-k
invariant-loop-k l = (length l.e ≡ length l.initial.e) × Filled (Behind l.a) l.e l.k
