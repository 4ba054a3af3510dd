use Rattle.std.proofs.Common.{List, get_or, length, ℕ, ◌≡◌}
use Rattle.slices.specs.Filling.{Filled}
use Rattle.rows.proofs.widen.Given as goal

abbrev pub Same : List ℕ → ℕ → ℕ → Type 0
Same a j v = v ≡ get_or a j 0

abbrev pub invariant-loop-k : goal.invariant-loop-k
invariant-loop-k l = (length l.out ≡ length l.initial.out) × Filled (Same l.a) l.out l.k
