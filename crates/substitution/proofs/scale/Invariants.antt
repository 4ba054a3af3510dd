use Rattle.std.proofs.Common.{List, get_or, length, ℕ, ◌*◌, ◌≡◌}
use Rattle.slices.specs.Filling.{Filled}
use Rattle.substitution.proofs.scale.Given as goal

abbrev pub Multiple : ℕ → List ℕ → ℕ → ℕ → Type 0
Multiple c a j v = v ≡ c * get_or a j 0

abbrev pub invariant-loop-k : goal.invariant-loop-k
invariant-loop-k l = (length l.out ≡ length l.initial.out) × Filled (Multiple l.c l.a) l.out l.k
