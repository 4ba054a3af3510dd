use Rattle.std.proofs.Common.{List, length, ℕ, ◌≡◌}
use Rattle.slices.specs.Filling.{Filled}
use Rattle.zmod.specs.Residues.{Residue, poly}
use Rattle.barrett.proofs.prepared.Modulus.remainders.Given as goal

-- v is the residue of the number of xs at j
abbrev pub Of : ℕ → List ℕ → ℕ → ℕ → Type 0
Of p xs j v = Residue p (poly p xs j) v

abbrev pub invariant-loop-i : goal.invariant-loop-i
invariant-loop-i l = (length l.out ≡ length l.initial.out) × Filled (Of l.self.p l.xs) l.out l.i
