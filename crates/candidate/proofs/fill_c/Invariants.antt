use Rattle.std.proofs.Common.{length, ◌≡◌}
use Rattle.zmod.specs.Zmod.{Zmod}
use Rattle.zmod.specs.Residues.{poly}
use Rattle.candidate.specs.Equations.{CAt}
use Rattle.expansion.specs.Equations.{Solved}
use Rattle.candidate.proofs.fill_c.Given as goal

abbrev pub invariant-loop-k : goal.invariant-loop-k
invariant-loop-k l = (length l.c ≡ length l.initial.c) × Solved l.v.values.p (CAt (Zmod l.v.values.p) (poly l.v.values.p l.s)) l.c l.k
