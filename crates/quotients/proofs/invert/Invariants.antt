use Rattle.std.proofs.Common.{length, ◌≡◌}
use Rattle.zmod.specs.Residues.{poly}
use Rattle.quotients.specs.Quotient.{Inverted}
use Rattle.quotients.proofs.invert.Given as goal

abbrev pub invariant-loop-k : goal.invariant-loop-k
invariant-loop-k l = (length l.t ≡ length l.initial.t) × Inverted l.p (poly l.p l.c) l.k l.t
