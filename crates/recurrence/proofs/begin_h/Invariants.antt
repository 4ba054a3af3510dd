use Rattle.std.proofs.Common.{length, ◌≡◌}
use Rattle.zmod.specs.Zmod.{Zmod}
use Rattle.sheet.specs.Values.{question}
use Rattle.recurrence.specs.Equations.{HAt}
use Rattle.expansion.specs.Equations.{Solved}
use Rattle.recurrence.proofs.begin_h.Given as goal

abbrev pub invariant-loop-k : goal.invariant-loop-k
invariant-loop-k l = (length l.h ≡ length l.initial.h) × Solved l.v.values.p (HAt (Zmod l.v.values.p) (question l.v.values)) l.h l.k
