use Rattle.std.proofs.Common.{get_or, ℕ, ◌<◌}
use Rattle.sheet.specs.declared.Kind.TheVariants.{P}
use Rattle.sheet.specs.Code.{code}
use Rattle.reading.specs.Leaf.{Stands}
use Rattle.reading.proofs.headed.Given as goal

abbrev pub invariant-loop-kind : goal.invariant-loop-kind
invariant-loop-kind l = (j : ℕ) → j < l.kind-index → Stands l.form (code (get_or l.kind-items j P)) l.ws
