use Rattle.std.proofs.Common.{slice_index, true, ℕ, ◌<◌, ◌↔◌, ◌≡◌}
use Rattle.sheet.specs.Code.{code}
use Rattle.reading.specs.Leaf.{Fits}
use Rattle.reading.proofs.section.Given as goal

abbrev pub invariant-loop-w : goal.invariant-loop-w
invariant-loop-w l = (l.all ≡ true) ↔ ((i : ℕ) → i < l.w-index → Fits (code l.kind) l.bound (slice_index l.words i))
