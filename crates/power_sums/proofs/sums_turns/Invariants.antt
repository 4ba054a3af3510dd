use Rattle.std.proofs.Common.{get_or, length, ℕ, ◌%◌, ◌-◌, ◌≡◌, ◌≤◌}
use Rattle.series.specs.Series.{Seq}
use Rattle.zmod.specs.Zmod.{Zmod}
use Rattle.expansion.specs.Equations.{ReducedTo}
use Rattle.power_sums.specs.Sums.{most_due, Negated, Known}
use Rattle.power_sums.proofs.sums_turns.Given as goal

abbrev pub invariant-loop-i : goal.invariant-loop-i
invariant-loop-i l =
    (length l.acc ≡ length l.initial.acc) × (length l.s ≡ length l.initial.s) × (1 ≤ l.i) × (l.i % 4 ≡ 1) × (l.i ≤ length l.s)
    × ((k : ℕ) → get_or l.acc k 0 ≤ most_due l.i) × ReducedTo l.p l.s l.i
    × ((g : Seq (Zmod l.p)) → Negated l.p l.d g l.e → Known l.p l.d g l.initial.acc l.initial.s l.from → Known l.p l.d g l.acc l.s l.i)

abbrev pub decreases-loop-i : goal.decreases-loop-i
decreases-loop-i l = length l.initial.s - l.i
