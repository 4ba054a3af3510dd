use Rattle.std.proofs.Common.{get_or, length, ℕ, ◌%◌, ◌-◌, ◌≡◌, ◌≤◌}
use Rattle.series.specs.Series.{Seq}
use Rattle.zmod.specs.Zmod.{Zmod}
use Rattle.power_sums.specs.Sums.{most_due, Negated, Due}
use Rattle.power_sums.proofs.known_rows.Given as goal

-- Assumes nothing.
abbrev pub invariant-loop-i : goal.invariant-loop-i
invariant-loop-i l =
    (length l.acc ≡ length l.initial.acc) × (1 ≤ l.i) × (l.i % 4 ≡ 1) × (l.i ≤ l.from) × ((k : ℕ) → get_or l.acc k 0 ≤ most_due l.i)
    × ((g : Seq (Zmod l.p)) → Negated l.p l.d g l.e → Due l.p l.d g l.initial.acc l.s l.from 1 → Due l.p l.d g l.acc l.s l.from l.i)

abbrev pub decreases-loop-i : goal.decreases-loop-i
decreases-loop-i l = l.from - l.i
