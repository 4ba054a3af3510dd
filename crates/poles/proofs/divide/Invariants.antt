use Rattle.std.proofs.Common.{length, ◌-◌, ◌<◌, ◌≡◌, ◌≤◌}
use Rattle.series.specs.Degree.{Below}
use Rattle.zmod.specs.Zmod.{Zmod}
use Rattle.zmod.specs.Prime.{Prime}
use Rattle.zmod.specs.Residues.{Reduced, poly}
use Rattle.poles.specs.Steps.{Highest, Left}
use Rattle.poles.proofs.divide.Given as goal

abbrev pub invariant-loop-i : goal.invariant-loop-i
invariant-loop-i l = (l.below.degree ≤ l.i) × (length l.t ≡ length l.initial.t) × Reduced l.m.p l.t
    × (Below (Zmod l.m.p) (length l.h - l.below.degree) (poly l.m.p l.t)) × (l.w < l.m.p)
    × ((P : Prime l.m.p) (high : Highest l.m.p l.h l.u l.fn.row.degree l.below.degree l.below.top) (pos : 0 < l.below.top)
    → Left l.m.p l.h l.initial.t l.u l.fn.row.degree l.below.degree l.below.top P high pos l.fn.row.top l.i l.t l.w)
