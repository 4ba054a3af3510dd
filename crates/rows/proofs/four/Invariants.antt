use Rattle.std.proofs.Common.{◌≡◌}
use Rattle.slices.specs.Stored.{Stored}
use Rattle.rows.specs.Rows.{four_more}
use Rattle.rows.proofs.four.Given as goal

abbrev pub invariant-loop-j : goal.invariant-loop-j
invariant-loop-j l = Stored (λ k v. v ≡ four_more l.initial.out l.a l.b l.c l.d l.w l.x l.y l.z k) l.initial.out l.out l.j
