use Rattle.std.proofs.Common.{drop, length, ◌++◌, ◌≡◌}
use Rattle.text.specs.Text.{digits}
use Rattle.text.proofs.put_digits.Given as goal

abbrev pub invariant-loop-i : goal.invariant-loop-i
invariant-loop-i l =
    (length l.out ≡ length l.initial.out) × (digits l.base l.i l.rest ++ drop l.i l.out ≡ digits l.base l.k l.n ++ drop l.k l.initial.out)
