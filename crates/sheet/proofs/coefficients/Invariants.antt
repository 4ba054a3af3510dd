use Rattle.std.proofs.Common.{get_or, ◌+◌, ◌≡◌}
use Rattle.slices.specs.Filling.{Filled}
use Rattle.sheet.specs.Values.{coefficient_in}
use Rattle.sheet.proofs.coefficients.Given as goal

abbrev pub invariant-loop-i : goal.invariant-loop-i
invariant-loop-i l = Filled (λ j x. x ≡ coefficient_in l.form l.p (get_or l.ws (l.from + j) 0)) l.out l.i
