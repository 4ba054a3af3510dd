-- `trial::divides` meets its contract.
-- Assumes nothing.
use Rattle.std.proofs.Common.{inr, refl}
use native.Mathlib.Nat as N
use Rattle.trial.proofs.divides.Goals as goal

pub returns-else-n-d-eq0 : goal.returns-else-n-d-eq0
returns-else-n-d-eq0 c = inr (λ h. (rw c.from-d.ensures at c.if-n-d-eq0.false) (N.mod-eq-zero_of_dvd c.args.q h.0), refl)
