-- `recurrence::first_h` meets its contract. Assumes nothing.
use Rattle.std.proofs.Common.{arith, ℕ, ◌<◌, ◌≡◌}
use Rattle.sheet.specs.Values.{question}
use Rattle.recurrence.proofs.EquationTurns.{h_zero, h_first, h_second}
use Rattle.recurrence.proofs.first_h.Goals as goal

pub returns-then-k-eq0 : goal.returns-then-k-eq0
returns-then-k-eq0 c =
    let a = c.args in
    λ h inside. h_zero a.v.values.p (question a.v.values) h a.k inside (omega arith) c.if-k-eq0.true

pub returns-then-k-eq1 : goal.returns-then-k-eq1
returns-then-k-eq1 c =
    let a = c.args in
    λ h inside.
    h_first a.v.values.p (question a.v.values) h a.k inside c.subtract.result c.divide.result c.if-k-eq1.true
    c.subtract.ensures c.divide.ensures

-- what is left is 2
two : (k : ℕ) → k < 3 → (k ≡ 0 → ⊥) → (k ≡ 1 → ⊥) → k ≡ 2
two k l m n = omega arith

pub returns : goal.returns
returns c =
    let left : c.args.k ≡ 2 =
    two c.args.k c.requires.k_bound c.if-k-eq0.false c.if-k-eq1.false
    in
    let a = c.args in
    λ h inside.
    h_second a.v.values.p (question a.v.values) h a.k inside c.subtract-2.result c.divide-2.result (left)
    c.subtract-2.ensures c.divide-2.ensures
