-- `candidate::far_sum` meets its contract. Assumes nothing.
use Rattle.std.proofs.Common.{arith, length, ◌-◌}
use Rattle.zmod.specs.Residues.{poly}
use Rattle.expansion.specs.Parts.{part_reduced, reduced_front}
use Rattle.candidate.proofs.EquationTurns.{far_zero, far_more}
use Rattle.candidate.proofs.far_sum.Goals as goal

pub returns-then-k-eq1 : goal.returns-then-k-eq1
returns-then-k-eq1 c =
    let a = c.args in
    far_zero a.p (poly a.p a.s.now) (poly a.p a.c.now) a.k (omega arith) c.if-k-eq1.true

pub coefficient-requires-clause-reduced : goal.coefficient-requires-clause-reduced
coefficient-requires-clause-reduced c =
    let a = c.args in (
      part_reduced a.p a.s.now 2 (length a.s.now - 2) (omega arith) (λ i l. c.requires.reduced.0 i),
      reduced_front a.p a.c.now (omega arith) (a.k - 1) (λ i l. c.requires.reduced.1 i (omega arith)),
    )

pub returns : goal.returns
returns c =
    let a = c.args in
    far_more a.p a.s.now a.c.now a.k (length a.s.now - 2) c.coefficient.result
    (omega (arith, c.if-k-eq1.false)) (omega arith) c.coefficient.ensures
