-- `candidate::fill_c` meets its contract. The invariant: the words before k solve their equations. Assumes nothing.
use Rattle.std.proofs.Common.{arith, length, length-set, refl, ◌<◌, ◌∙◌}
use Rattle.zmod.specs.Zmod.{Zmod}
use Rattle.zmod.specs.Residues.{poly}
use Rattle.candidate.specs.Equations.{CAt}
use Rattle.expansion.specs.Stores.{solved_none, solved_more}
use Rattle.candidate.proofs.Causal.{c_causal}
use Rattle.candidate.proofs.EquationTurns.{c_zero}
use Rattle.candidate.proofs.fill_c.Goals as goal

pub loop-k-init : goal.loop-k-init
loop-k-init c =
    let a = c.args in
    let p = a.v.values.p in
    let E = CAt (Zmod p) (poly p a.s.now) in
    let inside : 0 < length a.c.now = omega arith in (
      refl,
      solved_more p E (c_causal (Zmod p) (poly p a.s.now)) a.c.now 0 1 inside (solved_none p E a.c.now)
          (c_zero p a.s.now a.c.now (omega arith) inside),
    )

pub loop-k-preserved : goal.loop-k-preserved
loop-k-preserved c =
    let loop = c.loop-k in
    let a = c.args in
    let p = a.v.values.p in
    let inside : loop.k < length loop.c = omega arith in (
      length-set loop.c loop.k c.next_c.result ∙ loop.invariant.0,
      solved_more p (CAt (Zmod p) (poly p a.s.now)) (c_causal (Zmod p) (poly p a.s.now)) loop.c loop.k c.next_c.result inside
          loop.invariant.1 c.next_c.ensures,
    )
