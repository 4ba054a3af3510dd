-- `recurrence::begin_h` meets its contract. The invariant: the words before k solve their equations. Assumes nothing.
use Rattle.std.proofs.Common.{arith, length, length-set, min, subst, ◌<◌, ◌≡◌}
use Rattle.zmod.specs.Zmod.{Zmod}
use Rattle.sheet.specs.Values.{question}
use Rattle.recurrence.specs.Equations.{HAt}
use Rattle.expansion.specs.Equations.{Solved}
use Rattle.expansion.specs.Stores.{solved_more}
use Rattle.recurrence.proofs.Causal.{h_causal}
use Rattle.recurrence.proofs.begin_h.Goals as goal

pub loop-k-preserved : goal.loop-k-preserved
loop-k-preserved c =
    let loop = c.loop-k in
    let a = c.args in
    let inside : loop.k < length loop.h = omega arith in (
      simp length-set loop.invariant.0,
      solved_more a.v.values.p (HAt (Zmod a.v.values.p) (question a.v.values)) (h_causal (Zmod a.v.values.p) (question a.v.values)) loop.h loop.k
          c.first_h.result inside loop.invariant.1 (c.first_h.ensures loop.h inside),
    )

pub returns : goal.returns
returns c =
    let loop = c.loop-k in
    let a = c.args in
    let end : loop.k ≡ min 3 (length a.h.now) = omega arith in
    subst (Solved a.v.values.p (HAt (Zmod a.v.values.p) (question a.v.values)) loop.h) end loop.invariant.1
