-- `candidate::solution` meets its contract: the inverses, then h, s and c, then g backwards. Assumes nothing.
use Rattle.std.proofs.Common.{subst, ◌∙◌}
use Rattle.recurrence.specs.Equations.{HAt}
use Rattle.candidate.specs.Equations.{SAt, CAt}
use Rattle.expansion.specs.Equations.{Solved}
use Rattle.candidate.proofs.Only.{answer}
use Rattle.sheet.specs.Values.{question}
use Rattle.zmod.specs.Zmod.{Zmod}
use Rattle.zmod.specs.Residues.{poly}
use Rattle.candidate.proofs.solution.Goals as goal

pub returns : goal.returns
returns c =
    let a = c.args in
    let v = a.v.values in
    let p = v.p in
    let h = c.expansion_of_curves in
    let s = c.fill_s in
    let k = c.fill_c in
    let g = c.reverse in
    answer v h.new.h s.new.s k.new.c g.new.out c.args.v.ready
    (subst (Solved p (HAt (Zmod p) (question v)) h.new.h) c.requires.table_len.1 h.ensures)
    (subst (Solved p (SAt (Zmod p) (question v) (poly p h.new.h)) s.new.s) c.requires.s_len.0 s.ensures)
    (subst (Solved p (CAt (Zmod p) (poly p s.new.s)) k.new.c) c.requires.s_len.1 k.ensures)
    (k.auto.c ∙ c.requires.s_len.1) (g.auto.out ∙ c.requires.s_len.2) g.ensures
