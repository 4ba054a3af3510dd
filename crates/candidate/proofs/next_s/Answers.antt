-- `candidate::next_s` meets its contract. Assumes nothing.
use Rattle.std.proofs.Common.{ap, arith, get_or, ◌-◌}
use Rattle.zmod.specs.Zmod.{mk, plus, times}
use Rattle.zmod.specs.Residues.{residue_same}
use Rattle.sheet.specs.Values.{question}
use Rattle.candidate.proofs.EquationTurns.{s_more}
use Rattle.candidate.proofs.next_s.Goals as goal

pub returns : goal.returns
returns c =
    let a = c.args in
    let p = a.v.values.p in
    let s = a.s.now in
    let i = a.i in
    s_more p (question a.v.values) a.h.now s i (omega arith) (omega arith) a.y a.z c.weighted-w.result c.divide.result
    c.requires.multiple.0 c.requires.multiple.1
    (residue_same
    (ap (λ n. plus p (plus p (times p (mk p 1) (mk p (get_or a.h.now i 0))) (times p (mk p a.y) (mk p (get_or s (i - 1) 0))))
    (times p (mk p a.z) (mk p (get_or s n 0)))) c.saturating_sub.ensures)
    c.weighted-w.ensures) c.divide.ensures
