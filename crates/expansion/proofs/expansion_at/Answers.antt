-- `expansion::expansion_at` meets its contract. Assumes nothing.
use Rattle.std.proofs.Common.{ap, arith, get_or, ◌*◌, ◌+◌, ◌-◌}
use Rattle.sheet.specs.Values.{question}
use Rattle.zmod.specs.Residues.{residue_same}
use Rattle.zmod.specs.Zmod.{mk, plus, times}
use Rattle.expansion.proofs.Turns.{expands}
use Rattle.expansion.proofs.expansion_at.Goals as goal

pub returns : goal.returns
returns c =
    let a = c.args in
    let p = a.v.values.p in
    expands p (question a.v.values).A (question a.v.values).B a.s.now a.i a.y a.z c.weighted.result (omega arith) c.requires.multiple.0
    c.requires.multiple.1
    (residue_same (ap (λ n. plus p (plus p (times p (mk p (2 * a.i + 1)) (mk p (get_or a.s.now (a.i + 1) 0)))
    (times p (mk p a.y) (mk p (get_or a.s.now (a.i - 1) 0)))) (times p (mk p a.z) (mk p (get_or a.s.now n 0))))
    c.saturating_sub.ensures) c.weighted.ensures)
