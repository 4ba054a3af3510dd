-- `recurrence::minus_twice` meets its contract. Assumes nothing.
use Rattle.std.proofs.Common.{refl}
use Rattle.zmod.specs.Zmod.{mk, minus}
use Rattle.expansion.specs.Multiple.{once, both}
use Rattle.recurrence.proofs.minus_twice.Goals as goal

pub returns : goal.returns
returns c =
    let a = c.args in
    let n = c.negate-n.ensures in
    let x = minus a.p (mk a.p a.a) in
    both x 1 1 2 refl (once x n) (once x n) c.add.ensures
