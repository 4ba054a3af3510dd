-- `reading::section` meets its contract. The invariant: `all` tells whether the words so far are as asked.
-- Assumes nothing.
use Rattle.std.proofs.Common.{arith}
use Rattle.reading.specs.Leaf.{EachFits}
use Rattle.reading.proofs.section.Goals as goal

pub returns : goal.returns
unfolding EachFits
returns c =
    let inv = c.loop-w.invariant in
    (λ t i l. inv.0 t i (omega (arith, c.loop-w-test.false, l)), λ h. inv.1 (λ i l. h i (omega (arith, c.loop-w.auto.w-index-end, l))))
