-- `sheet::load` meets its contract. The invariant: the words before i are written.
-- Assumes nothing.
use Rattle.std.proofs.Common.{arith, length}
use Rattle.sheet.proofs.Copies.{words_filled}
use Rattle.sheet.proofs.load.Goals as goal

pub returns : goal.returns
returns c =
    words_filled c.args.bytes.now c.loop-i.out (length c.args.out.now) c.loop-i.auto.out c.requires
    (λ j l. c.loop-i.invariant j (omega (arith, c.loop-i-test.false, l)))
