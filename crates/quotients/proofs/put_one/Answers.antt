-- `quotients::put_one` meets its contract. Assumes nothing.
use Rattle.std.proofs.Common.{ap, set}
use Rattle.quotients.proofs.put_one.Goals as goal

pub returns : goal.returns
returns c =
    ap (λ l. set l 0 1) (c.fill.ensures.after (λ y h. h))
