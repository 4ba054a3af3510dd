-- `text::places` meets its contract. The invariant: k digits are counted, one of them the first of those that are left. Assumes nothing.
use Rattle.std.proofs.Common.{ap, arith, length}
use Rattle.text.proofs.Decimal.{decimal_one, length_more}
use Rattle.text.proofs.places.Goals as goal

pub loop-rest-preserved : goal.loop-rest-preserved
loop-rest-preserved c = omega (arith, length_more c.loop-rest.rest (omega arith))

pub returns : goal.returns
returns c = omega (arith, ap length (decimal_one c.loop-rest.rest (omega arith)))
