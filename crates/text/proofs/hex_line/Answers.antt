-- `text::hex_line` meets its contract. Assumes nothing.
use Rattle.std.proofs.Common.{rules}
use Rattle.text.specs.Text.{hex_line}
use Rattle.text.specs.Fills.{fills_one}
use Rattle.text.proofs.hex_line.Goals as goal

pub returns : goal.returns
unfolding hex_line
returns c = fills_one c.put_digits.ensures 10 (search rules)
