-- `printing::check` meets its contract. Assumes nothing.
use Rattle.std.proofs.Common.{refl}
use Rattle.printing.specs.Printing.{CheckText}
use Rattle.printing.proofs.Printed.{printed}
use Rattle.printing.proofs.check.Goals as goal

pub returns : goal.returns
returns c =
    let call = c.check in
    printed (CheckText c.args.bytes.now) c.verdict_text.ensures
    (record { answer = call.result; right = call.ensures; text_is = refl })
