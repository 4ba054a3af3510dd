-- `printing::push` meets its contract. Assumes nothing.
use Rattle.std.proofs.Common.{refl}
use Rattle.printing.specs.Printing.{PushText}
use Rattle.printing.proofs.Printed.{printed}
use Rattle.printing.proofs.push.Goals as goal

pub returns : goal.returns
returns c =
    let call = c.push_input in
    printed (PushText c.args.bytes.now) c.image_text.ensures
    (record { answer = call.result; right = call.ensures; text_is = refl })
