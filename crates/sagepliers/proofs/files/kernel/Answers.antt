-- `sagepliers::files::kernel` meets its contract. Assumes nothing.
use Rattle.promises.specs.Answer.{KernelRight}
use Rattle.sagepliers.proofs.Loading.{at_kept}
use Rattle.sagepliers.proofs.Long.{kernel_long}
use Rattle.sagepliers.proofs.Bytes.{kernel_bytes}
use Rattle.sagepliers.proofs.files.kernel.Goals as goal

pub returns : goal.returns
returns c =
    let before = c.args.answer.now in
    let after = c.kernel.new.answer in
    let (even, words) = c.in_ok-kept.ensures in
    let right = at_kept c.args.bytes.now c.blank-room.result (λ ws. KernelRight ws before after c.kernel.result) c.blank-room.ensures words c.kernel.ensures in
    kernel_bytes c.args.bytes.now before after c.kernel.result even (kernel_long _ before after c.kernel.result right)
