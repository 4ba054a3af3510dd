-- `sagepliers::files::check` meets its contract. Assumes nothing.
use Rattle.promises.specs.Answer.{CheckRight}
use Rattle.sagepliers.proofs.Loading.{at_kept}
use Rattle.sagepliers.proofs.Long.{check_long}
use Rattle.sagepliers.proofs.Bytes.{check_bytes}
use Rattle.sagepliers.proofs.files.check.Goals as goal

pub returns : goal.returns
returns c =
    let (even, words) = c.in_ok-kept.ensures in
    let right = at_kept c.args.bytes.now c.blank-room.result (λ ws. CheckRight ws c.check.result) c.blank-room.ensures words c.check.ensures in
    check_bytes c.args.bytes.now c.check.result even (check_long _ c.check.result right)
