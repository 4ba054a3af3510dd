-- `sagepliers::files::push` meets its contract. Assumes nothing.
use Rattle.std.proofs.Common.{arith, subst}
use Rattle.encoding.specs.Encoding.{point_of}
use Rattle.promises.specs.Answer.{PushRight}
use Rattle.sagepliers.proofs.Loading.{at_kept}
use Rattle.sagepliers.proofs.Long.{push_long}
use Rattle.sagepliers.proofs.Bytes.{push_bytes}
use Rattle.sagepliers.proofs.files.push.Goals as goal

pub returns : goal.returns
returns c =
    let at = point_of c.args.point in
    let (even, words) = c.in_ok-kept.ensures in
    let pushed = subst (λ at. PushRight c.in_ok-kept.field-0.now at c.push.result) c.point_of.ensures c.push.ensures in
    let right = at_kept c.args.bytes.now c.blank-room.result (λ ws. PushRight ws at c.push.result) c.blank-room.ensures words pushed in
    push_bytes c.args.bytes.now c.args.point c.push.result even (omega (arith, c.if-point-gt-INFINITY.false)) (push_long _ at c.push.result right)
