-- `sagepliers::files::solve` meets its contract. Assumes nothing.
use Rattle.promises.specs.Answer.{SolveRight}
use Rattle.sagepliers.proofs.Loading.{at_kept}
use Rattle.sagepliers.proofs.Long.{solve_long}
use Rattle.sagepliers.proofs.Bytes.{solve_bytes}
use Rattle.sagepliers.proofs.files.solve.Goals as goal

pub returns : goal.returns
returns c =
    let before = c.args.answer.now in
    let after = c.solve.new.answer in
    let (even, words) = c.in_ok-kept.ensures in
    let right = at_kept c.args.bytes.now c.blank-room.result (λ ws. SolveRight ws before after c.solve.result) c.blank-room.ensures words c.solve.ensures in
    solve_bytes c.args.bytes.now before after c.solve.result even (solve_long _ before after c.solve.result right)
