-- `solving::solve` meets its contract. Assumes nothing.
use Rattle.std.proofs.Common.{arith, refl, subst, ◌∙◌}
use Rattle.std.proofs.lemmas.Result.{err_from_is_err_and}
use Rattle.solution.specs.Solved.{Solved}
use Rattle.solving.proofs.Sheets.{solve_short, solve_unread, solve_right}
use Rattle.solving.proofs.solve.Goals as goal

pub returns-then-answer-lt-MOST_WORDS : goal.returns-then-answer-lt-MOST_WORDS
returns-then-answer-lt-MOST_WORDS c =
    (solve_short c.args.ws.now c.args.answer.now (omega (arith, c.if-answer-lt-MOST_WORDS.true)), refl)

pub returns-in_err-v : goal.returns-in_err-v
returns-in_err-v c =
    let p = err_from_is_err_and c.from_residual.result c.from_residual.ensures.1 in
    rw (p.1, p.2) (solve_unread c.args.ws.now c.args.answer.now (omega (arith, c.if-answer-lt-MOST_WORDS.false)) _ c.in_err-v.ensures, refl)

pub returns : goal.returns
returns c =
    let right = c.in_ok-v.ensures in
    let answer = c.args.answer.now in
    solve_right c.args.ws.now answer (omega (arith, c.if-answer-lt-MOST_WORDS.false)) right.0 c.solve_values.new.answer c.solve_values.result
    (subst (λ v. Solved v answer c.solve_values.new.answer c.solve_values.result) (c.new.ensures ∙ right.1) c.solve_values.ensures)
