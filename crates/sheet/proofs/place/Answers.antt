-- `sheet::place` meets its contract.
-- Assumes nothing.
use Rattle.std.proofs.Common.{ap, ap₂, arith, sym, Some, ◌*◌, ◌+◌, ◌∙◌}
use Rattle.std.specs.ControlFlow.{continue_value}
use Rattle.sheet.specs.Code.{code_fits}
use Rattle.sheet.specs.Place.{placed}
use Rattle.sheet.specs.Places.{nowhere_placed, somewhere_placed}
use Rattle.sheet.proofs.place.Goals as goal

pub returns-in_err-start : goal.returns-in_err-start
returns-in_err-start c =
    let a = c.args in
    let k = c.from.result in
    let at = sym (c.places_of.ensures k (omega (arith, c.from.ensures, code_fits a.kind))) ∙ c.branch-start.ensures ∙ ap continue_value c.in_err-start.is in
    c.from_residual.ensures ∙ sym (nowhere_placed a.form k a.d at) ∙ ap (λ k. placed a.form k a.d) c.from.ensures

pub returns : goal.returns
returns c =
    let a = c.args in
    let k = c.from.result in
    let at = sym (c.places_of.ensures k (omega (arith, c.from.ensures, code_fits a.kind))) ∙ c.branch-start.ensures ∙ ap continue_value c.in_ok-start.is in
    ap₂ (λ x y. Some (x + y * a.d)) c.from-2.ensures c.from-3.ensures
    ∙ sym (somewhere_placed a.form k a.d at) ∙ ap (λ k. placed a.form k a.d) c.from.ensures
