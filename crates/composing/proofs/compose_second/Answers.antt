-- `composing::compose_second` meets its contract. Assumes nothing.
use Rattle.std.proofs.Common.{ap, arith, length-take-le, refl, sym, take, ◌+◌, ◌∙◌, ◌≡◌}
use Rattle.std.proofs.lemmas.Result.{err_from_is_err_and}
use Rattle.checking.specs.Passed.{passes_half}
use Rattle.composing.proofs.Sheets.{no_second}
use Rattle.composing.proofs.compose_second.Goals as goal

pub returns-in_err-w : goal.returns-in_err-w
returns-in_err-w c =
    let a = c.args in
    let p = err_from_is_err_and c.from_residual.result c.from_residual.ensures.1 in
    rw (p.1, p.2) (no_second a.first.now a.second.now a.answer.now c.requires.room c.requires.all_yes.0 _ c.in_err-w.ensures, refl)

pub overflow_add-g2 : goal.overflow_add-g2
overflow_add-g2 c = omega (arith, c.half_degree-d.ensures)

pub slice_bounds-g2-end : goal.slice_bounds-g2-end
slice_bounds-g2-end c = omega (arith, c.half_degree-d.ensures, passes_half c.in_ok-w.ensures)

pub slice_bounds-compose_passed-end : goal.slice_bounds-compose_passed-end
slice_bounds-compose_passed-end c = sym (length-take-le _ _ (omega (arith, c.half_degree-d.ensures, passes_half c.in_ok-w.ensures)))

pub compose_passed-requires : goal.compose_passed-requires
compose_passed-requires c =
    let h = c.in_ok-w.ensures in
    let d : c.half_degree-d.result ≡ _ = c.half_degree-d.ensures.0 in record {
      all_yes = c.requires.all_yes;
      all_yes_2 = (h.all, h.values);
      g1_value = (c.requires.g1_value.0, c.requires.g1_value.1, ap (λ k. take (k + 1) c.passed.new.g) d ∙ h.g_is);
      room = c.requires.room;
    }
