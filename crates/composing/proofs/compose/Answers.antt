-- `composing::compose` meets its contract. Assumes nothing.
use Rattle.std.proofs.Common.{ap, arith, inl, length-take-le, refl, sym, take, ◌*◌, ◌+◌, ◌∙◌, ◌≡◌}
use Rattle.std.proofs.lemmas.Result.{err_from_is_err_and}
use Rattle.checking.specs.Passed.{passes_half}
use Rattle.composing.proofs.Sheets.{no_first}
use Rattle.composing.proofs.compose.Goals as goal

pub returns-then-answer-lt-MOST_WORDS : goal.returns-then-answer-lt-MOST_WORDS
returns-then-answer-lt-MOST_WORDS c = (inl (refl, λ room. omega (arith, c.if-answer-lt-MOST_WORDS.true)), refl)

pub returns-in_err-v : goal.returns-in_err-v
returns-in_err-v c =
    let a = c.args in
    let p = err_from_is_err_and c.from_residual.result c.from_residual.ensures.1 in
    rw (p.1, p.2)
    (no_first a.first.now a.second.now a.answer.now (omega (arith, c.if-answer-lt-MOST_WORDS.false)) _ c.in_err-v.ensures, refl)

pub overflow_add-g1 : goal.overflow_add-g1
overflow_add-g1 c = omega (arith, c.half_degree-d.ensures)

pub slice_bounds-g1-end : goal.slice_bounds-g1-end
slice_bounds-g1-end c = omega (arith, c.half_degree-d.ensures, passes_half c.in_ok-v.ensures)

pub slice_bounds-compose_second-end : goal.slice_bounds-compose_second-end
slice_bounds-compose_second-end c = sym (length-take-le _ _ (omega (arith, c.half_degree-d.ensures, passes_half c.in_ok-v.ensures)))

pub overflow_mul-n1 : goal.overflow_mul-n1
overflow_mul-n1 c = omega (arith, c.half_degree-d.ensures)

pub overflow_add-n1 : goal.overflow_add-n1
overflow_add-n1 c = omega (arith, c.half_degree-d.ensures)

pub slice_bounds-n1-end : goal.slice_bounds-n1-end
slice_bounds-n1-end c = omega (arith, c.half_degree-d.ensures, passes_half c.in_ok-v.ensures)

pub slice_bounds-compose_second-end-2 : goal.slice_bounds-compose_second-end-2
slice_bounds-compose_second-end-2 c = sym (length-take-le _ _ (omega (arith, c.half_degree-d.ensures, passes_half c.in_ok-v.ensures)))

pub compose_second-requires : goal.compose_second-requires
compose_second-requires c =
    let h = c.in_ok-v.ensures in
    let d : c.half_degree-d.result ≡ _ = c.half_degree-d.ensures.0 in record {
      all_yes = (h.all, h.values);
      g1_value = (
        ap (λ k. take (k + 1) c.passed.new.g) d ∙ h.g_is,
        ap (λ k. take (2 * k + 2) c.passed.new.n) d ∙ h.n_is,
      );
      room = omega (arith, c.if-answer-lt-MOST_WORDS.false);
    }
