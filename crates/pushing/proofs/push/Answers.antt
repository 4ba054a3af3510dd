-- `pushing::push` meets its contract. Assumes nothing.
use Rattle.std.proofs.Common.{[], ap, arith, length-take-le, sym, take, ◌*◌, ◌+◌, ◌∙◌, ◌∷◌, ◌≡◌}
use Rattle.std.proofs.lemmas.Result.{err_from_is_err_and}
use Rattle.questions.specs.Joined.{no_before}
use Rattle.sheet.specs.declared.Form.TheVariants.{Certificate}
use Rattle.sheet.specs.Values.{values_of}
use Rattle.promises.specs.Asked.{check_asks, Given}
use Rattle.checking.specs.Passed.{passes_half}
use Rattle.pushing.proofs.push.Goals as goal

pub returns-in_err-v : goal.returns-in_err-v
returns-in_err-v c =
    let ws = c.args.ws.now in
    let p = err_from_is_err_and c.from_residual.result c.from_residual.ensures.1 in
    rw (p.1, p.2) (no_before (check_asks ws) ((12, Given (values_of Certificate ws) c.args.point) ∷ []) _ c.in_err-v.ensures)

pub overflow_add-g : goal.overflow_add-g
overflow_add-g c = omega (arith, c.half_degree-d.ensures)

pub slice_bounds-g-end : goal.slice_bounds-g-end
slice_bounds-g-end c = omega (arith, c.half_degree-d.ensures, passes_half c.in_ok-v.ensures)

pub slice_bounds-push_passed-end : goal.slice_bounds-push_passed-end
slice_bounds-push_passed-end c = sym (length-take-le _ _ (omega (arith, c.half_degree-d.ensures, passes_half c.in_ok-v.ensures)))

pub overflow_mul-n : goal.overflow_mul-n
overflow_mul-n c = omega (arith, c.half_degree-d.ensures)

pub overflow_add-n : goal.overflow_add-n
overflow_add-n c = omega (arith, c.half_degree-d.ensures)

pub slice_bounds-n-end : goal.slice_bounds-n-end
slice_bounds-n-end c = omega (arith, c.half_degree-d.ensures, passes_half c.in_ok-v.ensures)

pub slice_bounds-push_passed-end-2 : goal.slice_bounds-push_passed-end-2
slice_bounds-push_passed-end-2 c = sym (length-take-le _ _ (omega (arith, c.half_degree-d.ensures, passes_half c.in_ok-v.ensures)))

pub push_passed-requires : goal.push_passed-requires
push_passed-requires c =
    let h = c.in_ok-v.ensures in
    let d : c.half_degree-d.result ≡ _ = c.half_degree-d.ensures.0 in record {
      all_yes = (h.all, h.values);
      g_value = (
        ap (λ k. take (k + 1) c.passed.new.g) d ∙ h.g_is,
        ap (λ k. take (2 * k + 2) c.passed.new.n) d ∙ h.n_is,
      );
    }
