-- `composing::compose_joined` meets its contract. Assumes nothing.
use Rattle.std.proofs.Common.{ap, arith, length-take-le, sym, ◌*◌, ◌+◌, ◌∙◌}
use Rattle.composing.proofs.Kernels.{both_half}
use Rattle.composing.proofs.compose_joined.Goals as goal

pub slice_bounds-g-end : goal.slice_bounds-g-end
slice_bounds-g-end c =
    let d = both_half _ _ _ _ _ c.requires.joined _ _ c.composite_values.ensures c.half_degree-count.ensures.0 in omega (arith, d)

pub slice_bounds-compose_in-end : goal.slice_bounds-compose_in-end
slice_bounds-compose_in-end c =
    let d = both_half _ _ _ _ _ c.requires.joined _ _ c.composite_values.ensures c.half_degree-count.ensures.0 in
    sym (length-take-le _ _ (omega (arith, d)))

pub slice_bounds-n-end : goal.slice_bounds-n-end
slice_bounds-n-end c =
    let d = both_half _ _ _ _ _ c.requires.joined _ _ c.composite_values.ensures c.half_degree-count.ensures.0 in omega (arith, d)

pub slice_bounds-compose_in-end-2 : goal.slice_bounds-compose_in-end-2
slice_bounds-compose_in-end-2 c =
    let d = both_half _ _ _ _ _ c.requires.joined _ _ c.composite_values.ensures c.half_degree-count.ensures.0 in
    sym (length-take-le _ _ (omega (arith, d)))

pub compose_in-requires : goal.compose_in-requires
compose_in-requires c =
    let d = both_half _ _ _ _ _ c.requires.joined _ _ c.composite_values.ensures c.half_degree-count.ensures.0 in
    record {
      joined = c.requires.joined;
      g_len = (
        length-take-le _ _ (omega (arith, d)) ∙ ap (λ d. d + 1) d.0,
        length-take-le _ _ (omega (arith, d)) ∙ omega (arith, ap (λ d. 2 * d + 2) d.0),
        c.requires.room,
      );
    }
