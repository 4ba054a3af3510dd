-- `evaluation::step` meets its contract. Assumes nothing.
use Rattle.std.proofs.Common.{List, arith, get_or, length, sym, ℕ, ◌*◌, ◌+◌, ◌<◌, ◌^◌, ◌≡◌, ◌≤◌}
use Rattle.zmod.specs.Residues.{poly_at, residue_same}
use Rattle.evaluation.specs.Tables.{Low}
use Rattle.evaluation.proofs.Words.{factor_low, product_more}
use Rattle.evaluation.proofs.step.Goals as goal

-- a product of a table's word with a residue
low : (xs : List ℕ) (n m y : ℕ) → n ≡ get_or xs m 0 * y → m ≤ 16 → Low xs → y < 2 ^ 28 → n ≤ 17 * 72057593501057025
low xs n m y e h table residue = omega (arith, e, factor_low m (get_or xs m 0) y h (table m) residue)

pub overflow_add-value : goal.overflow_add-value
overflow_add-value c =
    let first = low _ _ _ _ c.product.ensures c.requires.a_len_bound.0 c.requires.reduced.1 (omega (arith, c.requires.p_nonzero)) in
    omega (arith, first, c.dot.ensures.upper_bound)

pub overflow_add-slope : goal.overflow_add-slope
overflow_add-slope c =
    let second = low _ _ _ _ c.product-2.ensures c.requires.a_len_bound.0 c.requires.reduced.1 (omega (arith, c.requires.p_nonzero)) in
    omega (arith, second, c.dot-2.ensures.upper_bound)

pub overflow_add-slope-2 : goal.overflow_add-slope-2
overflow_add-slope-2 c =
    let second = low _ _ _ _ c.product-2.ensures c.requires.a_len_bound.0 c.requires.reduced.1 (omega (arith, c.requires.p_nonzero)) in
    let third = low _ _ _ _ c.product-3.ensures c.requires.a_len_bound.0 c.requires.reduced.2 (omega (arith, c.requires.p_nonzero)) in
    omega (arith, third, second, c.dot-2.ensures.upper_bound)

pub returns : goal.returns
returns c =
    let at = c.args in
    let p = at.p in
    let m = length at.a.now in
    let value = c.dot.result in
    let slope = c.dot-2.result in
    let x = get_or at.powers.now m 0 in
    let is_x = sym (poly_at p at.powers.now m) in
    record {
      value_is =
          residue_same (product_more p value c.product.result x at.above.value (c.dot.ensures.by_index p) is_x c.product.ensures)
          c.reduce.ensures;
      slope_is =
          residue_same
          (product_more p (slope + c.product-2.result) c.product-3.result (get_or at.slopes.now m 0) at.above.value
          (product_more p slope c.product-2.result x at.above.slope (c.dot-2.ensures.by_index p) is_x c.product-2.ensures)
          (sym (poly_at p at.slopes.now m)) c.product-3.ensures)
          c.reduce-2.ensures;
    }
