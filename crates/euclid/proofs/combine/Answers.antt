-- `euclid::combine` meets its contract. The invariant: the coefficients before k are stored, the words from k on are as they were.
-- Assumes nothing.
use Rattle.std.proofs.Common.{ap, ap₂, arith, get_or, sym, ◌∙◌}
use Rattle.zmod.specs.Zmod.{mk, plus, times, mk_combination}
use Rattle.zmod.specs.Residues.{poly_at, residue_same}
use Rattle.barrett.specs.Modulus.{prepared, prepared_positive, prepared_below}
use Rattle.slices.specs.Stored.{stored_none, stored_more, word_kept}
use Rattle.poly.specs.Stored.{stored_all}
use Rattle.euclid.specs.Combination.{product_fits}
use Rattle.euclid.proofs.combine.Goals as goal

pub loop-k-init : goal.loop-k-init
loop-k-init c = stored_none _ _

pub three_products-sum-requires : goal.three_products-sum-requires
three_products-sum-requires c =
    let k = c.loop-k.k in
    let small = prepared_below (prepared c.args.m) in (
      omega (arith, small, c.requires.lt_p.0),
      omega (arith, small, word_kept _ _ _ _ c.loop-k.invariant, c.requires.reduced.0 k),
      omega (arith, small, c.requires.lt_p.1),
      omega (arith, small, c.requires.reduced.1 k),
      omega (arith, small, c.requires.lt_p.2),
      omega (arith, small, c.requires.reduced.2 k),
    )

pub short_remainder-requires : goal.short_remainder-requires
short_remainder-requires c =
    let a = c.args in
    let k = c.loop-k.k in
    let p = a.m.p in
    let small = prepared_below (prepared c.args.m) in
    omega (
      arith,
      c.three_products-sum.ensures,
      product_fits p a.c (get_or c.loop-k.out k 0) small c.requires.lt_p.0 (omega (arith, word_kept _ _ _ _ c.loop-k.invariant, c.requires.reduced.0 k)),
      product_fits p a.y (get_or a.before.now k 0) small c.requires.lt_p.1 (c.requires.reduced.1 k),
      product_fits p a.z (get_or a.here.now k 0) small c.requires.lt_p.2 (c.requires.reduced.2 k),
    )

pub loop-k-preserved : goal.loop-k-preserved
loop-k-preserved c =
    let a = c.args in
    let loop = c.loop-k in
    let p = a.m.p in
    let first = ap (mk p) (word_kept _ _ _ _ loop.invariant) ∙ sym (poly_at p a.out.now loop.k) in
    let second = sym (poly_at p a.before.now loop.k) in
    let third = sym (poly_at p a.here.now loop.k) in
    stored_more _ a.out.now loop.out loop.k c.short_remainder.result (omega (arith, loop.invariant.same_length)) loop.invariant
    (residue_same (ap (mk p) c.three_products-sum.ensures ∙ mk_combination p a.c _ a.y _ a.z _
    ∙ ap₂ (plus p) (ap₂ (λ s t. plus p (times p (mk p a.c) s) (times p (mk p a.y) t)) first second) (ap (times p (mk p a.z)) third))
    c.short_remainder.ensures)

pub returns : goal.returns
returns c =
    let a = c.args in
    let loop = c.loop-k in
    stored_all a.m.p _ a.out.now loop.out loop.k (prepared_positive (prepared a.m)) (omega (arith, loop.invariant.same_length)) loop.invariant
