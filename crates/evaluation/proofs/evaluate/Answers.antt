-- `evaluation::evaluate` meets its contract. The invariant: r has the values of the coefficients behind those that are left. Assumes nothing.
use Rattle.std.proofs.Common.{ap, arith, length, rules, subst, sym, ◌+◌, ◌∙◌, ◌≡◌}
use Rattle.std.specs.Slice.Iter.{rchunks_rest, rchunks_size}
use Rattle.zmod.specs.Residues.{poly, poly_past}
use Rattle.evaluation.proofs.Words.{Front, front_all, front_left, sizes, block_reduced, block_poly}
use Rattle.evaluation.proofs.Upper.{upper_none, upper_more, upper_all}
use Rattle.evaluation.proofs.evaluate.Goals as goal

pub loop-block-init : goal.loop-block-init
loop-block-init c =
    let a = c.args.a.now in
    let same = c.into_iter-block-iterator.ensures.into_iter_gives in
    let rest : rchunks_rest c.into_iter-block-iterator.result ≡ a = ap rchunks_rest same ∙ c.rchunks-block-items.ensures.rest in (
      ap rchunks_size same ∙ c.rchunks-block-items.ensures.size,
      subst (Front a) (sym rest) (front_all a),
      search rules,
      search rules,
      λ u t. rw rest (upper_none c.args.p (poly c.args.p a) (length a) u (search rules)),
    )

pub step-r-requires : goal.step-r-requires
step-r-requires c =
    let front = c.loop-block.invariant.1 in
    let steps = c.in-Some.ensures.steps in record {
      a_len_bound = (
        omega (arith, steps.1.1, c.loop-block.invariant.0),
        omega (arith, steps.1.1, c.loop-block.invariant.0, front.fits, c.requires.a_in_bounds.0),
        omega (arith, steps.1.1, c.loop-block.invariant.0, front.fits, c.requires.a_in_bounds.1),
      );
      reduced = (block_reduced c.args.a.now _ _ _ front steps.1.0 c.requires.reduced.0, c.requires.reduced.1, c.requires.reduced.2);
      p_nonzero = search rules;
    }

pub loop-block-preserved : goal.loop-block-preserved
loop-block-preserved c =
    let a = c.args.a.now in
    let p = c.args.p in
    let inv = c.loop-block.invariant in
    let steps = c.in-Some.ensures.steps in
    let rest = rchunks_rest c.loop-block.block-iterator in
    let left = rchunks_rest c.next.new.self in
    let block = c.in-Some.block.now in
    let size : length rest ≡ length left + length block = sizes a rest left block inv.1 steps.1.0 in (
      steps.0 ∙ inv.0,
      front_left a rest left block inv.1 steps.1.0,
      c.step-r.ensures.value_is.below,
      c.step-r.ensures.slope_is.below,
      λ u t.
          upper_more p (poly p a) (length a) u (poly_past p a) (length left) (length rest) block c.args.powers.now c.args.slopes.now c.loop-block.r
          c.step-r.result (omega (arith, size)) inv.1.fits (omega (arith, size)) (block_poly a rest left block inv.1 steps.1.0 p)
          (omega (arith, steps.1.1, inv.0, inv.1.fits, c.requires.a_in_bounds.0)) (omega (arith, steps.1.1, inv.0, inv.1.fits, c.requires.a_in_bounds.1)) t
          (inv.4 u t) c.step-r.ensures,
    )

pub returns : goal.returns
returns c u t =
    let end : length (rchunks_rest c.loop-block.block-iterator) ≡ 0 = c.in-None.ensures.steps.1.0 in
    upper_all c.args.p c.args.a.now u c.loop-block.r (rw end at (c.loop-block.invariant.4 u t))
