-- `folding::shift_up` meets its contract. The invariant: each word before k is the one before it, and c is the one before k. Assumes nothing.
use Rattle.std.proofs.Common.{add-one, ap, arith, get_or, refl, sym, ◌∙◌, ◌∷◌}
use Rattle.slices.specs.Stored.{stored_none, stored_more, word_kept}
use Rattle.folding.specs.Table.{before_all}
use Rattle.folding.proofs.shift_up.Goals as goal

pub loop-k-init : goal.loop-k-init
loop-k-init c = (refl, stored_none _ _)

pub loop-k-preserved : goal.loop-k-preserved
loop-k-preserved c =
    let loop = c.loop-k in
    let r₀ = c.args.r.now in (
      word_kept _ _ _ _ loop.invariant.1 ∙ ap (λ n. get_or (0 ∷ r₀) n 0) (sym (add-one loop.k)),
      stored_more _ r₀ loop.r loop.k loop.c (omega (arith, loop.invariant.1.same_length)) loop.invariant.1 loop.invariant.0,
    )

pub returns : goal.returns
returns c =
    let loop = c.loop-k in
    λ p low. before_all p c.args.r.now loop.r loop.k (omega (arith, loop.invariant.1.same_length)) loop.invariant.1 low
