-- `substitution::scale` meets its contract. The invariant: the words before k are stored. Assumes nothing.
use Rattle.std.proofs.Common.{ap, arith, length-set, refl, ◌*◌, ◌∙◌}
use Rattle.slices.specs.Filling.{filled_none, filled_more}
use Rattle.substitution.proofs.scale.Invariants.{Multiple}
use Rattle.substitution.proofs.scale.Goals as goal

pub loop-k-init : goal.loop-k-init
loop-k-init c =
    (refl, filled_none (Multiple c.args.c c.args.a.now) c.args.out.now)

pub loop-k-preserved : goal.loop-k-preserved
loop-k-preserved c =
    let args = c.args in
    let loop = c.loop-k in (
      simp length-set loop.invariant.0,
      filled_more (Multiple args.c args.a.now) loop.out loop.k _ (omega (arith, loop.invariant.0)) loop.invariant.1
          (c.product.ensures ∙ ap (◌*◌ args.c) c.word.ensures),
    )

pub returns : goal.returns
returns c =
    let loop = c.loop-k in
    λ j l. loop.invariant.1 j (omega (arith, loop.invariant.0))
