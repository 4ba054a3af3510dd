-- `rules::sum_of_parts` meets its contract. The invariant: the coefficients before k are stored, whatever g has these products. Assumes nothing.
use Rattle.std.proofs.Common.{arith, length-set, rules, ◌∙◌}
use Rattle.slices.specs.Stored.{stored_more}
use Rattle.poly.specs.Stored.{stored_all}
use Rattle.rules.proofs.sum_of_parts.Goals as goal

pub loop-k-preserved : goal.loop-k-preserved
loop-k-preserved c =
    let loop = c.loop-k in
    let out₀ = c.args.out.now in (
      length-set loop.out loop.k c.coefficient.result ∙ loop.invariant.0,
      λ g products. stored_more _ out₀ loop.out loop.k c.coefficient.result (search rules) (loop.invariant.1 g products)
          (c.coefficient.ensures g products),
    )

pub returns : goal.returns
returns c =
    let loop = c.loop-k in
    λ g products. stored_all c.args.v.values.p _ c.args.out.now loop.out loop.k (omega (arith, c.args.v.ready.prime.least)) (search rules)
    (loop.invariant.1 g products)
