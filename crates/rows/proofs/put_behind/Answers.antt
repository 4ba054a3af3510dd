-- `rows::put_behind` meets its contract. The invariant: the words before k are stored. Assumes nothing.
use Rattle.std.proofs.Common.{arith, length-set, refl}
use Rattle.slices.specs.Filling.{filled_none, filled_more}
use Rattle.rows.specs.Product.{behind_all}
use Rattle.rows.proofs.put_behind.Invariants.{Behind}
use Rattle.rows.proofs.put_behind.Goals as goal

pub loop-k-init : goal.loop-k-init
loop-k-init c =
    (refl, filled_none (Behind c.args.a.now) c.args.e.now)

pub loop-k-preserved : goal.loop-k-preserved
loop-k-preserved c =
    let loop = c.loop-k in (
      simp length-set loop.invariant.0,
      filled_more (Behind c.args.a.now) loop.e loop.k _ (omega (arith, loop.invariant.0))
          loop.invariant.1 c.behind.ensures,
    )

pub returns : goal.returns
returns c =
    let loop = c.loop-k in
    behind_all c.args.a.now loop.e (omega (arith, c.requires, loop.invariant.0)) (λ j l. loop.invariant.1 j (omega (arith, loop.invariant.0)))
