-- `field::inverse_by_euclid` meets its contract. The measure is the smaller remainder. Assumes nothing.
use Rattle.field.proofs.Euclid.{start, next, found}
use Rattle.field.proofs.inverse_by_euclid.Goals.{In-loop-y}
use Rattle.field.proofs.inverse_by_euclid.Goals as goal

pub loop-y-init : goal.loop-y-init
loop-y-init c = start c.args.a c.requires.prime c.requires.a_nonzero.0 c.requires.a_nonzero.1

pub loop-y-preserved : goal.loop-y-preserved
loop-y-preserved c = next c.requires.prime c.loop-y.invariant c.loop-y-test.true

pub returns : goal.returns
returns c =
    let loop = c.loop-y in
    found c.requires.prime loop.invariant c.loop-y-test.false c.multiply.ensures
