-- `pushing::cubic` meets its contract. Assumes nothing.
use Rattle.pushing.proofs.Elements.{cubic_is}
use Rattle.pushing.proofs.cubic.Goals as goal

pub returns : goal.returns
returns c =
    cubic_is c.args.p c.args.a c.args.b c.args.x c.multiply-square.ensures
    c.add-slope.ensures c.multiply.ensures c.add.ensures
