-- `checking::same_numerator_in` meets its contract. Assumes nothing.
use Rattle.std.proofs.Common.{arith}
use Rattle.questions.specs.Tests.{decides}
use Rattle.promises.specs.Numerators.{whole_numerator}
use Rattle.checking.proofs.same_numerator_in.Goals as goal

pub returns : goal.returns
returns c =
    let v = c.args.v.values in
    let room = c.numerator.new.out in
    decides (c.equal.ensures v.p c.requires.holds_n.0.reduced c.numerator.ensures.reduced)
    (whole_numerator v c.args.v.ready c.args.g.now room c.requires.holds_g (omega arith) c.numerator.ensures)
