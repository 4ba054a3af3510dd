-- `reading::discriminant_of` meets its contract.
-- Assumes nothing.
use Rattle.std.proofs.Common.{ap₂, ◌+◌}
use Rattle.reading.proofs.Singular.{discriminant_is}
use Rattle.reading.proofs.discriminant_of.Goals as goal

pub returns : goal.returns
returns c =
    let a = c.args in
    discriminant_is a.p a.a a.b c.multiply-square.ensures c.multiply-other.ensures
    (ap₂ ◌+◌ c.product.ensures c.product-2.ensures) c.reduce.ensures
