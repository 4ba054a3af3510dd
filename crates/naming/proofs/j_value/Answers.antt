-- `naming::j_value` meets its contract. Assumes nothing.
use Rattle.naming.proofs.JValues.{positive, j_is}
use Rattle.naming.proofs.j_value.Goals as goal

pub inverse-inverse-requires : goal.inverse-inverse-requires
inverse-inverse-requires c =
    record {
      prime = c.requires.prime;
      a_nonzero = (positive c.discriminant_of-divisor.ensures c.requires.nonsingular, c.discriminant_of-divisor.ensures.below);
    }

pub returns : goal.returns
returns c = (
  c.multiply-2.ensures.below,
  j_is c.args.p c.args.a c.args.b c.discriminant_of-divisor.ensures c.inverse-inverse.ensures c.multiply-square.ensures
      c.multiply-cube.ensures c.multiply.ensures c.multiply-dividend.ensures c.multiply-2.ensures,
)
