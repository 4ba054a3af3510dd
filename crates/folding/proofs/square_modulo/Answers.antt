-- `folding::square_modulo` meets its contract. Assumes nothing.
use Rattle.std.proofs.Common.{arith, length, subst}
use Rattle.barrett.specs.Modulus.{prepared, prepared_positive, prepared_below}
use Rattle.modulo.specs.Modulo.{RemainderOf}
use Rattle.folding.specs.Square.{square_whole}
use Rattle.folding.proofs.square_modulo.Goals as goal

pub square_sums-requires : goal.square_sums-requires
square_sums-requires c =
    record {
      bit_bound = (c.requires.bit_bound.0, c.requires.bit_bound.1, c.requires.bit_bound.2, c.requires.bit_bound.3, c.requires.bit_bound.5);
      p_nonzero = (prepared_positive (prepared c.args.m), omega (arith, prepared_below (prepared c.args.m)), c.requires.reduced.0);
    }

pub remainder-requires : goal.remainder-requires
remainder-requires c =
    record {
      r_len_bound = (c.requires.bit_bound.2, omega (arith, c.requires.bit_bound.3), c.requires.bit_bound.4, c.requires.bit_bound.6);
      reduced = (c.requires.reduced.1, c.square_sums.ensures.few);
    }

pub returns : goal.returns
returns c =
    let a = c.args in
    let p = a.m.p in
    λ g table.
    subst (λ f. RemainderOf p (length a.r.now) g f c.remainder.new.r)
    (square_whole p 32 a.bit a.r.now c.square_sums.new.acc c.requires.bit_bound.0 c.requires.bit_bound.1 (omega (arith, c.requires.bit_bound.3))
    c.square_sums.ensures) (c.remainder.ensures g table)
