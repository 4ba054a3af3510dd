-- `Modulus::short_remainder` meets its contract: the shifted number is small enough as it is. Assumes nothing.
use Rattle.std.proofs.Common.{arith}
use Rattle.barrett.specs.Modulus.{prepared, prepared_shift}
use Rattle.barrett.proofs.Steps.{shifted_short, shifted_residue}
use Rattle.barrett.proofs.prepared.Modulus.short_remainder.Goals as goal

pub overflow_shl-x : goal.overflow_shl-x
overflow_shl-x c = omega (arith, prepared_shift (prepared c.args.self))

pub low-requires : goal.low-requires
low-requires c =
    shifted_short (prepared c.args.self) c.args.x c.requires

pub overflow_shr-result : goal.overflow_shr-result
overflow_shr-result c = omega (arith, prepared_shift (prepared c.args.self))

pub returns : goal.returns
returns c =
    let low = c.low in
    shifted_residue (prepared c.args.self) c.args.x (omega arith) low.result low.ensures
