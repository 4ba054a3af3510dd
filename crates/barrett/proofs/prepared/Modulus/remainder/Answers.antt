-- `Modulus::remainder` meets its contract: the steps keep the remainder by P, and shifting it back gives that by p. Assumes nothing.
use Rattle.std.proofs.Common.{arith, ◌∙◌}
use Rattle.barrett.specs.Modulus.{prepared, prepared_shift}
use Rattle.barrett.proofs.Steps.{shifted_word, shifted_residue}
use Rattle.barrett.proofs.prepared.Modulus.remainder.Goals as goal

pub overflow_shl-x : goal.overflow_shl-x
overflow_shl-x c = omega (arith, prepared_shift (prepared c.args.self))

pub overflow_shr-result : goal.overflow_shr-result
overflow_shr-result c = omega (arith, prepared_shift (prepared c.args.self))

pub overflow_cast-result-2 : goal.overflow_cast-result-2
overflow_cast-result-2 c =
    let low = c.low in
    let folded = c.folded in
    omega (arith, shifted_word (prepared c.args.self) c.args.x c.requires low.result (low.ensures ∙ folded.ensures.0))

pub returns : goal.returns
returns c =
    let low = c.low in
    let folded = c.folded in
    shifted_residue (prepared c.args.self) c.args.x c.requires low.result (low.ensures ∙ folded.ensures.0)
