-- `Modulus::folded` meets its contract: two numbers below 2^28 are multiplied. Assumes nothing.
use Rattle.std.proofs.Common.{ap, arith, ◌%◌, ◌+◌, ◌^◌, ◌∙◌}
use Rattle.barrett.specs.Modulus.{prepared}
use Rattle.barrett.proofs.Steps.{fold_same, fold_word, fold_below}
use Rattle.barrett.proofs.prepared.Modulus.folded.Goals as goal

pub product-requires : goal.product-requires
product-requires c = (omega arith, omega (arith, fold_word (prepared c.args.self) c.args.x))

pub overflow_add-result : goal.overflow_add-result
overflow_add-result c =
    omega (arith, c.product.ensures, fold_below (prepared c.args.self) c.args.x c.ranges.x.fits)

pub returns : goal.returns
returns c =
    let at = c.args in (
      ap (λ n. (n + at.x % 2 ^ 36) % at.self.big) c.product.ensures ∙ fold_same (prepared c.args.self) at.x,
      omega (arith, c.product.ensures, fold_below (prepared c.args.self) at.x c.ranges.x.fits),
    )
