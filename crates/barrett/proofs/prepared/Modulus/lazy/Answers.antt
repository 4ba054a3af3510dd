-- `Modulus::lazy` meets its contract: it takes a multiple of P away that is near. Assumes nothing.
use Rattle.std.proofs.Common.{ap, arith, ◌%◌, ◌*◌, ◌-◌, ◌/◌, ◌^◌, ◌∙◌, ◌≡◌}
use Rattle.barrett.specs.Modulus.{prepared}
use Rattle.barrett.proofs.Steps.{inverse_word, quotient, quotient_le, quotient_ge, quotient_same}
use Rattle.barrett.proofs.prepared.Modulus.lazy.Goals.{After-product}
use Rattle.barrett.proofs.prepared.Modulus.lazy.Goals as goal

pub product-q-requires : goal.product-q-requires
product-q-requires c = (omega arith, omega (arith, inverse_word (prepared c.args.self)))

-- what is subtracted
multiple : (c : After-product) →
    c.product.result ≡ quotient (prepared c.args.self) c.args.y c.requires * c.args.self.big
multiple c = c.product.ensures ∙ ap (λ n. n / 2 ^ 33 * c.args.self.big) c.product-q.ensures

pub overflow_sub-result : goal.overflow_sub-result
overflow_sub-result c =
    omega (arith, multiple c, quotient_le (prepared c.args.self) c.args.y c.requires)

pub returns : goal.returns
returns c =
    let at = c.args in (
      ap (λ n. (at.y - n) % at.self.big) (multiple c) ∙ quotient_same (prepared c.args.self) at.y c.requires,
      omega (arith, multiple c, quotient_ge (prepared c.args.self) at.y c.requires),
    )
