-- `Modulus::low` meets its contract: the carry is 1 exactly where P is left. Assumes nothing.
use Rattle.std.proofs.Common.{ap, arith, ◌-◌, ◌∙◌}
use Rattle.barrett.proofs.Steps.{carry_le, carry_rest}
use Rattle.barrett.proofs.prepared.Modulus.low.Goals as goal

pub overflow_sub-result : goal.overflow_sub-result
overflow_sub-result c =
    omega (arith, c.product.ensures, carry_le c.args.self.big c.lazy-r.result c.args.self.below c.lazy-r.ensures.1)

pub returns : goal.returns
returns c =
    ap (λ n. c.lazy-r.result - n) c.product.ensures
    ∙ carry_rest c.args.self.big c.lazy-r.result c.args.self.below c.lazy-r.ensures.1 ∙ c.lazy-r.ensures.0
