-- `poles::dot` meets its contract. The invariant: s is the sum of the products passed, each of which is at most the square of 2 ^ 28 - 1.
-- Assumes nothing.
use Rattle.std.proofs.Common.{ap, arith, get_or, length, rules, ◌*◌, ◌∙◌, ◌≡◌, ◌≤◌}
use Rattle.rows.specs.Sums.{product_le}
use Rattle.poles.specs.Words.{correlation, correlation_none, correlation_more}
use Rattle.poles.proofs.dot.Goals.{After-product-s}
use Rattle.poles.proofs.dot.Goals as goal

pub loop-i-init : goal.loop-i-init
loop-i-init c = (search rules, λ p. correlation_none p _ _)

pub product-s-requires : goal.product-s-requires
product-s-requires c =
    (omega (arith, c.requires.reduced.0 c.loop-i.i), omega (arith, c.from.ensures, c.requires.reduced.1 c.loop-i.i))

-- the product of this turn
product_is : (c : After-product-s) →
    let a = c.args in
    c.product-s.result ≡ get_or a.t.now c.loop-i.i 0 * get_or a.h.now c.loop-i.i 0
product_is c =
    c.product-s.ensures ∙ ap (λ x. get_or c.args.t.now c.loop-i.i 0 * x) c.from.ensures

small : (c : After-product-s) → c.product-s.result ≤ 72057593501057025
small c =
    omega (arith, product_is c, product_le (c.requires.reduced.0 c.loop-i.i) (c.requires.reduced.1 c.loop-i.i))

pub overflow_add-s : goal.overflow_add-s
overflow_add-s c = omega (arith, small c, c.loop-i.invariant.0, c.requires.t_in_bounds.1)

pub loop-i-preserved : goal.loop-i-preserved
loop-i-preserved c =
    let a = c.args in (
      omega (arith, small c, c.loop-i.invariant.0),
      λ p. correlation_more p a.t.now a.h.now c.loop-i.i c.loop-i.s c.product-s.result
          (product_is c) (c.loop-i.invariant.1 p),
    )

pub returns : goal.returns
returns c =
    let a = c.args in
    let end : c.loop-i.i ≡ length a.t.now = omega arith in
    λ p. c.loop-i.invariant.1 p ∙ ap (correlation p a.t.now a.h.now) end
