-- `poly::dot` meets its contract. The invariant: s is the sum of the products passed, each of which is at most the square of 2 ^ 28 - 1.
-- Assumes nothing.
use Rattle.std.proofs.Common.{ap, arith, rules, sym, ◌-◌, ◌∙◌, ◌≡◌, ◌≤◌}
use Rattle.zmod.specs.Zmod.{plus_zero}
use Rattle.poly.specs.Partial.{partial}
use Rattle.rows.specs.Sums.{product_le}
use Rattle.poly.proofs.Sums.{partial_more}
use Rattle.poly.proofs.dot.Goals.{After-product-s}
use Rattle.poly.proofs.dot.Goals as goal

pub loop-i-init : goal.loop-i-init
loop-i-init c = (search rules, λ p. sym (plus_zero p _))

-- the product of this turn
small : (c : After-product-s) → c.product-s.result ≤ 72057593501057025
small c =
    let i = c.loop-i.i in
    omega (arith, c.product-s.ensures, product_le (c.requires.reduced.0 i) (c.requires.reduced.1 (c.args.k - i)))

pub overflow_add-s : goal.overflow_add-s
overflow_add-s c = omega (arith, small c)

pub loop-i-preserved : goal.loop-i-preserved
loop-i-preserved c =
    let at = c.args in
    let loop = c.loop-i in (
      omega (arith, small c),
      λ p. partial_more p at.a.now at.b.now at.k at.from loop.i loop.s c.product-s.result c.product-s.ensures (loop.invariant.1 p),
    )

pub returns : goal.returns
returns c =
    let at = c.args in
    let end : at.to ≡ c.loop-i.i = omega arith in
    record {
      by_index = λ p. ap (partial p at.a.now at.b.now at.k) end ∙ c.loop-i.invariant.1 p;
      upper_bound = omega arith;
    }
