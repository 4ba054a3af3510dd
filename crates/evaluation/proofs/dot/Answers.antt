-- `evaluation::dot` meets its contract. The invariant: s is the sum of the products passed. Assumes nothing.
use Rattle.std.proofs.Common.{ap, arith, get_or, length, rules, ◌*◌, ◌+◌, ◌∙◌, ◌≡◌, ◌≤◌}
use Rattle.zmod.specs.Zmod.{Zmod}
use Rattle.zmod.specs.Residues.{poly}
use Rattle.evaluation.specs.Tables.{weighed}
use Rattle.evaluation.proofs.Words.{small_more, small_all, term_low, weighed_more, weighed_none}
use Rattle.evaluation.proofs.dot.Goals.{After-product-s}
use Rattle.evaluation.proofs.dot.Goals as goal

pub loop-i-init : goal.loop-i-init
loop-i-init c = (search rules, λ p. weighed_none p c.args.a.now c.args.b.now)

-- with the product of this turn
small : (c : After-product-s)
    → let i = c.loop-i.i in
    2 * (c.loop-i.s + c.product-s.result) ≤ (i + 1) * (i + 1 + 1) * 72057593501057025
small c =
    let i = c.loop-i.i in
    small_more i c.loop-i.s c.product-s.result c.loop-i.invariant.0
    (omega (arith, c.product-s.ensures, term_low i (get_or c.args.a.now i 0) (get_or c.args.b.now i 0) (c.requires.reduced.0 i) (c.requires.reduced.1 i)))

pub overflow_add-s : goal.overflow_add-s
overflow_add-s c =
    let loop = c.loop-i in
    omega (arith, small_all (loop.i + 1) (loop.s + c.product-s.result) (omega arith) (small c))

pub loop-i-preserved : goal.loop-i-preserved
loop-i-preserved c =
    let loop = c.loop-i in
    let at = c.args in (
      small c,
      λ p. weighed_more p at.a.now at.b.now loop.i loop.s c.product-s.result c.product-s.ensures (loop.invariant.1 p),
    )

pub returns : goal.returns
returns c =
    let loop = c.loop-i in
    let at = c.args in
    let end : loop.i ≡ length at.a.now = omega arith in record {
      upper_bound = small_all loop.i loop.s (omega arith) loop.invariant.0;
      by_index = λ p. loop.invariant.1 p ∙ ap (weighed (Zmod p) (poly p at.a.now) (poly p at.b.now)) end;
    }
