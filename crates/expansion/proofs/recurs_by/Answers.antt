-- `expansion::recurs_by` meets its contract. The invariant: the recurrence holds before k, and y and z are the multiples of A and B for k. Assumes nothing.
use Rattle.std.proofs.Common.{not, ap, arith, below_more, ◌*◌, ◌+◌, ◌-◌}
use borrow.Author.Tests.{not-false}
use Rattle.sheet.specs.Values.{question}
use Rattle.expansion.specs.Multiple.{both, twice, multiple}
use Rattle.expansion.proofs.recurs_by.Goals as goal

pub loop-k-init : goal.loop-k-init
loop-k-init c =
    let a = c.args in
    let v = a.v.values in (
      (λ j l m. absurd (omega arith)),
      multiple (2 * a.from - 3) v.a c.multiply-y.result c.multiply-y.ensures,
      multiple (2 * a.from - 6) v.b c.multiply-z.result c.multiply-z.ensures,
    )

pub loop-k-preserved : goal.loop-k-preserved
loop-k-preserved c =
    let v = c.args.v.values in
    let at = c.loop-k in
    let found = c.recurs_at in (
      below_more _ _ at.invariant.0 (λ l. found.ensures.0 (not-false found.result (ap not c.if-not-recurs_at.false))),
      both (question v).A (2 * at.k - 3) 2 (2 * (at.k + 1) - 3) (omega arith) at.invariant.1 (twice (question v).A c.add-a.ensures)
          c.add-y.ensures,
      both (question v).B (2 * at.k - 6) 2 (2 * (at.k + 1) - 6) (omega arith) at.invariant.2 (twice (question v).B c.add-b.ensures)
          c.add-z.ensures,
    )
