-- `evaluation::slope` meets its contract. Assumes nothing.
use Rattle.std.proofs.Common.{ap, arith, get_or, sym, zero-mul, ◌*◌, ◌-◌, ◌∙◌}
use Rattle.evaluation.proofs.Words.{product_le}
use Rattle.evaluation.proofs.slope.Goals as goal

pub returns-then-i-eq0 : goal.returns-then-i-eq0
returns-then-i-eq0 c = sym (ap (λ i. i * get_or c.args.powers.now (c.args.i - 1) 0) c.if-i-eq0.true ∙ zero-mul _)

pub overflow_mul-result : goal.overflow_mul-result
overflow_mul-result c =
    let at = c.args in
    record {
      fits =
          omega (
            arith,
            c.requires.2 (at.i - 1),
            product_le {x = at.i} {y = get_or at.powers.now (at.i - 1) 0} {m = 16} {n = 268435455} (omega arith)
                (omega (arith, c.requires.2 (at.i - 1))),
          );
    }
