-- `text::code_of` meets its contract. Assumes nothing.
use Rattle.std.proofs.Common.{ap, arith, cond, le-ltb, lt-ltb, sym, ◌+◌}
use Rattle.text.proofs.code_of.Goals as goal

pub returns-then-digit-lt10 : goal.returns-then-digit-lt10
returns-then-digit-lt10 c =
    let d = c.args.digit in
    sym (ap (λ t. cond t (48 + d) (87 + d)) (lt-ltb d 10 (omega arith)))

pub returns-else-digit-lt10 : goal.returns-else-digit-lt10
returns-else-digit-lt10 c =
    let d = c.args.digit in
    sym (ap (λ t. cond t (48 + d) (87 + d)) (le-ltb d 10 (omega arith)))
