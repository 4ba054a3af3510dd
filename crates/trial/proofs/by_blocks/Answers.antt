-- `trial::by_blocks` meets its contract. The invariant: i is 171 and a whole number of blocks, and none of the first i entries divides n.
-- Assumes nothing.
use Rattle.std.proofs.Common.{arith}
use Rattle.questions.specs.Tests.{says_no, says_yes}
use Rattle.trial.specs.Primes.{undivided_prime}
use Rattle.trial.specs.Runs.{missed_more, missed_undivided, missed_prime, found_composite}
use Rattle.trial.proofs.by_blocks.Goals as goal

pub returns-then-n-q : goal.returns-then-n-q
returns-then-n-q c =
    let root = rw c.from-q.ensures at c.if-n-q.true in
    says_yes (missed_prime c.requires.whole.primes c.requires.odd.0 (omega arith) c.loop-i.i (omega arith) root c.loop-i.invariant.2)

pub returns-then-by_half_products-ne0 : goal.returns-then-by_half_products-ne0
returns-then-by_half_products-ne0 c =
    says_no (found_composite c.requires.whole.primes (omega arith) c.by_half_products.ensures c.if-by_half_products-ne0.true)

pub loop-i-preserved : goal.loop-i-preserved
loop-i-preserved c =
    let table = c.requires.whole.primes in
    (omega arith, omega arith, missed_more table c.loop-i.invariant.2 c.by_half_products.ensures c.if-by_half_products-ne0.false)

pub returns : goal.returns
returns c =
    let undivided = missed_undivided c.requires.whole.primes (λ j l. c.loop-i.invariant.2 j (omega arith)) in
    says_yes (undivided_prime 16384 c.args.n c.requires.odd.0 (omega arith) (omega arith) undivided)
