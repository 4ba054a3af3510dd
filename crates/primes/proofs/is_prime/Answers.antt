-- `primes::is_prime` meets its contract: each run goes on where the one before has ended, until a square is above n.
-- Assumes nothing.
use Rattle.std.proofs.Common.{not, ap, arith}
use Rattle.questions.specs.Tests.{says_no, says_yes, refuted, shown}
use Rattle.trial.specs.Divisors.{Odd}
use Rattle.trial.specs.Primes.{none_below_two, even_prime, prime_undivided, undivided_prime}
use Rattle.primes.proofs.is_prime.Goals as goal

pub returns-then-n-lt2 : goal.returns-then-n-lt2
returns-then-n-lt2 c = says_no (none_below_two c.if-n-lt2.true)

pub returns-then-n-eq0 : goal.returns-then-n-eq0
returns-then-n-eq0 c = even_prime c.args.n c.if-n-lt2.false c.if-n-eq0.true

pub undivided_to_61-requires : goal.undivided_to_61-requires
undivided_to_61-requires c = omega arith

pub returns-then-not-undivided_to_61 : goal.returns-then-not-undivided_to_61
returns-then-not-undivided_to_61 c = says_no (λ P. refuted c.undivided_to_61.ensures (ap not c.if-not-undivided_to_61.true) (prime_undivided 2 64 P))

pub returns-then-n-lt4096 : goal.returns-then-n-lt4096
returns-then-n-lt4096 c =
    let number =
    c.args.n
    in
    let odd : Odd (number) =
    omega (arith, c.if-n-eq0.false)
    in
    says_yes (undivided_prime 64 (number) (odd) (omega arith) (omega arith)
    (shown c.undivided_to_61.ensures (ap not c.if-not-undivided_to_61.false)))

pub undivided_to_1021-requires : goal.undivided_to_1021-requires
undivided_to_1021-requires c = (omega arith, omega arith, shown c.undivided_to_61.ensures (ap not c.if-not-undivided_to_61.false))

pub returns-then-not-undivided_to_1021 : goal.returns-then-not-undivided_to_1021
returns-then-not-undivided_to_1021 c = says_no (λ P. refuted c.undivided_to_1021.ensures (ap not c.if-not-undivided_to_1021.true) (prime_undivided 2 1024 P))

pub returns-then-n-lt1048576 : goal.returns-then-n-lt1048576
returns-then-n-lt1048576 c =
    let number =
    c.args.n
    in
    let odd : Odd (number) =
    omega (arith, c.if-n-eq0.false)
    in
    says_yes (undivided_prime 1024 (number) (odd) (omega arith) (omega arith)
    (shown c.undivided_to_1021.ensures (ap not c.if-not-undivided_to_1021.false)))

pub undivided_to_16381-requires : goal.undivided_to_16381-requires
undivided_to_16381-requires c =
    let number =
    c.args.n
    in
    let odd : Odd (number) =
    omega (arith, c.if-n-eq0.false)
    in
    (odd, omega arith, omega arith, shown c.undivided_to_1021.ensures (ap not c.if-not-undivided_to_1021.false))
