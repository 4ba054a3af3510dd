use Rattle.trial.specs.Divisors.{Found}
use Rattle.trial.proofs.by_half_products.Given as goal

abbrev pub invariant-loop-j : goal.invariant-loop-j
invariant-loop-j l = Found l.n l.primes l.from l.j l.found
