use Rattle.trial.specs.Divisors.{Found}
use Rattle.trial.proofs.by_remainders.Given as goal

abbrev pub invariant-loop-q : goal.invariant-loop-q
invariant-loop-q l = Found l.n l.primes 0 l.q-index l.found
