-- `naming::curve_allowed` meets its contract. Assumes nothing.
use Rattle.std.proofs.Common.{not, ap, arith, le_of_lt}
use Rattle.questions.specs.Tests.{refuted, shown}
use Rattle.naming.proofs.Names.{no_prime, a_large, b_large, singular, named}
use Rattle.naming.proofs.curve_allowed.Goals as goal

pub returns-then-not-prime_allowed : goal.returns-then-not-prime_allowed
returns-then-not-prime_allowed c =
    no_prime c.args.p c.args.a c.args.b (refuted c.prime_allowed.ensures (ap not c.if-not-prime_allowed.true))

pub returns-then-p-a : goal.returns-then-p-a
returns-then-p-a c =
    a_large c.args.p c.args.a c.args.b (shown c.prime_allowed.ensures (ap not c.if-not-prime_allowed.false)) (omega (arith, c.if-p-a.true))

pub returns-then-p-b : goal.returns-then-p-b
returns-then-p-b c =
    b_large c.args.p c.args.a c.args.b (shown c.prime_allowed.ensures (ap not c.if-not-prime_allowed.false)) (omega (arith, c.if-p-b.true))

pub nonsingular-requires : goal.nonsingular-requires
nonsingular-requires c =
    let three = shown c.prime_allowed.ensures (ap not c.if-not-prime_allowed.false) in
    (omega (arith, three.least), le_of_lt three.most)

pub returns-then-not-nonsingular : goal.returns-then-not-nonsingular
returns-then-not-nonsingular c =
    singular c.args.p c.args.a c.args.b (shown c.prime_allowed.ensures (ap not c.if-not-prime_allowed.false))
    (omega (arith, c.if-p-a.false)) (omega (arith, c.if-p-b.false))
    (refuted c.nonsingular.ensures (ap not c.if-not-nonsingular.true))

pub returns : goal.returns
returns c =
    let three = shown c.prime_allowed.ensures (ap not c.if-not-prime_allowed.false) in (
      named c.args.p c.args.a c.args.b three (omega (arith, c.if-p-a.false)) (omega (arith, c.if-p-b.false))
          (shown c.nonsingular.ensures (ap not c.if-not-nonsingular.false)),
      tt,
    )
