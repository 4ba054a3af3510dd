-- `poles::sum_of_poles` meets its contract. The invariant: the rows of t and u are two that follow each other.
-- Assumes nothing.
use Rattle.std.proofs.Common.{arith, length, refl, ◌-◌}
use Rattle.barrett.specs.Modulus.{prepared, prepared_below}
use Rattle.poles.specs.Steps.{Sized}
use Rattle.poles.specs.Poles.{running_start, stepped_ended, ended_last, ended_poles}
use Rattle.poles.proofs.sum_of_poles.Goals as goal

pub loop-other-init : goal.loop-other-init
loop-other-init c =
    let a = c.args in
    let rows = c.begin.ensures a.m.p c.requires.prime.0.above_one in
    let kept = c.begin.auto in
    let sized : Sized a.h.now c.begin.new.u (length a.h.now - 1) = record {
      degree = c.requires.prime.1.degree;
      some = c.requires.prime.1.some;
      few = c.requires.prime.1.few;
      words = c.requires.prime.1.words;
      room = omega (arith, c.requires.prime.1.room, kept);
      least = c.requires.prime.1.least;
      most = c.requires.prime.1.most;
    } in (
      omega (arith, kept),
      omega (arith, kept),
      running_start a.m.p a.h.now c.begin.new.t c.begin.new.u c.requires.prime.0.above_one sized
          (omega (arith, kept, c.requires.prime.2)) c.requires.reduced.0 rows.0 rows.1 c.requires.reduced.1 rows.2 rows.3,
    )

pub quotient-requires : goal.quotient-requires
quotient-requires c =
    let a = c.args in
    let end = stepped_ended c.in-None.ensures refl in record {
      prime = (c.requires.prime.0, omega (arith, prepared_below (prepared a.m)), omega (arith, end.size.room, end.size.some), end.low_u);
      nonzero = ended_last a.m.p a.h.now c.step.new.t c.in-Some.other.degree c.requires.prime.0 end;
    }

pub returns-in-None : goal.returns-in-None
returns-in-None c =
    let a = c.args in
    ended_poles a.m.p a.h.now c.step.new.t c.in-Some.other.degree c.requires.prime.0 (stepped_ended c.in-None.ensures refl) c.quotient.result
    c.quotient.ensures

pub quotient-requires-2 : goal.quotient-requires-2
quotient-requires-2 c =
    let a = c.args in
    let end = stepped_ended c.in_default.ensures refl in record {
      prime = (c.requires.prime.0, omega (arith, prepared_below (prepared a.m)), omega (arith, end.size.room, end.size.some), end.low_u);
      nonzero = ended_last a.m.p a.h.now c.loop-other.u c.loop-other.row.degree c.requires.prime.0 end;
    }

pub returns : goal.returns
returns c =
    let a = c.args in
    ended_poles a.m.p a.h.now c.loop-other.u c.loop-other.row.degree c.requires.prime.0 (stepped_ended c.in_default.ensures refl) c.quotient-2.result
    c.quotient-2.ensures
