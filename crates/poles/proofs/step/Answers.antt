-- `poles::step` meets its contract.
-- Assumes nothing.
use Rattle.std.proofs.Common.{List, ap, arith, length, ℕ, ◌-◌, ◌<◌, ◌≤◌}
use Rattle.zmod.specs.Prime.{prime_pos}
use Rattle.zmod.specs.Residues.{Residue, residue_same}
use Rattle.barrett.specs.Modulus.{prepared, prepared_below}
use Rattle.poles.specs.Words.{remainder}
use Rattle.poles.specs.Steps.{Sized}
use Rattle.poles.specs.Poles.{stepped_two, stepped_divided}
use Rattle.poles.proofs.step.Goals as goal

pub coefficient-next-requires-clause-p_nonzero : goal.coefficient-next-requires-clause-p_nonzero
coefficient-next-requires-clause-p_nonzero c =
    let size = c.requires.running.size in
    let high = c.in_ok-first.ensures in (
      prime_pos c.requires.prime,
      omega (arith, prepared_below (prepared c.args.m)),
      omega (arith, size.words, size.room, size.least),
      omega (arith, size.words, size.few, size.least),
      omega (arith, size.words, size.most),
      omega (arith, size.words, size.most, high.1.least, high.1.inside high.0),
    )

-- the coefficient after the highest one
behind : {p d l v : ℕ} {h u : List ℕ} → Sized h u d → 1 ≤ l → l < d → Residue p (remainder p h u (length h - 1 - (length h - l))) v
    → Residue p (remainder p h u (l - 1)) v
behind {p} {d} {l} {v} {h} {u} size some less = residue_same (ap (remainder p h u) (omega (arith, size.words, size.most)))

pub returns-then-below-row : goal.returns-then-below-row
returns-then-below-row c =
    let a = c.args in
    let run = c.requires.running in
    let size = run.size in
    let first = c.in_ok-first.first in
    let high = c.in_ok-first.ensures in
    let next = behind size (omega (arith, size.words, size.some, high.1.least)) (high.1.inside high.0) c.coefficient-next.ensures in (
      high.0,
      record {
        ended = λ e. absurd (omega (arith, high.0, e));
        going = λ _. (
          high.1.inside high.0,
          stepped_two a.m.p a.h.now a.t.now a.u.now a.row.degree a.row.top a.row.next first.degree first.top c.requires.prime run high.1 high.0
              c.coefficient-next.result next c.cancel_two.new.t (omega (arith, c.cancel_two.auto.t)) c.cancel_two.ensures.0 c.if-below-row.true
              c.cancel_two.ensures.1,
        );
      },
    )

pub returns-else-below-row : goal.returns-else-below-row
returns-else-below-row c =
    let a = c.args in
    let run = c.requires.running in
    let size = run.size in
    let first = c.in_ok-first.first in
    let high = c.in_ok-first.ensures in
    let next = behind size (omega (arith, size.words, size.some, high.1.least)) (high.1.inside high.0) c.coefficient-next.ensures in (
      high.0,
      record {
        ended = λ e. absurd (omega (arith, high.0, e));
        going = λ _. (
          high.1.inside high.0,
          stepped_divided a.m.p a.h.now a.t.now a.u.now a.row.degree a.row.top a.row.next first.degree first.top c.requires.prime run high.1 high.0
              c.coefficient-next.result next c.divide.new.t (omega (arith, c.divide.auto.t)) c.divide.ensures.0
              (c.divide.ensures.1 a.row.next run.rows),
        );
      },
    )
