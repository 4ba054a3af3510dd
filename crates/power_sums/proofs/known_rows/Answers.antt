-- `power_sums::known_rows` meets its contract. The invariant: from `from` on acc has what is due once the words before i are known. Assumes nothing.
use Rattle.std.proofs.Common.{arith, rules, subst, ◌+◌, ◌≡◌}
use Rattle.power_sums.specs.Sums.{Due}
use Rattle.power_sums.proofs.known_rows.Goals as goal

pub loop-i-preserved : goal.loop-i-preserved
loop-i-preserved c =
    let loop = c.loop-i in
    let turn = c.sums_rows in (
      search rules,
      omega arith,
      omega (arith, loop.invariant.2),
      omega (arith, c.requires.from_value, loop.invariant.2),
      turn.ensures.by_index_2,
      λ g n h. turn.ensures.due g n (loop.invariant.5 g n h),
    )

pub returns-clause-due : goal.returns-clause-due
returns-clause-due c =
    let a = c.args in
    let loop = c.loop-i in
    let end : loop.i ≡ a.from = omega (arith, loop.invariant.3) in
    λ g n h. subst (Due a.p a.d g loop.acc a.s.now a.from) end (loop.invariant.5 g n h)

pub returns-2-clause-due : goal.returns-2-clause-due
returns-2-clause-due c =
    let a = c.args in
    let loop = c.loop-i in
    let end : loop.i + 4 ≡ a.from = omega (arith, c.requires.from_value, loop.invariant.2, loop.invariant.3) in
    λ g n h. subst (Due a.p a.d g c.sums_rows.new.acc a.s.now a.from) end (c.sums_rows.ensures.due g n (loop.invariant.5 g n h))
