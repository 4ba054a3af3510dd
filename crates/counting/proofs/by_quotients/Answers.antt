-- `counting::by_quotients` meets its contract. Assumes nothing.
use Rattle.std.proofs.Common.{List, arith, drop, length, length-take, length-take-le, replicate, take, take_at, ℕ, ◌++◌, ◌-◌, ◌≡◌}
use Rattle.std.proofs.lemmas.List.{length-replicate}
use Rattle.counting.proofs.by_quotients.Goals as goal

pub from_power-requires-clause-r_len : goal.from_power-requires-clause-r_len
from_power-requires-clause-r_len g c =
    let d = length c.args.g.now - 1 in
    let blank : List ℕ = replicate g.row.K 0 in
    let size : length (take d blank) ≡ d = length-take-le d blank (simp length-replicate (omega (arith, c.requires))) in
    let r = c.power_of_x.new.r in
    let long : length r ≡ d = omega (arith, c.power_of_x.auto, size) in
    let front : take d (r ++ drop d blank) ≡ r = take_at r (drop d blank) d long in
    rw front (
      omega (arith, long, c.requires),
      simp (length-take, length-replicate) (omega (arith, c.requires)),
      simp (length-take, length-replicate) (omega (arith, long, c.requires)),
      c.power_of_x.ensures,
    )
