-- `modulo::begin` meets its contract. Assumes nothing.
use Rattle.std.proofs.Common.{length, replicate, rules, set, subst, sym, ◌/◌, ◌^◌, ◌≡◌}
use Rattle.modulo.specs.Modulo.{RemainderOf}
use Rattle.modulo.specs.Power.{x_to, power_begins}
use Rattle.modulo.proofs.begin.Goals as goal

pub returns : goal.returns
returns c =
    let a = c.args in
    let i = c.leading_below-i.result in
    let n = length a.r.now in
    let cleared : c.fill.new.self ≡ replicate n 0 = search rules in (
      c.leading_below-i.ensures.0,
      λ g.
          subst (λ l. RemainderOf a.p n g (x_to a.p (a.p / 2 ^ i)) (set l (a.p / 2 ^ i) 1)) (sym cleared)
          (power_begins a.p n (a.p / 2 ^ i) c.requires.1 c.leading_below-i.ensures.1 g),
    )
