-- `rows::prepare` meets its contract. Assumes nothing.
use Rattle.std.proofs.Common.{length, rules, ◌-◌}
use Rattle.rows.specs.Room.{above_none}
use Rattle.rows.proofs.prepare.Goals as goal

pub returns : goal.returns
returns c =
    let double = c.double in
    let fill = c.fill in
    let a = c.args in
    above_none a.a.now fill.new.self double.new.out (length a.e.now) (length fill.new.self - 3) (fill.ensures.after (λ y e. e)) (search rules) (search
    rules) (search rules)
    double.ensures
