-- `folding::fill_row` meets its contract. Assumes nothing.
use Rattle.std.proofs.Common.{arith, drop, length, length-drop, length-take, subst, ◌*◌, ◌+◌, ◌-◌, ◌≡◌}
use Rattle.modulo.specs.Modulo.{RemainderOf}
use Rattle.modulo.specs.Power.{x_to}
use Rattle.folding.specs.Table.{monic_of, row_inside, next_power, begun_more}
use Rattle.folding.proofs.fill_row.Goals as goal

pub times_x-requires : goal.times_x-requires
times_x-requires c =
    (omega arith, c.requires.i_bound.1, c.requires.begun_table.1.reduced, c.requires.i_bound.3)

pub returns : goal.returns
returns c =
    let a = c.args in
    let d = length a.n.now in
    let at = a.i * d in
    let widened = c.widen in
    let same : length widened.new.out ≡ at + d - at = omega (
      arith,
      length-take (at + d - at) (drop at a.t.now),
      length-drop at a.t.now,
      row_inside d a.i (omega arith),
    ) in (
      begun_more a.m.p a.n.now a.t.now a.i (at + d - at) a.r.now widened.new.out c.requires.i_bound.0 c.requires.i_bound.2 (omega arith) same
          c.requires.begun_table.0 c.requires.begun_table.1 (λ k l. widened.ensures k (omega arith)),
      subst (λ e. RemainderOf a.m.p d (monic_of a.m.p a.n.now) (x_to a.m.p e) c.times_x.new.r) (omega arith)
          (next_power (d + a.i) c.requires.begun_table.1 c.times_x.ensures),
    )
