-- `pushing::image_in` meets its contract. Assumes nothing.
use Rattle.std.proofs.Common.{arith, rules}
use Rattle.zmod.specs.Zmod.{mk}
use Rattle.pushing.proofs.Images.{to_infinity, to_point}
use Rattle.pushing.proofs.image_in.Goals as goal

pub evaluate-gx-requires : goal.evaluate-gx-requires
evaluate-gx-requires c =
    let filled = c.tables.ensures in
    record {
      a_in_bounds = (search rules, search rules);
      reduced = (λ i. omega (arith, c.requires.holds.0.reduced i, c.args.v.ready.prime), filled.powers_low, filled.slopes_low);
      p_nonzero = search rules;
    }

pub returns-then-gx-eq0 : goal.returns-then-gx-eq0
returns-then-gx-eq0 c =
    let at_g = c.evaluate-gx.ensures (mk c.args.v.values.p c.args.x) c.tables.ensures in
    let a = c.args in
    to_infinity a.v.values a.v.ready a.g.now a.n.now c.requires.holds.0.count c.requires.holds.1.count a.x a.y c.evaluate-gx.result at_g
    c.if-gx-eq0.true

pub evaluate-nx-requires : goal.evaluate-nx-requires
evaluate-nx-requires c =
    let filled = c.tables.ensures in
    record {
      a_in_bounds = (search rules, search rules);
      reduced = (λ i. omega (arith, c.requires.holds.1.reduced i, c.args.v.ready.prime), filled.powers_low, filled.slopes_low);
      p_nonzero = search rules;
    }

pub slope-requires : goal.slope-requires
slope-requires c =
    let at_g = c.evaluate-gx.ensures (mk c.args.v.values.p c.args.x) c.tables.ensures in
    let at_n = c.evaluate-nx.ensures (mk c.args.v.values.p c.args.x) c.tables.ensures in
    (omega (arith, c.args.v.ready.prime), at_g.value_is.below, at_g.slope_is.below, at_n.value_is.below, at_n.slope_is.below)

pub inverse_by_euclid-i-requires : goal.inverse_by_euclid-i-requires
inverse_by_euclid-i-requires c =
    let at_g = c.evaluate-gx.ensures (mk c.args.v.values.p c.args.x) c.tables.ensures in
    record {
      prime = c.args.v.ready.prime.prime;
      a_nonzero = (omega (arith, c.if-gx-eq0.false), at_g.value_is.below);
    }

pub shape_of-powers : goal.shape_of-powers
shape_of-powers c = omega (arith, c.tables.auto)

pub returns : goal.returns
returns c =
    let at_g = c.evaluate-gx.ensures (mk c.args.v.values.p c.args.x) c.tables.ensures in
    let at_n = c.evaluate-nx.ensures (mk c.args.v.values.p c.args.x) c.tables.ensures in
    let a = c.args in
    to_point a.v.values a.v.ready a.g.now a.n.now c.requires.holds.0.count c.requires.holds.1.count a.x a.y c.evaluate-gx.result
    at_g c.evaluate-nx.result c.if-gx-eq0.false at_n c.slope.ensures
    c.multiply-w.ensures c.inverse_by_euclid-i.ensures c.multiply-square.ensures
    c.multiply-u.ensures c.multiply-t.ensures c.multiply.ensures
