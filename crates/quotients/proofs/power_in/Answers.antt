-- `quotients::power_in` meets its contract. The invariant: r is x to the power of p's digits from place i up. Assumes nothing.
use Rattle.std.proofs.Common.{arith, length, rules, subst, ◌-◌, ◌/◌, ◌^◌, ◌≡◌}
use Rattle.zmod.specs.Residues.{poly}
use Rattle.barrett.specs.Modulus.{prepared, prepared_below}
use Rattle.modulo.specs.Modulo.{RemainderOf}
use Rattle.modulo.specs.Power.{x_to, power_turn, power_ends}
use Rattle.quotients.proofs.power_in.Goals as goal

pub prepare-requires : goal.prepare-requires
prepare-requires c =
    let pre = c.requires.p_bound in
    let long = c.requires.r_len in
    (pre.1, omega (arith, prepared_below (prepared c.args.m)), pre.0, omega (arith, pre.3), long.6, long.7, long.1, long.2)

pub begin-first-requires : goal.begin-first-requires
begin-first-requires c =
    (omega (arith, c.requires.p_bound.2, c.requires.r_len.0), c.requires.p_bound.1, prepared_below (prepared c.args.m))

pub loop-i-init : goal.loop-i-init
loop-i-init c =
    let a = c.args in
    let p = a.m.p in
    let g = poly p a.g.now in
    let d : length a.r.now ≡ length a.g.now - 1 = omega (arith, c.requires.r_len.0) in
    let begun = c.begin-first in (
      omega (arith, c.requires.r_len.0, begun.auto),
      search rules,
      search rules,
      search rules,
      omega (arith, c.requires.r_len.6, c.prepare.auto),
      omega (arith, c.requires.r_len.7, c.prepare.auto),
      subst (λ n. RemainderOf p n g (x_to p (p / 2 ^ begun.result)) begun.new.r) d (begun.ensures.1 g),
    )

pub square_modulo-requires : goal.square_modulo-requires
square_modulo-requires c =
    let loop = c.loop-i in
    let inv = loop.invariant in record {
      p_bound = (c.requires.p_bound.1, c.requires.p_bound.0, c.prepare.ensures, inv.0, inv.6.reduced, search rules);
      g_len_bound = (
        c.requires.p_bound.3,
        omega (arith, c.requires.r_len.3, inv.1),
        omega (arith, c.requires.r_len.4, inv.3),
        omega (arith, c.requires.r_len.5, inv.2, inv.3),
        inv.4,
        inv.5,
        c.requires.p_bound.2,
      );
    }

pub loop-i-preserved : goal.loop-i-preserved
loop-i-preserved c =
    let a = c.args in
    let loop = c.loop-i in
    let inv = loop.invariant in
    let square = c.square_modulo in
    let p = a.m.p in
    let d = length a.g.now - 1 in (
      omega (arith, inv.0, square.auto),
      omega (arith, inv.1, square.auto),
      omega (arith, inv.2, square.auto),
      omega (arith, inv.3, square.auto),
      omega (arith, inv.4, square.auto),
      omega (arith, inv.5, square.auto),
      power_turn p d (poly p a.g.now) p loop.i loop.r square.new.r (omega (arith, c.loop-i-test)) inv.6 square.ensures,
    )

pub returns : goal.returns
returns c =
    let a = c.args in
    let loop = c.loop-i in
    let p = a.m.p in
    power_ends p (length a.g.now - 1) (poly p a.g.now) p loop.i loop.r (omega (arith, c.loop-i-test)) loop.invariant.6
