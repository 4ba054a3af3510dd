-- `folding::power_in` meets its contract. The invariant: r is x to the power of p's digits from place i up. Assumes nothing.
use Rattle.std.proofs.Common.{arith, length, refl, subst, ◌%◌, ◌*◌, ◌+◌, ◌-◌, ◌/◌, ◌^◌, ◌≡◌}
use Rattle.series.specs.Series.{conv}
use Rattle.series.specs.Reversal.{shift}
use Rattle.zmod.specs.Zmod.{Zmod}
use Rattle.zmod.specs.Residues.{poly}
use Rattle.barrett.specs.Modulus.{prepared, prepared_below}
use Rattle.modulo.specs.Modulo.{RemainderOf}
use Rattle.modulo.specs.Power.{x_to, power_turn, power_ends}
use Rattle.folding.specs.Table.{Table}
use Rattle.folding.proofs.power_in.Goals as goal

pub prepare-requires : goal.prepare-requires
prepare-requires c =
    (c.requires.p_bound.1, c.requires.r_len.0, c.requires.r_len.1, c.requires.r_len.3)

pub begin-top-requires : goal.begin-top-requires
begin-top-requires c =
    (omega (arith, c.requires.p_bound.2, c.requires.r_len.0), c.requires.p_bound.0, prepared_below (prepared c.args.m))

pub loop-i-init : goal.loop-i-init
loop-i-init c =
    let a = c.args in
    let p = a.m.p in
    let begin = c.begin-top in
    let same : length c.prepare.new.r ≡ length a.g.now - 1 = omega (arith, c.requires.r_len.0) in (
      omega (arith, same),
      refl,
      refl,
      refl,
      subst (λ k. RemainderOf p k (poly p a.g.now) (x_to p (p / 2 ^ begin.result)) begin.new.r) same (begin.ensures.1 (poly p a.g.now)),
    )

pub square_modulo-requires : goal.square_modulo-requires
square_modulo-requires c =
    let a = c.args in
    let inv = c.loop-i.invariant in
    let same : length a.r.now ≡ length c.loop-i.r = omega (arith, c.requires.r_len.0, inv.0) in record {
      bit_bound = (
        omega arith,
        omega (arith, c.requires.p_bound.2, inv.0),
        omega (arith, c.requires.p_bound.3, inv.0),
        omega (arith, c.requires.r_len.5, same, inv.3),
        omega (arith, c.requires.r_len.2, same, inv.1),
        omega (arith, c.requires.r_len.4, same, inv.2),
        subst (λ k. length c.prepare.new.t ≡ k * (k + 3)) same (omega (arith, c.requires.r_len.3)),
      );
      reduced = (inv.4.reduced, c.prepare.ensures.0);
    }

pub loop-i-preserved : goal.loop-i-preserved
loop-i-preserved c =
    let a = c.args in
    let p = a.m.p in
    let g = poly p a.g.now in
    let d = length a.g.now - 1 in
    let t = c.prepare.new.t in
    let loop = c.loop-i in
    let inv = loop.invariant in
    let square = c.square_modulo in
    let s = square.new.r in
    let table : Table p d g d t = subst (λ k. Table p k g k t) c.requires.r_len.0 c.prepare.ensures.1 in
    let bit = (p / 2 ^ (loop.i - 1)) % 2 in
    let f = shift (Zmod p) bit (conv (Zmod p) (poly p loop.r) (poly p loop.r)) in
    let squared : RemainderOf p d g f s = subst (λ k. Table p k g k t → RemainderOf p k g f s) inv.0 (square.ensures g) table in (
      omega (arith, inv.0, square.auto),
      omega (arith, inv.1, square.auto),
      omega (arith, inv.2, square.auto),
      omega (arith, inv.3, square.auto),
      power_turn p d g p loop.i loop.r s (omega (arith, c.loop-i-test)) inv.4 squared,
    )

pub returns : goal.returns
returns c =
    let a = c.args in
    let loop = c.loop-i in
    let p = a.m.p in
    power_ends p (length a.g.now - 1) (poly p a.g.now) p loop.i loop.r (omega arith) loop.invariant.4
