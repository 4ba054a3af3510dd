-- `Modulus::new` meets its contract: nothing is shifted out. Assumes nothing.
use Rattle.std.proofs.Common.{ap, arith, refl, ◌*◌, ◌-◌, ◌^◌}
use Rattle.barrett.proofs.Shift.{zeros, zeros_least, shift_below, shifted_least, shifted_most}
use Rattle.barrett.proofs.prepared.Modulus.new.Goals as goal

pub overflow_sub-shift : goal.overflow_sub-shift
overflow_sub-shift c = zeros_least c.args.p c.requires.0 c.requires.1

pub overflow_cast-big : goal.overflow_cast-big
overflow_cast-big c = omega (arith, shift_below c.args.p c.requires.0 c.requires.1)

pub overflow_shl-big : goal.overflow_shl-big
overflow_shl-big c = omega (arith, shift_below c.args.p c.requires.0 c.requires.1)

pub nonzero_rem-result : goal.nonzero_rem-result
nonzero_rem-result c =
    let p = c.args.p in
    rw c.from.ensures (omega (arith, shifted_least p c.requires.0 c.requires.1, shifted_most p c.requires.0 c.requires.1))

pub nonzero_div-result : goal.nonzero_div-result
nonzero_div-result c = nonzero_rem-result c

pub invariant_of-result : goal.invariant_of-result
invariant_of-result c =
    let p = c.args.p in
    let least = shifted_least p c.requires.0 c.requires.1 in
    let most = shifted_most p c.requires.0 c.requires.1 in
    rw c.from.ensures (record { shifted = omega arith; at_least = omega arith; below = omega arith; folded = refl; inverted = refl })

pub returns : goal.returns
returns c = refl
