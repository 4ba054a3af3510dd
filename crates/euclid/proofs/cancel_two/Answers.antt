-- `euclid::cancel_two` meets its contract. Assumes nothing.
use Rattle.std.proofs.Common.{arith, length, length-take, length-take-le, sym, ◌-◌}
use Rattle.zmod.specs.Residues.{reduced_take}
use Rattle.barrett.specs.Modulus.{prepared, prepared_positive}
use Rattle.euclid.specs.Words.{reduced_behind}
use Rattle.euclid.specs.Cancel.{two_cancelled}
use Rattle.euclid.proofs.cancel_two.Goals as goal

pub multiply-c-requires : goal.multiply-c-requires
multiply-c-requires c =
    let last = c.requires.1.reduced (length c.args.b.now - 1) in
    (last, last)

pub negate-requires : goal.negate-requires
negate-requires c =
    c.requires.2 (length c.args.a.now - 1)

pub multiply-y-requires : goal.multiply-y-requires
multiply-y-requires c =
    (c.negate.ensures.below, c.requires.1.reduced (length c.args.b.now - 1))

pub negate-requires-2 : goal.negate-requires-2
negate-requires-2 c =
    c.requires.2 (length c.args.a.now - 1 - 1)

pub two_products-z-requires : goal.two_products-z-requires
two_products-z-requires c =
    let a = c.args in
    let pre = c.requires in
    let d = length a.b.now - 1 in (
      pre.2 (length a.a.now - 1),
      omega (arith, c.second-b0.ensures, reduced_behind a.b.now (prepared_positive (prepared c.args.m)) pre.1.reduced d),
      c.negate-2.ensures.below,
      pre.1.reduced d,
    )

pub slice_bounds-add_multiple-end-2 : goal.slice_bounds-add_multiple-end-2
slice_bounds-add_multiple-end-2 c =
    let a = c.args.a.now in
    sym (length-take-le (length a - 1) a (omega arith))

pub add_multiple-requires : goal.add_multiple-requires
add_multiple-requires c =
    let z = c.two_products-z in
    let y = c.multiply-y in
    let a = c.args in
    let pre = c.requires in
    let k = length a.a.now - 1 in record {
      lt_p = (c.multiply-c.ensures.below, y.ensures.below, z.ensures.below, pre.1.some, omega (arith, pre.3, length-take k a.a.now));
      reduced = (reduced_take a.a.now (prepared_positive (prepared c.args.m)) k pre.2, pre.1.reduced);
    }

pub returns : goal.returns
returns c =
    let part = c.add_multiple in
    let a = c.args in
    let pre = c.requires in
    let front = c.multiply-c in
    let y₀ = c.negate in
    let y = c.multiply-y in
    let z₁ = c.second-b0 in
    let z₀ = c.negate-2 in
    let z = c.two_products-z in
    two_cancelled a.m.p a.a.now a.b.now pre.0 pre.1 front.result y.result z.result y₀.result z₀.result z₁.result
    part.new.a pre.3 front.ensures y₀.ensures.class y.ensures z₁.ensures z₀.ensures.class z.ensures
    (omega (arith, part.auto, length-take (length a.a.now - 1) a.a.now)) pre.2 part.ensures
