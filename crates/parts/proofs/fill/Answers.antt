-- `parts::fill` meets its contract. The invariant: of each part the coefficients before k are stored, whatever g has these products. Assumes nothing.
use Rattle.std.proofs.Common.{arith, length, length-set, refl, rules, ◌<◌, ◌∙◌, ◌≤◌}
use Rattle.zmod.specs.Residues.{residue_same}
use Rattle.slices.specs.Stored.{stored_none, stored_more}
use Rattle.poly.specs.Stored.{stored_all}
use Rattle.parts.proofs.fill.Goals as goal

-- ── the needs
pub loop-k-init : goal.loop-k-init
loop-k-init c = (refl, refl, refl, λ g products. (stored_none _ _, stored_none _ _, stored_none _ _))

pub linear_part-requires : goal.linear_part-requires
linear_part-requires c = c.requires.reduced.0

pub reduce-requires : goal.reduce-requires
reduce-requires c = omega (arith, c.args.v.ready.prime.least)

pub first_logarithmic_part-requires : goal.first_logarithmic_part-requires
first_logarithmic_part-requires c = c.requires.reduced.1

pub reduce-requires-in-loop-k : goal.reduce-requires-in-loop-k
reduce-requires-in-loop-k c = omega (arith, c.args.v.ready.prime.least)

pub bounds-first-k : goal.bounds-first-k
bounds-first-k c =
    omega (arith, c.loop-k.invariant.0, c.loop-k.invariant.1, c.requires.first_len.0)

pub second_logarithmic_part-requires : goal.second_logarithmic_part-requires
second_logarithmic_part-requires c = c.requires.reduced.2

pub reduce-requires-in-loop-k-2 : goal.reduce-requires-in-loop-k-2
reduce-requires-in-loop-k-2 c = omega (arith, c.args.v.ready.prime.least)

pub bounds-second-k : goal.bounds-second-k
bounds-second-k c =
    omega (arith, c.loop-k.invariant.0, c.loop-k.invariant.2, c.requires.first_len.1)

pub loop-k-preserved : goal.loop-k-preserved
loop-k-preserved c =
    let a = c.args in
    let loop = c.loop-k in
    let k = loop.k in
    let inside : k < length loop.linear = search rules in
    let inside₂ : k < length loop.first = omega (arith, inside, loop.invariant.0, loop.invariant.1, c.requires.first_len.0) in
    let inside₃ : k < length loop.second = omega (arith, inside, loop.invariant.0, loop.invariant.2, c.requires.first_len.1) in (
      length-set loop.linear k c.reduce.result ∙ loop.invariant.0,
      length-set loop.first k c.reduce-in-loop-k.result ∙ loop.invariant.1,
      length-set loop.second k c.reduce-in-loop-k-2.result ∙ loop.invariant.2,
      λ g products.
          let stored = loop.invariant.3 g products in (
            stored_more _ a.linear.now loop.linear k c.reduce.result inside stored.0
                (residue_same (c.linear_part.ensures.result_value g products.square_is.same) c.reduce.ensures),
            stored_more _ a.first.now loop.first k c.reduce-in-loop-k.result inside₂ stored.1
                (residue_same (c.first_logarithmic_part.ensures.result_value g products.slope_is.same) c.reduce-in-loop-k.ensures),
            stored_more _ a.second.now loop.second k c.reduce-in-loop-k-2.result inside₃ stored.2
                (residue_same (c.second_logarithmic_part.ensures.result_value g products.bend_is.same) c.reduce-in-loop-k-2.ensures),
          ),
    )

pub shape_of-linear : goal.shape_of-linear
shape_of-linear c = c.loop-k.invariant.0

pub shape_of-first : goal.shape_of-first
shape_of-first c = c.loop-k.invariant.1

pub shape_of-second : goal.shape_of-second
shape_of-second c = c.loop-k.invariant.2

pub returns : goal.returns
returns c =
    let a = c.args in
    let p = a.v.values.p in
    let loop = c.loop-k in
    λ g products.
    let stored = loop.invariant.3 g products in
    let pos : 0 < p = omega (arith, c.args.v.ready.prime.least) in
    let end : length loop.linear ≤ loop.k = search rules in
    let end₂ : length loop.first ≤ loop.k = omega (arith, end, loop.invariant.0, loop.invariant.1, c.requires.first_len.0) in
    let end₃ : length loop.second ≤ loop.k = omega (arith, end, loop.invariant.0, loop.invariant.2, c.requires.first_len.1) in
    record {
      linear = stored_all p _ a.linear.now loop.linear loop.k pos end stored.0;
      first = stored_all p _ a.first.now loop.first loop.k pos end₂ stored.1;
      second = stored_all p _ a.second.now loop.second loop.k pos end₃ stored.2;
    }
