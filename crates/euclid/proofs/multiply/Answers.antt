-- `euclid::multiply` meets its contract. Assumes nothing.
use Rattle.std.proofs.Common.{ap, arith, ◌∙◌}
use Rattle.zmod.specs.Zmod.{mk, mk_mul}
use Rattle.zmod.specs.Residues.{residue_same}
use Rattle.barrett.specs.Modulus.{prepared, prepared_below}
use Rattle.euclid.specs.Combination.{product_fits}
use Rattle.euclid.proofs.multiply.Goals as goal

pub product-requires : goal.product-requires
product-requires c =
    let small = prepared_below (prepared c.args.m) in
    (omega (arith, small, c.requires.0), omega (arith, small, c.requires.1))

pub short_remainder-requires : goal.short_remainder-requires
short_remainder-requires c =
    let a = c.args in
    omega (arith, c.product.ensures, product_fits a.m.p a.c a.x (prepared_below (prepared a.m)) c.requires.0 c.requires.1)

pub returns : goal.returns
returns c =
    let a = c.args in
    residue_same (ap (mk a.m.p) c.product.ensures ∙ mk_mul a.m.p a.c a.x) c.short_remainder.ensures
