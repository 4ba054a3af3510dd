-- `euclid::two_products` meets its contract. Assumes nothing.
use Rattle.std.proofs.Common.{ap, ap₂, arith, ◌*◌, ◌+◌, ◌<◌, ◌^◌, ◌∙◌}
use Rattle.zmod.specs.Zmod.{mk, plus, mk_add, mk_mul}
use Rattle.zmod.specs.Residues.{residue_same}
use Rattle.barrett.specs.Modulus.{prepared, prepared_below}
use Rattle.euclid.specs.Combination.{product_fits}
use Rattle.euclid.proofs.two_products.Goals.{After-product-2}
use Rattle.euclid.proofs.two_products.Goals as goal

pub product-requires : goal.product-requires
product-requires c =
    let small = prepared_below (prepared c.args.m) in
    (omega (arith, small, c.requires.0), omega (arith, small, c.requires.1))

pub product-requires-2 : goal.product-requires-2
product-requires-2 c =
    let small = prepared_below (prepared c.args.m) in
    (omega (arith, small, c.requires.2), omega (arith, small, c.requires.3))

sum_fits : (c : After-product-2) → c.product.result + c.product-2.result < 2 ^ 29 * c.args.m.p
sum_fits c =
    let a = c.args in
    let small = prepared_below (prepared a.m) in
    omega (
      arith,
      c.product-2.ensures,
      c.product.ensures,
      product_fits a.m.p a.c a.x small c.requires.0 c.requires.1,
      product_fits a.m.p a.z a.y small c.requires.2 c.requires.3,
    )

pub overflow_add-product : goal.overflow_add-product
overflow_add-product c = record { fits = omega (arith, sum_fits c, prepared_below (prepared c.args.m)) }

pub short_remainder-requires : goal.short_remainder-requires
short_remainder-requires c = omega (arith, sum_fits c)

pub returns : goal.returns
returns c =
    let a = c.args in
    let p = a.m.p in
    residue_same (ap (mk p) (ap₂ ◌+◌ c.product.ensures c.product-2.ensures) ∙ mk_add p (a.c * a.x) (a.z * a.y)
    ∙ ap₂ (plus p) (mk_mul p a.c a.x) (mk_mul p a.z a.y)) c.short_remainder.ensures
