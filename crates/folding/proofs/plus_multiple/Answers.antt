-- `folding::plus_multiple` meets its contract. Assumes nothing.
use Rattle.std.proofs.Common.{ap, arith, ◌*◌, ◌+◌, ◌∙◌, ◌≡◌}
use Rattle.zmod.specs.Zmod.{mk, plus, mk_add, mk_mul}
use Rattle.zmod.specs.Residues.{residue_same}
use Rattle.barrett.specs.Modulus.{prepared, prepared_below}
use Rattle.folding.specs.Table.{multiple_fits}
use Rattle.folding.proofs.plus_multiple.Goals as goal

pub overflow_add-from : goal.overflow_add-from
overflow_add-from c =
    let a = c.args in
    let small = prepared_below (prepared a.m) in
    record {
      fits = omega (arith, c.product.ensures, c.from.ensures, small, multiple_fits a.m.p a.x a.c a.y small c.requires.0 c.requires.1 c.requires.2);
    }

pub remainder-requires : goal.remainder-requires
remainder-requires c =
    let a = c.args in
    omega (
      arith,
      c.product.ensures,
      c.from.ensures,
      multiple_fits a.m.p a.x a.c a.y (prepared_below (prepared a.m)) c.requires.0 c.requires.1 c.requires.2,
    )

pub returns : goal.returns
returns c =
    let a = c.args in
    let p = a.m.p in
    let sum : c.from.result + c.product.result ≡ a.x + a.c * a.y = omega (arith, c.product.ensures, c.from.ensures) in
    residue_same (ap (mk p) sum ∙ mk_add p a.x (a.c * a.y) ∙ ap (plus p (mk p a.x)) (mk_mul p a.c a.y)) c.remainder.ensures
