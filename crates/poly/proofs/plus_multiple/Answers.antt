-- `poly::plus_multiple` meets its contract. Assumes nothing.
use Rattle.std.proofs.Common.{ap, ap₂, arith, rules, ◌*◌, ◌+◌, ◌∙◌}
use Rattle.zmod.specs.Zmod.{mk, plus, mk_add, mk_mul}
use Rattle.zmod.specs.Residues.{residue_same}
use Rattle.poly.proofs.Laws.{word_product}
use Rattle.poly.proofs.plus_multiple.Goals as goal

pub overflow_add-from : goal.overflow_add-from
overflow_add-from c =
    let at = c.args in
    record { fits = omega (arith, word_product {x = at.x} {y = at.c} {z = at.y} (search rules) (search rules) (search rules)) }

pub returns : goal.returns
returns c =
    let at = c.args in
    residue_same
    (ap₂ (λ m n. mk at.p (m + n)) c.from.ensures c.product.ensures
    ∙ mk_add at.p at.x (at.c * at.y) ∙ ap (plus at.p (mk at.p at.x)) (mk_mul at.p at.c at.y))
    c.reduce.ensures
