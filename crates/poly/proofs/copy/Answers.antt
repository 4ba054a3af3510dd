-- `poly::copy` meets its contract. Assumes nothing.
use Rattle.std.proofs.Common.{ap, arith, sym, ◌∙◌}
use Rattle.zmod.specs.Zmod.{mk}
use Rattle.zmod.specs.Residues.{poly, poly_at, residues_filled}
use Rattle.poly.proofs.Laws.{copied}
use Rattle.poly.proofs.copy.Goals as goal

pub returns : goal.returns
returns c =
    let a = c.args.a.now in
    let zeros = c.fill.ensures.after (λ y e. e) in
    λ p low. residues_filled {a = poly p a} (omega (arith, low 0)) (λ j l.
    let e = copied a c.copy_from_slice.new.self c.fill.new.self _ c.min-n.result j c.min-n.ensures c.copy_from_slice.ensures.after zeros l in
    record { below = omega (arith, e, low j); class = ap (mk p) e ∙ sym (poly_at p a j) })
