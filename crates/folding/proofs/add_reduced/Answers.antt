-- `folding::add_reduced` meets its contract. The invariant: the coefficients before k are stored, the words from k on are as they were. Assumes nothing.
use Rattle.std.proofs.Common.{ap, ap₂, arith, sym, ◌∙◌}
use Rattle.zmod.specs.Zmod.{mk, plus, times}
use Rattle.zmod.specs.Residues.{poly_at, residue_same}
use Rattle.barrett.specs.Modulus.{prepared, prepared_positive}
use Rattle.slices.specs.Stored.{stored_none, stored_more, word_kept}
use Rattle.poly.specs.Stored.{stored_all}
use Rattle.folding.proofs.add_reduced.Goals as goal

pub loop-k-init : goal.loop-k-init
loop-k-init c = stored_none _ _

pub plus_multiple-requires : goal.plus_multiple-requires
plus_multiple-requires c =
    let loop = c.loop-k in
    (omega (arith, word_kept _ _ _ _ loop.invariant, c.requires.reduced.0 loop.k), c.requires.len_bound.1, c.requires.reduced.1 loop.k)

pub loop-k-preserved : goal.loop-k-preserved
loop-k-preserved c =
    let a = c.args in
    let p = a.m.p in
    let loop = c.loop-k in
    let turn = c.plus_multiple in
    stored_more _ a.out.now loop.out loop.k turn.result (omega (arith, loop.invariant.same_length)) loop.invariant
    (residue_same (ap₂ (λ y z. plus p y (times p (mk p a.c) z)) (ap (mk p) (word_kept _ _ _ _ loop.invariant) ∙ sym (poly_at p a.out.now loop.k))
    (sym (poly_at p a.a.now loop.k))) turn.ensures)

pub returns : goal.returns
returns c =
    let a = c.args in
    let loop = c.loop-k in
    stored_all a.m.p _ a.out.now loop.out loop.k (prepared_positive (prepared a.m)) (omega (arith, loop.invariant.same_length)) loop.invariant
