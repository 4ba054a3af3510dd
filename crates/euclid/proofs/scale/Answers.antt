-- `euclid::scale` meets its contract. The invariant: the coefficients before the word are stored, the words from it on are as they were.
-- Assumes nothing.
use Rattle.std.proofs.Common.{ap, arith, sym, ◌∙◌}
use Rattle.zmod.specs.Zmod.{mk, times}
use Rattle.zmod.specs.Residues.{poly_at, residue_same}
use Rattle.barrett.specs.Modulus.{prepared, prepared_positive}
use Rattle.slices.specs.Stored.{stored_none, stored_more, word_kept}
use Rattle.poly.specs.Stored.{stored_all}
use Rattle.euclid.proofs.scale.Goals as goal

pub loop-word-init : goal.loop-word-init
loop-word-init c = stored_none _ _

pub multiply-requires : goal.multiply-requires
multiply-requires c =
    let loop = c.loop-word in
    (c.requires.0, omega (arith, word_kept _ _ _ _ loop.invariant, c.requires.1 loop.word-index))

pub loop-word-preserved : goal.loop-word-preserved
loop-word-preserved c =
    let a = c.args in
    let p = a.m.p in
    let loop = c.loop-word in
    stored_more _ a.out.now loop.out loop.word-index c.multiply.result (omega (arith, loop.invariant.same_length)) loop.invariant
    (residue_same (ap (times p (mk p a.c)) (ap (mk p) (word_kept _ _ _ _ loop.invariant) ∙ sym (poly_at p a.out.now loop.word-index))) c.multiply.ensures)

pub returns : goal.returns
returns c =
    let a = c.args in
    let loop = c.loop-word in
    stored_all a.m.p _ a.out.now loop.out loop.word-index (prepared_positive (prepared a.m)) (omega (arith, loop.invariant.same_length)) loop.invariant
