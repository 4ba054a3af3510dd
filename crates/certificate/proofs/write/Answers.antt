-- `certificate::write` meets its contract.
-- Assumes nothing.
use Rattle.std.proofs.Common.{ap, arith, is_some, length-set, ◌∙◌}
use Rattle.sheet.specs.declared.Form.TheVariants.{Certificate}
use Rattle.sheet.specs.Places.{n_placed, count_placed, end_placed}
use Rattle.certificate.specs.Fits.{n_fit}
use Rattle.certificate.proofs.Writing.{at_g, at_n, at_count, at_end, written}
use Rattle.certificate.proofs.write.Goals as goal

pub unwrap-requires-2 : goal.unwrap-requires-2
unwrap-requires-2 c = ap is_some (c.place-2.ensures ∙ n_placed c.half_degree-d.result)

pub write_section-requires-2 : goal.write_section-requires-2
write_section-requires-2 c =
    let from = at_n c.args.v c.half_degree-d.ensures.0 c.place-2.ensures c.unwrap-2.ensures in
    (omega (arith, from, c.requires.enough, c.requires.n_words.count), n_fit c.args.v c.requires.ready c.args.n.now c.requires.n_words)

pub unwrap-at-requires : goal.unwrap-at-requires
unwrap-at-requires c = ap is_some (c.place-3.ensures ∙ count_placed c.half_degree-d.result)

pub offset_bounds-out-at : goal.offset_bounds-out-at
offset_bounds-out-at c = omega (arith, at_count c.args.v c.half_degree-d.ensures.0 c.place-3.ensures c.unwrap-at.ensures, c.requires.ready.degree)

pub bounds-out-at : goal.bounds-out-at
bounds-out-at c = omega (arith, at_count c.args.v c.half_degree-d.ensures.0 c.place-3.ensures c.unwrap-at.ensures, c.requires.enough)

pub unwrap-end-requires : goal.unwrap-end-requires
unwrap-end-requires c = ap is_some (c.place-4.ensures ∙ end_placed Certificate c.half_degree-d.result)

pub offset_bounds-out-end : goal.offset_bounds-out-end
offset_bounds-out-end c = omega (arith, at_end c.args.v c.half_degree-d.ensures.0 c.place-4.ensures c.unwrap-end.ensures, c.requires.ready.degree)

pub bounds-out-end : goal.bounds-out-end
bounds-out-end c =
    simp length-set (omega (arith, at_end c.args.v c.half_degree-d.ensures.0 c.place-4.ensures c.unwrap-end.ensures, c.requires.enough))

pub overflow_add-result : goal.overflow_add-result
overflow_add-result c = omega (arith, at_end c.args.v c.half_degree-d.ensures.0 c.place-4.ensures c.unwrap-end.ensures, c.requires.ready.degree)

pub returns : goal.returns
returns c =
    let a = c.args in
    let d_is = c.half_degree-d.ensures.0 in
    written a.v a.g.now a.n.now a.out.now a.abscissas c.requires
    (at_g a.v d_is c.place.ensures c.unwrap.ensures) (at_n a.v d_is c.place-2.ensures c.unwrap-2.ensures)
    (at_count a.v d_is c.place-3.ensures c.unwrap-at.ensures) (at_end a.v d_is c.place-4.ensures c.unwrap-end.ensures)
    c.write_header.ensures c.write_section.ensures c.write_section-2.ensures c.word_of.ensures c.word_of-2.ensures
