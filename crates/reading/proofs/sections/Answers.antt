-- `reading::sections` meets its contract.
-- Assumes nothing.
use Rattle.std.proofs.Common.{arith}
use Rattle.questions.specs.Tests.{says_no, was_no, was_yes}
use Rattle.reading.proofs.Down.{ByKinds, by_kinds}
use Rattle.reading.proofs.sections.Goals.{After-unwrap_or-g}
use Rattle.reading.proofs.sections.Goals as goal

kinds : (c : After-unwrap_or-g) → ByKinds c.args.form c.args.d c.args.p c.args.end c.args.ws.now
    c.coefficient_bound-bound.result c.unwrap_or-count.result c.unwrap_or-n.result c.unwrap_or-g.result
kinds c =
    let a = c.args in
    let bound = c.coefficient_bound-bound in
    by_kinds a.form a.d a.p a.end a.ws.now c.requires.1 c.requires.2 bound.result bound.ensures.0
    c.place.ensures c.unwrap_or-count.ensures c.place-2.ensures c.unwrap_or-n.ensures c.place-3.ensures c.unwrap_or-g.ensures

pub slice_bounds-section-end : goal.slice_bounds-section-end
slice_bounds-section-end c = let k = kinds c in omega (arith, k.n_before, k.c_before, c.requires.2)

pub slice_bounds-section-count-2 : goal.slice_bounds-section-count-2
slice_bounds-section-count-2 c = omega (arith, (kinds (goal.at.slice_bounds-section-count-2 c).After-unwrap_or-g).n_before)

pub slice_bounds-section-start-2 : goal.slice_bounds-section-start-2
slice_bounds-section-start-2 c = omega (arith, (kinds (goal.at.slice_bounds-section-start-2 c).After-unwrap_or-g).n_before)

pub slice_bounds-section-end-2 : goal.slice_bounds-section-end-2
slice_bounds-section-end-2 c =
    let k = kinds (goal.at.slice_bounds-section-end-2 c).After-unwrap_or-g in
    omega (arith, k.c_before, c.requires.2)

pub slice_bounds-section-count-3 : goal.slice_bounds-section-count-3
slice_bounds-section-count-3 c = omega (arith, (kinds (goal.at.slice_bounds-section-count-3 c).After-unwrap_or-g).c_before)

pub slice_bounds-section-start-3 : goal.slice_bounds-section-start-3
slice_bounds-section-start-3 c = omega (arith, (kinds (goal.at.slice_bounds-section-start-3 c).After-unwrap_or-g).c_before)

pub returns-then-not-section : goal.returns-then-not-section
returns-then-not-section c =
    let k = kinds (goal.at.returns-then-not-section c).After-unwrap_or-g in
    says_no (λ all. was_no c.section.ensures c.if-not-section.true (k.sections.0 all).0)

pub returns-then-not-section-2 : goal.returns-then-not-section-2
returns-then-not-section-2 c =
    let k = kinds (goal.at.returns-then-not-section-2 c).After-unwrap_or-g in
    says_no (λ all. was_no c.section-2.ensures c.if-not-section-2.true (k.sections.0 all).1)

pub returns : goal.returns
returns c =
    let k = kinds (goal.at.returns c).After-unwrap_or-g in (
      λ t. k.sections.1
          (was_yes c.section.ensures c.if-not-section.false, was_yes c.section-2.ensures c.if-not-section-2.false, was_yes c.section-3.ensures t),
      λ h. c.section-3.ensures.1 (k.sections.0 h).2,
    )
