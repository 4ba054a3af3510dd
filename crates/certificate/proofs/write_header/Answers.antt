-- `certificate::write_header` meets its contract. The invariant: the words of the kinds before are written.
-- Assumes nothing.
use Rattle.std.proofs.Common.{ap, arith, drop, length, take, ◌++◌, ◌∙◌, ◌≡◌}
use Rattle.std.proofs.lemmas.List.{length-map}
use Rattle.sheet.specs.Code.{code}
use Rattle.certificate.specs.Certificate.{header_words}
use Rattle.certificate.proofs.Writing.{of_header, has_place, at_header, header_more}
use Rattle.certificate.proofs.write_header.Goals as goal

pub bounds-out-at : goal.bounds-out-at
bounds-out-at c =
    let at = at_header c.header-kind-items.result.now c.header-kind-items.ensures c.loop-kind-test.true c.place.ensures c.unwrap-at.ensures in
    omega (arith, at, c.loop-kind-test.true, length-map c.header-kind-items.result.now code, ap length c.header-kind-items.ensures, c.requires.0)

pub unwrap-at-requires : goal.unwrap-at-requires
unwrap-at-requires c = has_place c.header-kind-items.result.now c.header-kind-items.ensures c.loop-kind-test.true c.place.ensures

pub header_value-requires : goal.header_value-requires
header_value-requires c = of_header c.header-kind-items.result.now c.header-kind-items.ensures c.loop-kind-test.true

pub loop-kind-preserved : goal.loop-kind-preserved
loop-kind-preserved c =
    let at = at_header c.header-kind-items.result.now c.header-kind-items.ensures c.loop-kind-test.true c.place.ensures c.unwrap-at.ensures in
    header_more c.header-kind-items.result.now c.header-kind-items.ensures c.loop-kind-test.true c.args.v c.args.out.now c.requires.0 c.loop-kind.invariant at
    c.word_of.ensures c.header_value.ensures

pub returns : goal.returns
returns c =
    let all : c.loop-kind.kind-index ≡ 7 =
    omega (arith, c.loop-kind-test.false, length-map c.header-kind-items.result.now code, ap length c.header-kind-items.ensures) in
    c.loop-kind.invariant ∙ ap (λ n. take n (header_words c.args.v) ++ drop n c.args.out.now) all
