-- `reading::has_kind` meets its contract.
-- Assumes nothing.
use Rattle.std.proofs.Common.{ap, arith, eq-eqb, eqb-true, ltb-true, slice_index, sym, ◌∙◌, ◌≡◌}
use Rattle.std.specs.Prelude.{Option, Some, unwrap_or, ℕ, ◌≢◌}
use Rattle.questions.specs.Tests.{says_yes}
use Rattle.sheet.specs.declared.Form.{Form}
use Rattle.sheet.specs.Code.{code}
use Rattle.sheet.specs.Word.{kind_of}
use Rattle.sheet.specs.Place.{placed, place_of, placed_or, at_place}
use Rattle.sheet.specs.Places.{nowhere}
use Rattle.reading.specs.Header.{stands_absent, stands_short, stands_there}
use Rattle.reading.proofs.has_kind.Goals as goal

-- a place that the table gives is not that for nowhere
module _ (form : Form) (k : ℕ) {place : Option ℕ} {at : ℕ} (found : place ≡ placed form k 0) (is : place ≡ Some at) where
  place_is : at ≡ place_of form k 0 255
  place_is = at_place form k 0 255 found is

  somewhere : place_of form k 0 255 ≢ 255
  somewhere e = omega (arith, place_is, at_place form k 0 0 found is, nowhere form k 0 0 e, e)

pub returns-in-None : goal.returns-in-None
returns-in-None c =
    says_yes (stands_absent (code c.args.kind) c.args.form c.args.ws.now c.requires
    (sym (placed_or c.args.form (code c.args.kind) 0 255) ∙ ap (λ (o : Option ℕ). unwrap_or o 255) (sym c.place.ensures ∙ c.in-None.is)))

pub returns-else-at-ws : goal.returns-else-at-ws
returns-else-at-ws c =
    let form = c.args.form in
    let k = code c.args.kind in
    let short = stands_short k form c.args.ws.now c.requires (somewhere form k c.place.ensures c.in-Some.is)
    (omega (arith, place_is form k c.place.ensures c.in-Some.is, c.if-at-ws.false)) in
    (λ t. absurd (omega (arith, c.if-at-ws.false, ltb-true _ _ t)), λ s. absurd (short s))

pub returns-then-at-ws : goal.returns-then-at-ws
returns-then-at-ws c =
    let form = c.args.form in
    let k = code c.args.kind in
    let at = place_is form k c.place.ensures c.in-Some.is in
    let there = stands_there k form c.args.ws.now c.requires (somewhere form k c.place.ensures c.in-Some.is) (omega (arith, at, c.if-at-ws.true)) in
    let kind = c.kind_of.ensures ∙ ap (λ i. kind_of (slice_index c.args.ws.now i)) at in
    (λ t. there.0 (sym kind ∙ eqb-true _ _ t ∙ c.from.ensures), λ s. eq-eqb _ _ (kind ∙ there.1 s ∙ sym c.from.ensures))
