-- `sheet::rational_abscissas` meets its contract.
-- Assumes nothing.
use Rattle.std.proofs.Common.{ap, arith, get_or, is_some, ◌∙◌}
use Rattle.sheet.specs.declared.Form.TheVariants.{Certificate}
use Rattle.sheet.specs.Word.{value_of}
use Rattle.sheet.specs.Place.{at_place}
use Rattle.sheet.specs.Places.{count_placed, count_place}
use Rattle.sheet.proofs.rational_abscissas.Goals as goal

pub unwrap-requires : goal.unwrap-requires
unwrap-requires c = ap is_some (c.place.ensures ∙ count_placed c.args.d)

pub offset_bounds-ws-unwrap : goal.offset_bounds-ws-unwrap
offset_bounds-ws-unwrap c =
    omega (arith, at_place Certificate 10 c.args.d 0 c.place.ensures c.unwrap.ensures, count_place c.args.d 0, c.requires.0)

pub bounds-ws-unwrap : goal.bounds-ws-unwrap
bounds-ws-unwrap c =
    omega (arith, at_place Certificate 10 c.args.d 0 c.place.ensures c.unwrap.ensures, count_place c.args.d 0, c.requires.1)

pub returns : goal.returns
returns c =
    let at = at_place Certificate 10 c.args.d 0 c.place.ensures c.unwrap.ensures in
    (c.value.ensures ∙ ap (λ k. value_of (get_or c.args.ws.now k 0)) at, omega (arith, c.value.ensures))
