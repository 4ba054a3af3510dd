-- `sheet::g_coefficients` meets its contract.
-- Assumes nothing.
use Rattle.std.proofs.Common.{ap, arith, drop, is_some, length, map, take, ◌∙◌}
use Rattle.sheet.specs.Values.{coefficient_in}
use Rattle.sheet.specs.Places.{end_placed}
use Rattle.sheet.proofs.Starts.{g_from}
use Rattle.sheet.proofs.g_coefficients.Goals as goal

pub unwrap-end-requires : goal.unwrap-end-requires
unwrap-end-requires c = ap is_some (c.place.ensures ∙ end_placed c.args.form c.args.d)

pub coefficients-requires : goal.coefficients-requires
coefficients-requires c =
    let from = g_from c.args.form c.args.d c.place.ensures c.unwrap-end.ensures c.place-2.ensures c.unwrap_or-from.ensures in
    (c.requires.0, omega (arith, from, c.requires.2))

pub returns : goal.returns
returns c =
    let a = c.args in
    let from = g_from a.form a.d c.place.ensures c.unwrap-end.ensures c.place-2.ensures c.unwrap_or-from.ensures in
    c.coefficients.ensures ∙ ap (λ k. map (coefficient_in a.form a.p) (take (length a.out.now) (drop k a.ws.now))) from
