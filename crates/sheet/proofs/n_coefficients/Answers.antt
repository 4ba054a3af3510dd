-- `sheet::n_coefficients` meets its contract.
-- Assumes nothing.
use Rattle.std.proofs.Common.{ap, arith, drop, is_some, length, map, take, ◌∙◌}
use Rattle.sheet.specs.Word.{value_of}
use Rattle.sheet.specs.Places.{n_placed}
use Rattle.sheet.proofs.Starts.{n_from}
use Rattle.sheet.proofs.n_coefficients.Goals as goal

pub unwrap-from-requires : goal.unwrap-from-requires
unwrap-from-requires c = ap is_some (c.place.ensures ∙ n_placed c.args.d)

pub coefficients-requires : goal.coefficients-requires
coefficients-requires c = (c.requires.0, omega (arith, n_from c.args.d c.place.ensures c.unwrap-from.ensures, c.requires.2))

pub returns : goal.returns
returns c =
    let a = c.args in
    let from = n_from a.d c.place.ensures c.unwrap-from.ensures in
    c.coefficients.ensures ∙ ap (λ k. map value_of (take (length a.out.now) (drop k a.ws.now))) from
