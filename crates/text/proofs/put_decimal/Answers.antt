-- `text::put_decimal` meets its contract. Assumes nothing.
use Rattle.std.proofs.Common.{List, ap, subst, sym, ℕ, ◌∙◌, ◌≡◌}
use Rattle.text.specs.Text.{digits, decimal}
use Rattle.text.specs.Fills.{Fills}
use Rattle.text.proofs.Decimal.{decimal_digits}
use Rattle.text.proofs.put_decimal.Goals as goal

pub returns : goal.returns
returns c =
    let at = c.args in
    let k = c.places-k.result in
    let all : digits 10 k at.n ≡ decimal at.n =
    ap (λ m. digits 10 m at.n) c.places-k.ensures ∙ sym (decimal_digits at.n) in
    subst (λ (l : List ℕ). Fills l at.out.now c.put_digits.new.out k) all c.put_digits.ensures
