-- `text::put_digits` meets its contract. The invariant: the i digits that are left, then what stands from i on, are all k digits, then what stood
-- behind them. Assumes nothing.
use Rattle.std.proofs.Common.{ap, arith, drop, length-set, mod-lt, refl, rules, set, sym, ◌++◌, ◌+◌, ◌-◌, ◌/◌, ◌∙◌, ◌≡◌}
use Rattle.text.specs.Text.{digits}
use Rattle.text.specs.Digits.{length_digits}
use Rattle.text.proofs.Decimal.{digits_set}
use Rattle.text.proofs.put_digits.Goals as goal

pub loop-i-init : goal.loop-i-init
loop-i-init c = (search rules, refl)

pub code_of-requires : goal.code_of-requires
code_of-requires c = omega (arith, mod-lt c.loop-i.rest {m = c.args.base} (omega arith))

pub loop-i-preserved : goal.loop-i-preserved
loop-i-preserved c =
    let at = c.args in
    let loop = c.loop-i in
    let j = loop.i - 1 in
    let back : j + 1 ≡ loop.i = omega arith in (
      simp length-set loop.invariant.0,
      ap (λ v. digits at.base j (loop.rest / at.base) ++ drop j (set loop.out j v)) c.code_of.ensures
          ∙ digits_set at.base j loop.rest loop.out (omega arith)
          ∙ ap (λ i. digits at.base i loop.rest ++ drop i loop.out) back
          ∙ loop.invariant.1,
    )

pub returns : goal.returns
unfolding digits
returns c =
    let at = c.args in
    let loop = c.loop-i in
    let none : 0 ≡ loop.i = omega arith in
    record {
      count_is = sym (length_digits at.base at.k at.n);
      bytes = ap (λ i. digits at.base i loop.rest ++ drop i loop.out) none ∙ loop.invariant.1;
    }
