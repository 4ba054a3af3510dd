-- `poly::equal` meets its contract: past its end a slice reads 0. Assumes nothing.
use Rattle.std.proofs.Common.{arith, get_or, refl, rules, ◌≡◌}
use Rattle.std.proofs.lemmas.Iterator.{YieldsList-from_range, cases_from_all}
use mathlib.Core.Logic.{◌≢◌}
use borrow.Author.Tests.{tests}
use Rattle.poly.proofs.Laws.{same_all}
use Rattle.poly.proofs.equal.Goals as goal

pub returns : goal.returns
returns c =
    let a = c.args.a.now in
    let b = c.args.b.now in
    let n = c.max.result in
    λ p. same_all p a b n c.all.result (omega arith) (omega arith)
    (cases_from_all _ _ _ (λ i. get_or a i 0 ≡ get_or b i 0) (λ i. get_or a i 0 ≢ get_or b i 0) c.all.ensures.ran
    (YieldsList-from_range 0 n n refl (omega arith)) (λ x q k. search (rules, tests)) (λ x q k. search (rules, tests)))
