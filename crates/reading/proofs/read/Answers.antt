-- `reading::read` meets its contract: after each test, what it has shown of the sheet.
-- Assumes nothing.
use Rattle.std.proofs.Common.{true, ap, ap₂, arith, subst, ◌↔◌, ◌≡◌}
use Rattle.questions.specs.Numbered.{first_no}
use Rattle.questions.specs.Tests.{was_no, was_yes}
use Rattle.sheet.specs.declared.Values.{Values}
use Rattle.sheet.specs.Values.{values_of}
use Rattle.sheet.specs.Asked.{PrimeAllowed, DegreeAllowed, ValuesBelow, Curves, asked}
use Rattle.reading.proofs.read.Goals.{After-prime_allowed, After-degree_allowed, After-values_below, After-curves}
use Rattle.reading.proofs.read.Goals as goal

-- what the tests decide of the sheet's own values

three : (c : After-prime_allowed) → (c.prime_allowed.result ≡ true) ↔ PrimeAllowed (values_of c.args.form c.args.ws.now).p
three c = subst (λ p. (c.prime_allowed.result ≡ true) ↔ PrimeAllowed p) c.entry_of-p.ensures.0 c.prime_allowed.ensures

four : (c : After-degree_allowed)
    → (c.degree_allowed.result ≡ true) ↔ DegreeAllowed (values_of c.args.form c.args.ws.now).degree (values_of c.args.form c.args.ws.now).p
four c =
    subst (λ (Allowed : Type 0). (c.degree_allowed.result ≡ true) ↔ Allowed) (ap₂ DegreeAllowed c.entry_of-degree.ensures.0 c.entry_of-p.ensures.0)
    c.degree_allowed.ensures

five : (c : After-values_below) → (c.values_below.result ≡ true) ↔ ValuesBelow (values_of c.args.form c.args.ws.now)
five c = subst (λ v. (c.values_below.result ≡ true) ↔ ValuesBelow v) c.values_of-v.ensures c.values_below.ensures

seven : (c : After-curves) → (c.curves.result ≡ true) ↔ Curves c.args.form (values_of c.args.form c.args.ws.now)
seven c = subst (λ v. (c.curves.result ≡ true) ↔ Curves c.args.form v) c.values_of-v.ensures c.curves.ensures

pub returns-then-not-headed : goal.returns-then-not-headed
returns-then-not-headed c = first_no (asked c.args.form c.args.ws.now) 2 tt tt (was_no c.headed.ensures c.if-not-headed.true)

pub returns-then-not-prime_allowed : goal.returns-then-not-prime_allowed
returns-then-not-prime_allowed c =
    let at = goal.at.returns-then-not-prime_allowed c in
    first_no (asked c.args.form c.args.ws.now) 3 tt (was_yes c.headed.ensures c.if-not-headed.false, tt)
    (was_no (three at.After-prime_allowed) c.if-not-prime_allowed.true)

pub returns-then-not-degree_allowed : goal.returns-then-not-degree_allowed
returns-then-not-degree_allowed c =
    let at = goal.at.returns-then-not-degree_allowed c in
    let two = was_yes c.headed.ensures c.if-not-headed.false in
    let prime = was_yes (three at.After-prime_allowed) c.if-not-prime_allowed.false in
    first_no (asked c.args.form c.args.ws.now) 4 tt (two, (prime, tt)) (was_no (four at.After-degree_allowed) c.if-not-degree_allowed.true)

pub values_of-v-requires : goal.values_of-v-requires
values_of-v-requires c =
    let p = was_yes c.prime_allowed.ensures c.if-not-prime_allowed.false in
    (omega (arith, p.least), c.entry_of-p.ensures.0, c.entry_of-degree.ensures.0)

pub returns-then-not-values_below : goal.returns-then-not-values_below
returns-then-not-values_below c =
    let at = goal.at.returns-then-not-values_below c in
    let two = was_yes c.headed.ensures c.if-not-headed.false in
    let prime = was_yes (three at.After-prime_allowed) c.if-not-prime_allowed.false in
    let degree = was_yes (four at.After-degree_allowed) c.if-not-degree_allowed.false in
    first_no (asked c.args.form c.args.ws.now) 5 tt (two, (prime, (degree, tt))) (was_no (five at.After-values_below) c.if-not-values_below.true)

pub exact-requires : goal.exact-requires
exact-requires c =
    let at = goal.at.exact-requires c in
    let v = c.values_of-v.ensures in
    let prime = was_yes (three at.After-prime_allowed) c.if-not-prime_allowed.false in
    let degree = was_yes (four at.After-degree_allowed) c.if-not-degree_allowed.false in
    let p_is = ap (λ (v : Values). v.p) v in
    (v, omega (arith, ap (λ (v : Values). v.degree) v, degree.most), omega (arith, p_is, prime.least), omega (arith, p_is, prime.most))

pub returns-then-not-exact : goal.returns-then-not-exact
returns-then-not-exact c =
    let at = goal.at.returns-then-not-exact c in
    let two = was_yes c.headed.ensures c.if-not-headed.false in
    let prime = was_yes (three at.After-prime_allowed) c.if-not-prime_allowed.false in
    let degree = was_yes (four at.After-degree_allowed) c.if-not-degree_allowed.false in
    let below = was_yes (five at.After-values_below) c.if-not-values_below.false in
    first_no (asked c.args.form c.args.ws.now) 6 tt (two, (prime, (degree, (below, tt)))) (was_no c.exact.ensures c.if-not-exact.true)

pub curves-requires : goal.curves-requires
curves-requires c =
    let prime = was_yes (three (goal.at.curves-requires c).After-prime_allowed) c.if-not-prime_allowed.false in
    let p_is = ap (λ (v : Values). v.p) c.values_of-v.ensures in
    (omega (arith, p_is, prime.least), omega (arith, p_is, prime.most))

pub returns-then-not-curves : goal.returns-then-not-curves
returns-then-not-curves c =
    let at = goal.at.returns-then-not-curves c in
    let two = was_yes c.headed.ensures c.if-not-headed.false in
    let prime = was_yes (three at.After-prime_allowed) c.if-not-prime_allowed.false in
    let degree = was_yes (four at.After-degree_allowed) c.if-not-degree_allowed.false in
    let below = was_yes (five at.After-values_below) c.if-not-values_below.false in
    let six = was_yes c.exact.ensures c.if-not-exact.false in
    first_no (asked c.args.form c.args.ws.now) 7 tt (two, (prime, (degree, (below, (six, tt))))) (was_no (seven at.After-curves) c.if-not-curves.true)

pub returns : goal.returns
returns c =
    let at = goal.at.returns c in
    let two = was_yes c.headed.ensures c.if-not-headed.false in
    let prime = was_yes (three at.After-prime_allowed) c.if-not-prime_allowed.false in
    let degree = was_yes (four at.After-degree_allowed) c.if-not-degree_allowed.false in
    let below = was_yes (five at.After-values_below) c.if-not-values_below.false in
    let six = was_yes c.exact.ensures c.if-not-exact.false in
    let curves = was_yes (seven at.After-curves) c.if-not-curves.false in
    ((two, (prime, (degree, (below, (six, (curves, tt)))))), c.values_of-v.ensures)
