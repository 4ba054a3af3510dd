-- `counting::from_power` meets its contract. Assumes nothing.
use Rattle.std.proofs.Common.{arith, length-set, set, subst, sym, ◌≡◌}
use Rattle.zmod.specs.Zmod.{Zmod}
use Rattle.zmod.specs.Residues.{Reduced, poly}
use Rattle.barrett.specs.Modulus.{prepared, prepared_below}
use Rattle.euclid.specs.Words.{Leads}
use Rattle.euclid.specs.Euclid.{GcdDegree}
use Rattle.counting.specs.Count.{subtracted_reduced, subtracted_is, widened, divisor_leads, counted}
use Rattle.counting.proofs.from_power.Goals as goal

pub subtract-requires : goal.subtract-requires
subtract-requires c =
    (c.requires.r_len.3.reduced 1, c.requires.prime.0.above_one, omega (arith, prepared_below (prepared c.args.m)))

pub gcd_degree-requires : goal.gcd_degree-requires
gcd_degree-requires c =
    let same_g : c.widen.new.out ≡ c.args.g.now =
    widened (omega (arith, c.widen.auto, c.requires.r_len.1)) c.widen.ensures
    in
    let difference =
    set c.args.r.now 1 c.subtract.result
    in
    let same-r : c.widen-2.new.out ≡ difference =
    let size = length-set c.args.r.now 1 c.subtract.result in
    widened (omega (arith, c.widen-2.auto, c.requires.r_len.2, size)) c.widen-2.ensures
    in
    let p = c.args.m.p in
    let r = c.args.r.now in
    let low = subtracted_reduced p c.subtract.result r c.requires.r_len.3.reduced (omega (arith, c.requires.r_len.0, c.requires.prime.2))
    c.subtract.ensures in (
      c.requires.prime.0,
      subst (Leads p) (sym (same_g)) (divisor_leads c.requires.prime.0.above_one c.requires.prime.1),
      subst (Reduced p) (sym (same-r)) low,
    )

pub returns : goal.returns
returns c =
    let same_g : c.widen.new.out ≡ c.args.g.now =
    widened (omega (arith, c.widen.auto, c.requires.r_len.1)) c.widen.ensures
    in
    let difference =
    set c.args.r.now 1 c.subtract.result
    in
    let same-r : c.widen-2.new.out ≡ difference =
    let size = length-set c.args.r.now 1 c.subtract.result in
    widened (omega (arith, c.widen-2.auto, c.requires.r_len.2, size)) c.widen-2.ensures
    in
    let a = c.args in
    let p = a.m.p in
    let v = c.subtract in
    let n = c.gcd_degree.result in
    let whole = subst (λ l. GcdDegree (Zmod p) (poly p a.g.now) (poly p l) n) (same-r)
    (subst (λ l. GcdDegree (Zmod p) (poly p l) (poly p c.widen-2.new.out) n) (same_g) c.gcd_degree.ensures) in
    counted c.requires.prime.0 a.g.now a.r.now c.requires.r_len.3
    (subst (λ s. GcdDegree (Zmod p) (poly p a.g.now) s n)
    (subtracted_is p v.result a.r.now c.requires.r_len.3.reduced (omega (arith, c.requires.r_len.0, c.requires.prime.2)) v.ensures) whole)
