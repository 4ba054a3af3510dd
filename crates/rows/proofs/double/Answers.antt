-- `rows::double` meets its contract. Assumes nothing.
use Rattle.std.proofs.Common.{ap, arith, length, length-set, refl, rules, subst, ◌*◌, ◌≡◌}
use Rattle.rows.specs.Rows.{Twice, twice_none, twice_more}
use Rattle.rows.proofs.double.Goals as goal

pub loop-k-init : goal.loop-k-init
loop-k-init c = (refl, twice_none _ _)

pub overflow_mul-out : goal.overflow_mul-out
overflow_mul-out c =
    omega (arith, c.from.ensures, c.requires.1 c.loop-k.k)

pub loop-k-preserved : goal.loop-k-preserved
loop-k-preserved c =
    let loop = c.loop-k in
    let a = c.args in (
      simp length-set loop.invariant.0,
      twice_more a.a.now a.out.now loop.out loop.k _ (search rules) (ap (λ n. 2 * n) c.from.ensures) loop.invariant.1,
    )

pub returns : goal.returns
returns c =
    let loop = c.loop-k in
    let a = c.args in
    let e : loop.k ≡ length a.a.now = omega arith in
    subst (Twice a.a.now a.out.now loop.out) e loop.invariant.1
