-- `poles::quotient` meets its contract.
-- Assumes nothing.
use Rattle.std.proofs.Common.{ap, ap₂, arith, get_or, length, sym, ◌-◌, ◌∙◌}
use Rattle.ring.specs.Identity.{solve3}
use Rattle.ring.specs.Identity.Ex.{◌:*◌}
use Rattle.ring.specs.Ring.{CRing}
use Rattle.zmod.specs.Zmod.{Zmod, mk, minus, times}
use Rattle.zmod.specs.Residues.{poly_at}
use Rattle.poles.proofs.quotient.Goals as goal

pub returns-then-k-a : goal.returns-then-k-a
returns-then-k-a c = c.if-k-a.true

pub overflow_cast-u : goal.overflow_cast-u
overflow_cast-u c = omega (arith, c.requires.prime.3 (length c.args.u.now - 1))

pub inverse_by_euclid-inverse-requires : goal.inverse_by_euclid-inverse-requires
inverse_by_euclid-inverse-requires c =
    record {
      prime = c.requires.prime.0;
      a_nonzero = (c.requires.nonzero (omega (arith, c.if-k-a.false)), c.requires.prime.3 (length c.args.u.now - 1));
    }

pub overflow_cast-u-2 : goal.overflow_cast-u-2
overflow_cast-u-2 c = omega (arith, c.requires.prime.3 (length c.args.u.now - 1 - 1))

pub negate-second-requires : goal.negate-second-requires
negate-second-requires c = c.requires.prime.3 (length c.args.u.now - 1 - 1)

pub returns : goal.returns
returns c =
    let second = c.negate-second in
    let inverse = c.inverse_by_euclid-inverse in
    let a = c.args in
    let p = a.p in
    let last = get_or a.u.now (length a.u.now - 1) 0 in (
      omega (arith, c.if-k-a.false),
      c.multiply.ensures.below,
      ap₂ (times p) c.multiply.ensures.class (poly_at p a.u.now (length a.u.now - 1))
          ∙ solve3 (Zmod p) (λ s i l. s :* i :* l) (λ s i l. s :* (l :* i)) tt (mk p second.result) (mk p inverse.result) (mk p last)
          ∙ ap (times p (mk p second.result)) inverse.ensures.unit ∙ CRing.mul-one (Zmod p) _
          ∙ second.ensures.class ∙ ap (minus p) (sym (poly_at p a.u.now (length a.u.now - 1 - 1))),
    )
