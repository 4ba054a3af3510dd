-- `poles::cancel_two` meets its contract.
-- Assumes nothing.
use Rattle.std.proofs.Common.{arith, rules, ◌∙◌}
use Rattle.zmod.specs.Zmod.{Zmod, mk}
use Rattle.zmod.specs.Residues.{poly}
use Rattle.poles.specs.Front.{combination_below, cancelling_is}
use Rattle.poles.proofs.cancel_two.Goals as goal

pub combine-requires : goal.combine-requires
combine-requires c =
    let z = c.two_products-z in
    let y = c.multiply-y in
    let a = c.args in
    let p = a.m.p in
    record {
      lt_p = (c.multiply-c.ensures.below, y.ensures.below, z.ensures.below, search rules, search rules, search rules);
      reduced = c.requires.reduced;
      below = (c.requires.below.0, λ i l. c.requires.below.1 i (omega arith));
      below_2 = combination_below (Zmod p) a.len (mk p c.multiply-c.result) (mk p y.result) (mk p z.result) (poly p a.t.now) (poly p a.u.now)
          (search rules) c.requires.below.0 c.requires.below.1;
    }

pub returns : goal.returns
returns c =
    let z = c.two_products-z in
    let z₀ = c.negate-opposite in
    let y = c.multiply-y in
    let y₀ = c.negate in
    let a = c.args in
    let p = a.m.p in (
      c.combine.ensures.0,
      c.combine.ensures.1 ∙ cancelling_is p a.row.top a.row.next a.below.top a.below.next c.multiply-c.result y.result z.result y₀.result z₀.result
          (poly p a.t.now) (poly p a.u.now) c.multiply-c.ensures.class y₀.ensures.class y.ensures.class z₀.ensures.class
          z.ensures.class,
    )
