-- `poles::cancel` meets its contract.
-- Assumes nothing.
use Rattle.std.proofs.Common.{ap, arith, subst, sym, ◌∙◌}
use Rattle.series.specs.Degree.{Below}
use Rattle.zmod.specs.Zmod.{Zmod, mk}
use Rattle.zmod.specs.Residues.{poly}
use Rattle.barrett.specs.Modulus.{prepared, prepared_positive}
use Rattle.poles.specs.Rows.{combination}
use Rattle.poles.specs.Front.{multiple_below}
use Rattle.poles.proofs.cancel.Goals as goal

pub combine-requires : goal.combine-requires
combine-requires c =
    let a = c.args in
    let p = a.m.p in
    record {
      lt_p = (c.requires.lt_p.0, prepared_positive (prepared a.m), c.negate.ensures.below, c.requires.lt_p.2, c.requires.lt_p.3, c.requires.lt_p.4);
      reduced = c.requires.reduced;
      below = c.requires.below;
      below_2 = multiple_below (Zmod p) a.len a.s (mk p a.b) (mk p c.negate.result) (poly p a.t.now) (poly p a.u.now) (omega arith)
          c.requires.below.0 c.requires.below.1;
    }

pub returns : goal.returns
returns c =
    let a = c.args in
    let p = a.m.p in
    let is = c.combine.ensures.1 in (
      c.combine.ensures.0,
      subst (Below (Zmod p) a.len) (sym is)
          (multiple_below (Zmod p) a.len a.s (mk p a.b) (mk p c.negate.result) (poly p a.t.now) (poly p a.u.now) (omega arith)
          c.requires.below.0 c.requires.below.1),
      is ∙ ap (λ z. combination (Zmod p) a.s (mk p a.b) (mk p 0) z (poly p a.t.now) (poly p a.u.now)) c.negate.ensures.class,
    )
