-- `folding::prepare` meets its contract. Assumes nothing.
use Rattle.std.proofs.Common.{arith, length, subst, ◌*◌, ◌+◌, ◌-◌, ◌≡◌}
use Rattle.series.specs.Degree.{Monic}
use Rattle.zmod.specs.Zmod.{Zmod}
use Rattle.zmod.specs.Residues.{poly}
use Rattle.folding.specs.Table.{Table, is_monic_of}
use Rattle.folding.proofs.prepare.Goals as goal

pub fill-requires : goal.fill-requires
fill-requires c =
    let pre = c.requires in
    let same : length c.args.r.now ≡ length c.negated.new.out = omega (arith, pre.2) in
    (same, subst (λ k. length c.args.t.now ≡ k * (k + 3)) same pre.3, c.negated.ensures.reduced)

pub returns : goal.returns
returns c =
    let a = c.args in
    let pre = c.requires in
    let p = a.m.p in
    let g = poly p a.g.now in
    let n = c.negated.new.out in
    let t = c.fill.new.t in
    let degree : length a.g.now - 1 ≡ length n = omega (arith, pre.1, pre.2) in (
      c.fill.ensures.0,
      subst (λ k. Table p k g k t) (omega (arith, pre.2)) (subst (λ f. Table p (length n) f (length n) t)
          (is_monic_of (subst (λ k. Monic (Zmod p) k g) degree pre.0.monic) c.negated.ensures) c.fill.ensures.1),
    )
