-- `modulo::negated` meets its contract. The invariant: the words before k are stored. Assumes nothing.
use Rattle.std.proofs.Common.{ap, arith, length-set, refl, sym}
use Rattle.slices.specs.Filling.{filled_none, filled_more}
use Rattle.series.specs.Series.{negs}
use Rattle.zmod.specs.Zmod.{Zmod, minus}
use Rattle.zmod.specs.Residues.{poly, poly_at, residue_same, residues_filled}
use Rattle.poly.specs.Stored.{Of}
use Rattle.modulo.proofs.negated.Goals as goal

pub loop-k-init : goal.loop-k-init
loop-k-init c =
    let a = c.args in
    (refl, filled_none (Of a.p (negs (Zmod a.p) (poly a.p a.a.now))) a.out.now)

pub negate-requires : goal.negate-requires
negate-requires c =
    c.requires.1 c.loop-k.k

pub loop-k-preserved : goal.loop-k-preserved
loop-k-preserved c =
    let loop = c.loop-k in
    let a = c.args in (
      simp length-set loop.invariant.0,
      filled_more (Of a.p (negs (Zmod a.p) (poly a.p a.a.now))) loop.out loop.k _ (omega (arith, loop.invariant.0)) loop.invariant.1
          (residue_same (ap (minus a.p) (sym (poly_at a.p a.a.now loop.k))) c.negate.ensures),
    )

pub returns : goal.returns
returns c =
    let loop = c.loop-k in
    let a = c.args in
    residues_filled {a = negs (Zmod a.p) (poly a.p a.a.now)} (omega (arith, c.requires.1 0)) (λ j l. loop.invariant.1 j (omega (arith, loop.invariant.0)))
