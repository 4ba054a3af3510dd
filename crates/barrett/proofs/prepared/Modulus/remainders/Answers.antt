-- `Modulus::remainders` meets its contract. The invariant: the words before i are residues. Assumes nothing.
use Rattle.std.proofs.Common.{arith, length-set, rules, sym}
use Rattle.slices.specs.Filling.{filled_none, filled_more}
use Rattle.zmod.specs.Residues.{poly, poly_at, residue_same, residues_filled}
use Rattle.barrett.specs.Modulus.{prepared, prepared_positive}
use Rattle.barrett.proofs.prepared.Modulus.remainders.Invariants.{Of}
use Rattle.barrett.proofs.prepared.Modulus.remainders.Goals as goal

pub loop-i-init : goal.loop-i-init
loop-i-init c =
    (search rules, filled_none (Of c.args.self.p c.args.xs.now) c.args.out.now)

pub remainder-requires : goal.remainder-requires
remainder-requires c = c.requires.by_index c.loop-i.i

pub loop-i-preserved : goal.loop-i-preserved
loop-i-preserved c =
    let loop = c.loop-i in
    let at = c.args in (
      simp length-set loop.invariant.0,
      filled_more (Of at.self.p at.xs.now) loop.out loop.i c.remainder.result (omega (arith, loop.invariant.0)) loop.invariant.1
          (residue_same (sym (poly_at at.self.p at.xs.now loop.i)) c.remainder.ensures),
    )

pub returns : goal.returns
returns c =
    let p = c.args.self.p in
    residues_filled {a = poly p c.args.xs.now} (prepared_positive (prepared c.args.self))
    (λ j l. c.loop-i.invariant.1 j (omega (arith, c.loop-i.invariant.0)))
