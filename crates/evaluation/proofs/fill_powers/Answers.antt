-- `evaluation::fill_powers` meets its contract. The invariant: the powers before i stand in the table. Assumes nothing.
use Rattle.std.proofs.Common.{arith, length, length-set, rules, ◌<◌}
use Rattle.ring.specs.Ring.{pow}
use Rattle.slices.specs.Filling.{filled_none, filled_more}
use Rattle.zmod.specs.Zmod.{Zmod, mk}
use Rattle.zmod.specs.Residues.{residues_filled}
use Rattle.evaluation.proofs.Words.{Power}
use Rattle.evaluation.proofs.fill_powers.Goals as goal

pub loop-i-init : goal.loop-i-init
loop-i-init c =
    let at = c.args in
    (search rules, filled_none (Power at.p at.x) at.out.now)

pub power-requires : goal.power-requires
power-requires c = record {
  lt_p = search rules;
  filled = c.loop-i.invariant.1;
}

pub loop-i-preserved : goal.loop-i-preserved
loop-i-preserved c =
    let loop = c.loop-i in
    let at = c.args in
    let inside : loop.i < length loop.out = omega arith in (
      simp length-set loop.invariant.0,
      filled_more (Power at.p at.x) loop.out loop.i c.power.result inside loop.invariant.1 c.power.ensures,
    )

pub returns : goal.returns
returns c =
    let loop = c.loop-i in
    let at = c.args in
    residues_filled {a = pow (Zmod at.p) (mk at.p at.x)} (omega arith) (λ j l. loop.invariant.1 j (omega arith))
