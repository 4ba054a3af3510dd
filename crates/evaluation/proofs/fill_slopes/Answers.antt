-- `evaluation::fill_slopes` meets its contract. The invariant: the slopes before i stand in the table. Assumes nothing.
use Rattle.std.proofs.Common.{arith, get_or, length, length-set, rules, ◌<◌, ◌∙◌}
use Rattle.slices.specs.Filling.{filled_none, filled_more}
use Rattle.zmod.specs.Residues.{poly_at}
use Rattle.evaluation.proofs.Words.{Slope, slope_at, slopes_low}
use Rattle.evaluation.proofs.fill_slopes.Goals as goal

pub loop-i-init : goal.loop-i-init
loop-i-init c =
    let at = c.args in
    (search rules, filled_none (Slope at.powers.now) at.out.now)

pub loop-i-preserved : goal.loop-i-preserved
loop-i-preserved c =
    let loop = c.loop-i in
    let at = c.args in
    let inside : loop.i < length loop.out = omega arith in (
      simp length-set loop.invariant.0,
      filled_more (Slope at.powers.now) loop.out loop.i c.slope.result inside loop.invariant.1 c.slope.ensures,
    )

pub returns : goal.returns
returns c =
    let loop = c.loop-i in
    let powers = c.args.powers.now in record {
      low = slopes_low powers loop.out loop.i (omega arith) c.requires.2 loop.invariant.1;
      by_index = λ p u h i l.
          poly_at p loop.out i
          ∙ slope_at p u powers i (get_or loop.out i 0) h (omega arith) (loop.invariant.1 i (omega arith));
    }
