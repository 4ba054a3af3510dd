-- `substitution::multiply_add` meets its contract. Assumes nothing.
use Rattle.std.proofs.Common.{arith}
use Rattle.series.specs.Series.{conv}
use Rattle.zmod.specs.Zmod.{Zmod}
use Rattle.zmod.specs.Residues.{poly}
use Rattle.substitution.specs.Sums.{multiple_low, multiple_add}
use Rattle.substitution.proofs.multiply_add.Goals as goal

pub add_times-requires : goal.add_times-requires
add_times-requires c =
    let a = c.args in
    let pre = c.requires in
    record {
      reduced = (
        pre.reduced.0,
        pre.reduced.1,
        pre.reduced.2,
        multiple_low a.m.p a.c a.b.now c.scale.new.out c.scale.ensures pre.reduced.4 pre.reduced.3,
      );
      lengths = (pre.lengths.0, pre.lengths.1, omega (arith, pre.lengths.2, c.scale.auto), pre.lengths.3);
    }

pub returns : goal.returns
returns c =
    let scale = c.scale in
    let a = c.args in
    let p = a.m.p in
    multiple_add p a.c a.b.now scale.new.out scale.ensures (conv (Zmod p) (poly p a.a.now) (poly p a.h.now)) c.add_times.new.h
    (omega (arith, c.requires.lengths.2, scale.auto, c.add_times.auto)) c.add_times.ensures
