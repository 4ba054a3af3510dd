-- `substitution::multiply` meets its contract. Assumes nothing.
use Rattle.std.proofs.Common.{arith, length, replicate, ◌≡◌}
use Rattle.series.specs.Series.{conv}
use Rattle.zmod.specs.Zmod.{Zmod}
use Rattle.zmod.specs.Residues.{poly}
use Rattle.substitution.specs.Sums.{zeros_low, zeros_add}
use Rattle.substitution.proofs.multiply.Goals.{After-fill}
use Rattle.substitution.proofs.multiply.Goals as goal

blank : (c : After-fill) → c.fill.new.self ≡ replicate (length c.args.acc.now) 0
blank c = c.fill.ensures.after (λ y h. h)

pub add_times-requires : goal.add_times-requires
add_times-requires c =
    let a = c.args in
    let pre = c.requires in
    record {
      reduced = (
        pre.reduced.0,
        pre.reduced.1,
        pre.reduced.2,
        zeros_low a.m.p (length a.acc.now) c.fill.new.self (blank (goal.at.add_times-requires c).After-fill),
      );
      lengths = (pre.lengths.0, pre.lengths.1, omega (arith, pre.lengths.2, c.fill.ensures.len), pre.lengths.3);
    }

pub returns : goal.returns
returns c =
    let a = c.args in
    let p = a.m.p in
    zeros_add p (length a.acc.now) c.fill.new.self (blank (goal.at.returns c).After-fill) (conv (Zmod p) (poly p a.a.now) (poly p a.h.now)) c.add_times.new.h
    c.add_times.ensures
