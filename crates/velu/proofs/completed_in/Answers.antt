-- `velu::completed_in` meets its contract. Assumes nothing.
use Rattle.std.proofs.Common.{ap, arith, ◌%◌}
use Rattle.velu.proofs.Codomains.{completes}
use Rattle.velu.proofs.completed_in.Goals as goal

pub power_sums-requires : goal.power_sums-requires
power_sums-requires c =
    record {
      holds_g = c.requires.holds_g;
      s_len_bound = (omega arith, ap (λ n. n % 4) c.requires.e_len.2, omega arith, omega (arith, c.requires.e_len, c.args.v.ready.degree));
      known_bound = (omega arith, omega arith, λ l. absurd (omega arith));
    }

pub expansion-requires : goal.expansion-requires
expansion-requires c =
    let sums = c.power_sums in
    record {
      h_nonzero = (omega arith, omega arith, omega arith, sums.ensures.reduced, omega arith);
      by_index = λ k l. absurd (omega arith);
    }

pub less_multiple-btilde-requires : goal.less_multiple-btilde-requires
less_multiple-btilde-requires c =
    let ready = c.args.v.ready in
    (ready.below.b, omega (arith, ready.prime))

pub returns : goal.returns
returns c =
    let expansion = c.expansion in
    let sums = c.power_sums in
    completes c.args.v.values c.args.g.now sums.new.s expansion.new.h c.args.v.ready c.requires.holds_g
    (omega arith) (omega arith) sums.ensures expansion.ensures
    c.less_multiple-atilde.ensures c.less_multiple-btilde.ensures c.multiply-twice.ensures
    c.negate-sigma.ensures
