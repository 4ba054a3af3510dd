-- `certifying::certify` meets its contract. Assumes nothing.
use Rattle.std.proofs.Common.{arith, length-take}
use Rattle.certifying.proofs.certify.Goals as goal

pub certify_in-requires : goal.certify_in-requires
certify_in-requires c = record {
  holds_g = c.requires.holds_g;
  n_len = (simp length-take (omega (arith, c.args.v.ready.degree, c.requires.holds_g.0.count)), c.requires.room);
}
