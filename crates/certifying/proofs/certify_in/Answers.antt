-- `certifying::certify_in` meets its contract. Assumes nothing.
use Rattle.std.proofs.Common.{arith}
use Rattle.promises.specs.Numerators.{numerator_words}
use Rattle.certifying.proofs.certify_in.Goals as goal

pub numerator-requires : goal.numerator-requires
numerator-requires c =
    record {
      holds_g = c.requires.holds_g.0;
      out_len = c.requires.n_len.0;
    }

pub rule_three-holds-requires : goal.rule_three-holds-requires
rule_three-holds-requires c =
    record {
      holds_g = c.requires.holds_g;
      holds_n = numerator_words c.args.v.values c.args.v.ready c.args.g.now c.numerator.new.out c.requires.holds_g.0 (omega arith) c.numerator.ensures;
    }

pub finish-requires : goal.finish-requires
finish-requires c =
    record {
      holds_g = c.requires.holds_g;
      holds_n = numerator_words c.args.v.values c.args.v.ready c.args.g.now c.numerator.new.out c.requires.holds_g.0 (omega arith) c.numerator.ensures;
      variant = c.rule_three-holds.ensures;
      room = c.requires.n_len.1;
    }
