-- `solution::solve_in` meets its contract. Assumes nothing.
use Rattle.std.proofs.Common.{arith, length, length-take, subst, sym, ◌%◌, ◌-◌, ◌≡◌}
use Rattle.sheet.specs.Values.{half}
use Rattle.sheet.specs.Ready.{HoldsG, degree_half}
use Rattle.promises.specs.Numerators.{numerator_words}
use Rattle.expansion.specs.Begun.{Begun}
use Rattle.solution.proofs.Certified.{solved}
use Rattle.solution.proofs.solve_in.Goals as goal

pub candidate-requires : goal.candidate-requires
candidate-requires c =
    let v = c.args.v.values in
    let d = degree_half v c.args.v.ready in
    record {
      table_len = omega (arith, d, c.requires.degree_in_bounds, c.requires.degree_in_bounds_2, c.requires.n_len);
      v_in_bounds = omega (arith, d, c.requires.degree_in_bounds, c.requires.degree_in_bounds_2, c.requires.n_len);
    }

pub numerator-requires : goal.numerator-requires
numerator-requires c =
    let g_words : HoldsG c.args.v.values c.candidate.new.g =
    record { count = omega (arith, c.candidate.auto, c.requires.n_len); reduced = c.candidate.ensures.reduced }
    in
    record {
      holds_g = g_words;
      out_len = omega (arith, degree_half c.args.v.values c.args.v.ready, c.candidate.auto, c.requires.n_len);
    }

pub rule_three_from-holds-requires : goal.rule_three_from-holds-requires
rule_three_from-holds-requires c =
    let g_words : HoldsG c.args.v.values c.candidate.new.g =
    record { count = omega (arith, c.candidate.auto, c.requires.n_len); reduced = c.candidate.ensures.reduced }
    in
    let n_words =
    numerator_words c.args.v.values c.args.v.ready c.candidate.new.g c.numerator.new.out g_words
    (omega (arith, degree_half c.args.v.values c.args.v.ready, c.candidate.auto, c.numerator.auto, c.requires.n_len)) c.numerator.ensures in
    let v = c.args.v.values in
    let made = c.candidate in
    let d : length made.new.g - 1 ≡ half v = omega (arith, made.auto, c.requires.n_len) in record {
      holds_g = (g_words, made.ensures.r1);
      holds_n = n_words;
      degree_in_bounds = (
        omega (arith, made.auto, c.requires.degree_in_bounds),
        omega (arith, made.auto, c.requires.degree_in_bounds),
        subst (λ n. n % 4 ≡ 1) (sym made.auto.s)
            c.requires.degree_in_bounds.2,
        omega (arith, made.auto, c.requires.degree_in_bounds),
      );
      h_len = (
        omega (arith, made.auto, c.requires.degree_in_bounds_2),
        simp length-take (omega (arith, made.auto, c.requires.degree_in_bounds_2)),
        c.requires.degree_in_bounds_2.0,
      );
      known_bound = (
        omega (arith, d),
        subst (Begun v made.new.g made.new.s made.new.h) (sym d) made.ensures.begun,
      );
    }

pub finish-requires : goal.finish-requires
finish-requires c =
    let g_words : HoldsG c.args.v.values c.candidate.new.g =
    record { count = omega (arith, c.candidate.auto, c.requires.n_len); reduced = c.candidate.ensures.reduced }
    in
    let n_words =
    numerator_words c.args.v.values c.args.v.ready c.candidate.new.g c.numerator.new.out g_words
    (omega (arith, degree_half c.args.v.values c.args.v.ready, c.candidate.auto, c.numerator.auto, c.requires.n_len)) c.numerator.ensures in
    record {
      holds_g = (g_words, c.candidate.ensures.r1);
      holds_n = n_words;
      variant = c.rule_three_from-holds.ensures;
      room = c.requires.n_len.2;
    }

pub returns : goal.returns
returns c =
    let made = c.candidate in
    solved c.args.v.values made.new.h made.new.s made.new.g c.args.answer.now
    c.finish.new.answer made.ensures c.finish.result c.finish.ensures
