-- `poly::span` meets its contract. The invariant: s is the residue of `start` and the products before i. Assumes nothing.
use Rattle.std.proofs.Common.{ap, arith, rules, ◌+◌, ◌∙◌}
use Rattle.zmod.specs.Zmod.{mk, plus_comm}
use Rattle.poly.proofs.Sums.{reduced_mono, span_turn}
use Rattle.poly.proofs.span.Goals as goal

pub loop-i-init : goal.loop-i-init
loop-i-init c =
    let at = c.args in
    (search rules, search rules, search rules, plus_comm at.p _ _)

pub dot-requires : goal.dot-requires
dot-requires c =
    record {
      from_le_to = omega arith;
      to_bound = omega arith;
      reduced = (
        reduced_mono c.args.a.now (search rules) c.requires.reduced.0,
        reduced_mono c.args.b.now (search rules)
            c.requires.reduced.1,
      );
    }

pub loop-i-preserved : goal.loop-i-preserved
loop-i-preserved c =
    let at = c.args in
    let loop = c.loop-i in (
      omega arith,
      omega arith,
      c.reduce-s.ensures.below,
      span_turn at.p at.a.now at.b.now at.k (mk at.p at.start) at.from loop.i (loop.i + at.size) loop.s c.dot.result
          c.reduce-s.result
          (c.reduce-s.ensures.class ∙ ap (λ n. mk at.p (n + c.dot.result)) c.from.ensures) loop.invariant.3
          (c.dot.ensures.by_index at.p),
    )

pub dot-requires-2 : goal.dot-requires-2
dot-requires-2 c =
    record {
      from_le_to = omega arith;
      to_bound = omega arith;
      reduced = (
        reduced_mono c.args.a.now (search rules) c.requires.reduced.0,
        reduced_mono c.args.b.now (search rules)
            c.requires.reduced.1,
      );
    }

pub returns : goal.returns
returns c =
    let at = c.args in
    let loop = c.loop-i in record {
      result_value = span_turn at.p at.a.now at.b.now at.k (mk at.p at.start) at.from loop.i at.to loop.s c.dot-2.result
          (c.from-2.result + c.dot-2.result)
          (ap (λ n. mk at.p (n + c.dot-2.result)) c.from-2.ensures) loop.invariant.3 (c.dot-2.ensures.by_index at.p);
      upper_bound = omega arith;
    }
