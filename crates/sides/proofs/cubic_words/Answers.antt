-- `sides::cubic_words` meets its contract. Assumes nothing.
use Rattle.std.proofs.Common.{[], arith, ◌∷◌}
use Rattle.sides.proofs.Cubic.{reduced_nil, reduced_cons, f_words}
use Rattle.sides.proofs.cubic_words.Goals as goal

pub returns : goal.returns
returns c =
    let v = c.args.v.values in record {
      reduced = reduced_cons v.b (v.a ∷ 0 ∷ 1 ∷ []) c.args.v.ready.below.b
          (reduced_cons v.a (0 ∷ 1 ∷ []) c.args.v.ready.below.a
          (reduced_cons 0 (1 ∷ []) (omega arith) (reduced_cons 1 [] (omega arith) (reduced_nil (omega arith)))));
      same = f_words v;
    }
