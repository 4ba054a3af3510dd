-- `folding::fold_four` meets its contract. Assumes nothing.
use Rattle.std.proofs.Common.{arith, get_or, length, lt_of_le_of_lt, rules, ℕ, ◌*◌, ◌+◌, ◌-◌, ◌<◌, ◌^◌, ◌∙◌, ◌≡◌}
use Rattle.slices.specs.Stored.{part_below}
use Rattle.rows.specs.Rows.{four_more, of_words}
use Rattle.folding.specs.Fold.{from, four_are, four_le}
use Rattle.folding.proofs.fold_four.Goals as goal

pub four-requires : goal.four-requires
four-requires c =
    let a = c.args in
    let p = a.p in
    let t = a.t.now in
    let w : c.word-w.result < p = omega (arith, c.word-w.ensures, c.requires.i_bound.3 a.i) in
    let x : c.word-x.result < p = omega (arith, c.word-x.ensures, c.requires.i_bound.3 (1 + a.i)) in
    let y : c.word-y.result < p = omega (arith, c.word-y.ensures, c.requires.i_bound.3 (2 + a.i)) in
    let z : c.word-z.result < p = omega (arith, c.word-z.ensures, c.requires.i_bound.3 (3 + a.i)) in
    let low : (u j : ℕ) → get_or (from t u) j 0 < p = λ u. part_below t u (length t - u) p (omega arith) c.requires.i_bound.4 in
    let short : (n : ℕ) → n < p → n < 2 ^ 32 = λ n l. omega (arith, c.requires.i_bound.2) in record {
      out_in_bounds = (omega arith, search rules, search rules, search rules);
      reduced = (λ j. short _ (c.requires.i_bound.4 j), λ j. short _ (low _ j), λ j. short _ (low _ j), λ j. short _ (low _ j));
      w_bound = (short _ w, short _ x, short _ y, short _ z);
      by_index = λ j l. lt_of_le_of_lt (four_le p _ _ _ _ _ _ _ _ _ w x y z (c.requires.i_bound.4 j) (low _ j) (low _ j) (low _ j)) (c.requires.by_index j);
    }

pub returns : goal.returns
returns c =
    let a = c.args in
    let d = length a.acc.now in
    let t = a.t.now in
    let four = c.four in
    λ k l. of_words a.q.now a.i _ _ _ _ c.word-w.ensures c.word-x.ensures c.word-y.ensures c.word-z.ensures
    (λ w x y z. get_or four.new.out k 0 ≡ four_more a.acc.now t (from t d) (from t (2 * d)) (from t (3 * d)) w x y z k) (four.ensures k l)
    ∙ four_are d a.acc.now a.q.now t a.i c.requires.i_bound.1 k l
