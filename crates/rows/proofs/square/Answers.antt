-- `rows::square` meets its contract. Assumes nothing.
use Rattle.std.proofs.Common.{ap, arith, length, replicate, rules, subst, ◌*◌, ◌^◌, ◌∙◌, ◌≡◌, ◌≤◌}
use Rattle.series.specs.Series.{conv}
use Rattle.zmod.specs.Zmod.{Zmod}
use Rattle.zmod.specs.Residues.{poly}
use Rattle.rows.specs.Room.{turns}
use Rattle.rows.specs.Sums.{ProductSums}
use Rattle.rows.proofs.square.Goals as goal

pub prepare-requires : goal.prepare-requires
prepare-requires c =
    (search rules, λ i. omega (arith, c.requires.p_nonzero.2 i))

pub square_turns-requires : goal.square_turns-requires
square_turns-requires c =
    let a = c.args in
    let fill = c.fill in
    let same : length a.acc.now ≡ length fill.new.self = omega arith in record {
      a_in_bounds = (omega arith, search rules);
      p_nonzero = (
        c.requires.p_nonzero.0,
        c.requires.p_nonzero.1,
        c.requires.p_nonzero.2,
        subst (λ n. 8 * turns (length a.a.now) n * a.p ≤ 2 ^ 36) same c.requires.p_nonzero.3,
      );
      above = (c.prepare.ensures, (fill.ensures.after (λ y e. e)) ∙ ap (λ n. replicate n 0) same);
    }

pub returns : goal.returns
returns c =
    let a = c.args in
    let turned = c.square_turns in
    let same : length c.fill.new.self ≡ length a.acc.now = omega arith in
    subst (λ n. ProductSums (8 * turns (length a.a.now) n) a.p (conv (Zmod a.p) (poly a.p a.a.now) (poly a.p a.a.now))
    turned.new.acc) same turned.ensures
