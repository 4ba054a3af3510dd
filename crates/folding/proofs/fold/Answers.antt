-- `folding::fold` meets its contract. Assumes nothing.
use Rattle.std.proofs.Common.{arith, drop, length, length-drop, length-take, refl, subst, ◌*◌, ◌+◌, ◌-◌, ◌≡◌}
use native.Mathlib.Nat as N
use Rattle.slices.specs.Filling.{Filled}
use Rattle.slices.specs.Stored.{part_below}
use Rattle.folding.specs.Table.{row_inside}
use Rattle.folding.specs.Fold.{Folded, fold_more, from, folded_none, fold_fits, folded_more, folded_all}
use Rattle.folding.proofs.fold.Goals.{After-fold_four}
use Rattle.folding.proofs.fold.Goals as goal

pub loop-i-init : goal.loop-i-init
loop-i-init c =
    let a = c.args in
    (refl, omega arith, folded_none a.p a.q.now a.t.now a.acc.now c.requires.p_bound.3)

pub fold_four-requires : goal.fold_four-requires
fold_four-requires c =
    let a = c.args in
    let loop = c.loop-i in
    let i = loop.i in
    let d = length a.acc.now in
    let t = a.t.now in record {
      i_bound = (
        omega arith,
        omega (
          arith,
          loop.invariant.0,
          row_inside d (3 + i) (omega arith),
          N.add-mul 3 i d,
          length-take (length t - i * d) (drop (i * d) t),
          length-drop (i * d) t,
        ),
        c.requires.p_bound.0,
        c.requires.p_bound.1,
        part_below t (i * d) (length t - i * d) a.p (omega (arith, c.requires.p_bound.1 0)) c.requires.p_bound.2,
      );
      by_index = fold_fits a.p a.q.now t a.acc.now c.requires.p_bound.1 c.requires.p_bound.2 i loop.acc (omega arith) c.requires.p_bound.0 loop.invariant.2;
    }

-- a turn adds four rows
turned : (c : After-fold_four) → Folded c.args.p c.args.q.now c.args.t.now c.args.acc.now (c.loop-i.i + 4) c.fold_four.new.acc
turned c =
    let a = c.args in
    let loop = c.loop-i in
    let four = c.fold_four in
    folded_more a.p a.q.now a.t.now a.acc.now c.requires.p_bound.1 c.requires.p_bound.2 loop.i loop.acc (omega arith) c.requires.p_bound.0 loop.invariant.2
    four.new.acc (omega arith) c.requires.q_len.2 (omega (arith, loop.invariant.0))
    (subst (λ n. Filled (λ k v. v ≡ fold_more n loop.acc a.q.now (from a.t.now (loop.i * length a.acc.now)) loop.i k) four.new.acc n) loop.invariant.0
    four.ensures)

pub loop-i-preserved : goal.loop-i-preserved
loop-i-preserved c =
    (omega (arith, c.loop-i.invariant.0), omega arith, turned (goal.at.loop-i-preserved c).After-fold_four)

pub returns : goal.returns
returns c =
    let a = c.args in
    let loop = c.loop-i in
    folded_all a.p a.q.now a.t.now a.acc.now c.requires.p_bound.1 c.requires.p_bound.2 loop.i loop.acc (omega arith) c.requires.p_bound.0
    loop.invariant.2 c.requires.q_len.0 (omega arith) loop.invariant.0

-- the end is also reached after a turn that no whole step follows
pub returns-2 : goal.returns-2
returns-2 c =
    let a = c.args in
    folded_all a.p a.q.now a.t.now a.acc.now c.requires.p_bound.1 c.requires.p_bound.2 (c.loop-i.i + 4) c.fold_four.new.acc (omega arith) c.requires.p_bound.0
    (turned (goal.at.returns-2 c).After-fold_four) c.requires.q_len.0 (omega arith) (omega (arith, c.loop-i.invariant.0))
