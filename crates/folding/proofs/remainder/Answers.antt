-- `folding::remainder` meets its contract. Assumes nothing.
use Rattle.std.proofs.Common.{List, ap, arith, drop, get_or, length, length-drop, length-take, length-take-le, subst, sym, take}
use Rattle.std.proofs.Common.{take_at, ℕ, ◌*◌, ◌+◌, ◌-◌, ◌<◌, ◌^◌, ◌∙◌, ◌≡◌, ◌≤◌}
use Rattle.slices.specs.Stored.{part_below}
use Rattle.series.specs.Series.{sums}
use Rattle.zmod.specs.Zmod.{Zmod}
use Rattle.zmod.specs.Residues.{poly, Residues, reduced_take}
use Rattle.barrett.specs.Modulus.{prepared, prepared_positive, prepared_below}
use Rattle.rows.specs.Sums.{Sums, products_low}
use Rattle.folding.specs.Combination.{combination}
use Rattle.folding.specs.Table.{rows}
use Rattle.folding.specs.Square.{remainder_folded}
use Rattle.folding.proofs.remainder.Goals as goal

-- the lower half has d words
half : (d : ℕ) (acc : List ℕ) → length acc ≡ d + d → length (take d acc) ≡ d
half d acc e = length-take-le d acc (omega arith)

pub remainders-requires : goal.remainders-requires
remainders-requires c =
    let a = c.args in
    let p = a.m.p in
    let acc = a.acc.now in
    let d = length a.r.now in
    let pos = prepared_positive (prepared a.m) in record {
      len_bound = omega (arith, length-take (length acc - d) (drop d acc), length-drop d acc, c.requires.r_len_bound.1, c.requires.r_len_bound.2);
      by_index = part_below acc d (length acc - d) (2 ^ 36 * p) (omega (arith, pos)) (λ j.
          products_low 32 p (get_or acc j 0) pos (omega (arith, prepared_below (prepared a.m))) (c.requires.reduced.1 j));
    }

pub slice_bounds-fold-end-2 : goal.slice_bounds-fold-end-2
slice_bounds-fold-end-2 c =
    simp length-take (omega (arith, c.requires.r_len_bound.1))

pub fold-requires : goal.fold-requires
fold-requires c =
    let a = c.args in
    let p = a.m.p in
    let acc = a.acc.now in
    let d = length a.r.now in
    let size = half d acc c.requires.r_len_bound.1 in record {
      q_len = (
        omega (arith, size, c.requires.r_len_bound.2),
        omega (arith, size, c.requires.r_len_bound.0),
        subst (λ n. length a.t.now ≡ n * (n + 3)) (sym size) c.requires.r_len_bound.3,
      );
      p_bound = (
        omega (arith, prepared_below (prepared a.m)),
        c.remainders.ensures.reduced,
        c.requires.reduced.0,
        λ k. omega (arith, reduced_take {p = 1 + 32 * ((p - 1) * (p - 1))} acc (omega arith) d (λ j. omega (arith, c.requires.reduced.1 j)) k),
      );
    }

pub slice_bounds-remainders-end-3 : goal.slice_bounds-remainders-end-3
slice_bounds-remainders-end-3 c =
    let a = c.args in
    let d = length a.r.now in
    let size = half d a.acc.now c.requires.r_len_bound.1 in
    sym (ap length (take_at c.fold.new.acc (drop d a.acc.now) d (omega (arith, size))) ∙ omega (arith, size))

pub remainders-requires-2 : goal.remainders-requires-2
remainders-requires-2 c =
    let a = c.args in
    let acc = a.acc.now in
    let d = length a.r.now in
    let size = half d acc c.requires.r_len_bound.1 in
    let part = c.fold.new.acc in
    let front = take_at part (drop d acc) d (omega (arith, size)) in record {
      len_bound = subst (λ l. d ≤ length l) (sym front) (omega (arith, size));
      by_index = subst (λ l. (i : ℕ) → get_or l i 0 < 2 ^ 36 * a.m.p) (sym front) c.fold.ensures.bounded;
    }

pub returns : goal.returns
returns c =
    let a = c.args in
    let p = a.m.p in
    let acc = a.acc.now in
    let d = length a.r.now in
    let size = half d acc c.requires.r_len_bound.1 in
    let q = c.remainders.new.out in
    let part = c.fold.new.acc in
    let r = c.remainders-2.new.out in
    remainder_folded p d (length acc - d) acc q a.t.now part r c.requires.r_len_bound.1 (omega (arith, c.requires.r_len_bound.1))
    (omega (arith, c.requires.r_len_bound.2)) (omega (arith, size)) (omega arith) c.remainders.ensures
    (subst (λ n. Sums p (sums (Zmod p) (poly p (take d acc)) (combination (Zmod p) n (poly p q) (rows p n a.t.now))) part) size c.fold.ensures)
    (subst (λ l. Residues p (poly p l) r) (take_at part (drop d acc) d (omega (arith, size))) c.remainders-2.ensures)
