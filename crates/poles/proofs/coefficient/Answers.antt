-- `poles::coefficient` meets its contract: the sum of the products is a coefficient of t H.
-- Assumes nothing.
use Rattle.std.proofs.Common.{arith, drop, length, length-drop, length-take, length-take-le, subst, sym, take, ◌-◌, ◌∙◌, ◌≡◌}
use Rattle.slices.specs.Stored.{part_below}
use Rattle.zmod.specs.Zmod.{mk}
use Rattle.zmod.specs.Residues.{Residue, reduced_take, residue_same}
use Rattle.poles.specs.Words.{correlation_remainder}
use Rattle.poles.proofs.coefficient.Goals as goal

pub slice_bounds-dot-end : goal.slice_bounds-dot-end
slice_bounds-dot-end c =
    let size-t : length (take c.args.len c.args.t.now) ≡ c.args.len =
    length-take-le c.args.len c.args.t.now (omega arith)
    in
    sym (size-t)

pub dot-sum-requires : goal.dot-sum-requires
dot-sum-requires c =
    let size_h : let h = c.args.h.now in
    length (take (length h - c.args.from) (drop c.args.from h)) ≡ length h - c.args.from =
    let h = c.args.h.now in
    omega (arith, length-take (length h - c.args.from) (drop c.args.from h), length-drop c.args.from h)
    in
    let size-t : length (take c.args.len c.args.t.now) ≡ c.args.len =
    length-take-le c.args.len c.args.t.now (omega arith)
    in
    let a = c.args in
    record {
      t_in_bounds = (omega (arith, size-t, size_h), omega (arith, size-t));
      reduced = (
        λ i. omega (arith, reduced_take a.t.now (omega arith) a.len c.requires.reduced.0 i),
        λ i. omega (arith, part_below a.h.now a.from (length a.h.now - a.from) a.p (omega arith) c.requires.reduced.1 i),
      );
    }

pub returns : goal.returns
returns c =
    let reduce = c.reduce in
    let dot = c.dot-sum in
    let a = c.args in
    residue_same (dot.ensures a.p ∙ correlation_remainder a.p a.h.now a.t.now a.len a.from (omega arith) (omega arith) (omega arith)
    c.requires.reduced.2) (subst (Residue a.p (mk a.p dot.result)) (sym c.from.ensures) reduce.ensures)
