-- `folding::fill` meets its contract. Assumes nothing.
use Rattle.std.proofs.Common.{ap, arith, drop, get_or, length, length-drop, length-take, rules, subst, sym, take, ℕ, ◌*◌, ◌-◌, ◌∙◌, ◌≡◌}
use Rattle.zmod.specs.Residues.{poly, Residues, residues_self}
use Rattle.barrett.specs.Modulus.{prepared, prepared_positive}
use Rattle.rows.specs.Room.{zero_at}
use Rattle.folding.specs.Table.{row_inside, cleared_behind, begins, begun_none, begun_all}
use Rattle.folding.proofs.fill.Goals as goal

pub loop-i-init : goal.loop-i-init
loop-i-init c =
    let a = c.args in
    let pre = c.requires in
    let p = a.m.p in
    let n = a.n.now in
    let t = a.t.now in
    let d = length n in
    let len = length t - d * d in
    let part = c.fill.new.self in
    let fits = row_inside d d (omega arith) in
    let zeros : (j : ℕ) → get_or part j 0 ≡ 0 = λ j.
    ap (λ l. get_or l j 0) (c.fill.ensures.after (λ y h. h)) ∙ zero_at (length (take len (drop (d * d) t))) j in
    let behind = cleared_behind t part (d * d) len (omega (arith, pre.1)) (omega (arith, length-take len (drop (d * d) t), length-drop (d * d) t)) zeros in (
      omega (arith, pre.0),
      search rules,
      begun_none p n _ (λ k l. omega (arith, behind k l, prepared_positive (prepared a.m))),
      begins n pre.2 (omega (arith, pre.0)) (subst (Residues p (poly p n)) (sym c.copy_from_slice.ensures.after) (residues_self pre.2)),
    )

pub fill_row-requires : goal.fill_row-requires
fill_row-requires c =
    let pre = c.requires in
    let inv = c.loop-i.invariant in
    record {
      i_bound = (omega arith, inv.0, omega (arith, pre.1, inv.1), pre.2);
      begun_table = (inv.2, inv.3);
    }

pub loop-i-preserved : goal.loop-i-preserved
loop-i-preserved c =
    let inv = c.loop-i.invariant in
    let filled = c.fill_row in
    (omega (arith, inv.0), omega (arith, inv.1), filled.ensures.0, filled.ensures.1)

pub returns : goal.returns
returns c =
    let loop = c.loop-i in
    begun_all c.args.m.p c.args.n.now loop.t loop.i (omega arith) loop.invariant.2
