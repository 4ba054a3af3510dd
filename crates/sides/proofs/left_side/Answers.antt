-- `sides::left_side` meets its contract. Assumes nothing.
use Rattle.std.proofs.Common.{List, ℕ, arith, drop, length, length-take, replicate, take, ◌*◌, ◌+◌, ◌-◌, ◌≡◌, ◌≤◌}
use Rattle.std.proofs.lemmas.List.{length-replicate}
use lib.Seq.{take_at}
use Rattle.sheet.specs.Values.{half}
use Rattle.sides.proofs.SideSteps.{left_steps}
use Rattle.sides.proofs.left_side.Goals as goal

-- cleared room
abbrev blank : List ℕ
blank = replicate 766 0

pub returns : goal.returns
returns c =
    let at = c.args in
    let d = length at.g.now - 1 in
    let dg = c.derivative-dg in
    let dn = c.derivative-dn in
    let w = c.cross.new.w in
    let ww = c.square-ww in
    let sizes : (length at.g.now ≡ half at.v.values + 1) × (length at.n.now ≡ 2 * half at.v.values + 2) × (half at.v.values ≤ 127) =
    (c.requires.holds_g.count, c.requires.holds_n.count, omega (arith, at.v.ready.degree))
    in
    let size : length w ≡ 3 * d + 1 = omega (arith, sizes, c.cross.auto, length-take (3 * d + 1) blank, length-replicate {A = ℕ} 766 0) in
    left_steps at.v.values at.g.now at.n.now (take d dg.result) (take (2 * d + 1) dn.result) w (take (6 * d + 1) ww.result)
    c.cubic_words-cubic.result c.product.new.out c.requires.holds_g.count c.requires.holds_n.count
    (simp length-take (omega (arith, sizes))) (simp length-take (omega (arith, sizes))) (omega (arith, sizes, size)) (simp length-take (omega (arith, sizes)))
    dg.ensures dn.ensures c.cross.ensures (rw (take_at w (drop (3 * d + 1) blank) (3 * d + 1) size) at ww.ensures)
    c.cubic_words-cubic.ensures c.product.ensures
