-- `expansion::recurs` meets its contract. Assumes nothing.
use Rattle.std.proofs.Common.{List, arith, drop, length, subst, take, ℕ, ◌+◌, ◌-◌, ◌≤◌}
use Rattle.series.specs.Series.{conv}
use Rattle.zmod.specs.Zmod.{Zmod}
use Rattle.zmod.specs.Residues.{poly, Residues}
use Rattle.expansion.specs.Products.{squares_of}
use Rattle.expansion.proofs.recurs.Goals as goal

-- h without h₀
abbrev rest : List ℕ → List ℕ
rest h = take (length h - 1) (drop 1 h)

pub recurs_by-requires-clause-h_in_bounds : goal.recurs_by-requires-clause-h_in_bounds
recurs_by-requires-clause-h_in_bounds c =
    let a = c.args in
    let h = a.h.now in
    let out = c.square.new.out in
    let long : length h ≤ length out + 3 = omega (arith, c.requires.h_len_bound, c.requires.squares_len, c.square.auto) in (
      long,
      squares_of a.v.values.p h out (length h - 1) (omega arith) long
          (subst (λ p. Residues p (conv (Zmod p) (poly p (rest h)) (poly p (rest h))) out) a.v.over c.square.ensures),
    )
