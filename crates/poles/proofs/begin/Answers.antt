-- `poles::begin` meets its contract.
-- Assumes nothing.
use Rattle.std.proofs.Common.{arith, length, replicate, rules, set, subst, sym, ◌≡◌}
use Rattle.series.specs.Series.{zeros, const}
use Rattle.zmod.specs.Zmod.{Zmod, mk}
use Rattle.zmod.specs.Residues.{Reduced, poly}
use Rattle.poles.specs.Poles.{blank_zeros, blank_one}
use Rattle.poles.proofs.begin.Goals as goal

pub returns : goal.returns
returns c =
    let a = c.args in
    let e : c.fill.new.self ≡ replicate (length a.t.now) 0 = search rules in
    let f : c.fill-2.new.self ≡ replicate (length a.u.now) 0 = search rules in
    λ p large.
    let one = blank_one p (length a.u.now) large c.requires in
    let none = blank_zeros p (length a.t.now) (omega arith) in (
      subst (Reduced p) (sym e) none.0,
      subst (λ l. Reduced p (set l 0 1)) (sym f) one.0,
      subst (λ l. poly p l ≡ zeros (Zmod p)) (sym e) none.1,
      subst (λ l. poly p (set l 0 1) ≡ const (Zmod p) (mk p 1)) (sym f) one.1,
    )
