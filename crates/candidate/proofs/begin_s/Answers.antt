-- `candidate::begin_s` meets its contract. Assumes nothing.
use Rattle.std.proofs.Common.{ap, arith, length-set, set, ◌*◌, ◌-◌, ◌∙◌, ◌≡◌}
use Rattle.zmod.specs.Zmod.{Zmod, mk}
use Rattle.zmod.specs.Residues.{residue_same, residue_self}
use Rattle.sheet.specs.Values.{half, question}
use Rattle.candidate.specs.Equations.{SAt}
use Rattle.expansion.specs.Stores.{solved_none, solved_more}
use Rattle.candidate.proofs.Causal.{s_causal}
use Rattle.candidate.proofs.EquationTurns.{s_zero, s_one}
use Rattle.candidate.proofs.begin_s.Goals as goal

pub returns : goal.returns
returns c =
    let v = c.args.v.values in
    let s = c.args.s.now in
    let p = v.p in
    let q = question v in
    let r = c.reduce.result in
    let twice : v.degree - 1 ≡ 2 * half v = omega arith in
    λ h.
    solved_more p (SAt (Zmod p) q h) (s_causal (Zmod p) q h) (set s 0 r) 1 v.sigma (omega (arith, length-set s 0 r))
    (solved_more p (SAt (Zmod p) q h) (s_causal (Zmod p) q h) s 0 r (omega arith) (solved_none p (SAt (Zmod p) q h) s)
    (s_zero p q h s r (omega arith) (residue_same (ap (mk p) (c.from.ensures ∙ twice)) c.reduce.ensures)))
    (s_one p q h (set s 0 r) v.sigma (omega (arith, length-set s 0 r)) (residue_self v.sigma (omega arith)))
