-- `power_sums::sums_turn` meets its contract. Assumes nothing.
use Rattle.std.proofs.Common.{ap, arith, sym, ◌∙◌}
use Rattle.zmod.specs.Zmod.{Zmod, mk}
use Rattle.power_sums.specs.Four.{solved_four}
use Rattle.power_sums.specs.Sums.{Newton, newton_causal, newton₀, newton₁, newton₂, newton₃, due_now}
use Rattle.power_sums.proofs.sums_turn.Goals as goal

pub returns-clause-known : goal.returns-clause-known
returns-clause-known c =
    let a = c.args in
    let w = c.reduce-w in
    let x = c.residue-x in
    let y = c.residue-y in
    let z = c.residue-z in
    let put = c.put in
    let rows = c.sums_rows in
    let s = put.new.out in
    λ g n h. record {
      solved = solved_four a.p (Newton (Zmod a.p) a.d g) (newton_causal a.p a.d g) a.s.now s a.i w.result x.result
          y.result z.result put.ensures w.ensures.below x.ensures.below y.ensures.below z.ensures.below
          (newton₀ a.p a.d g a.e.now a.acc.now a.s.now s a.i _ _ _ _ c.requires.le_i.0 (omega arith) n h.due_from put.ensures
          (sym w.ensures.class))
          (newton₁ a.p a.d g a.e.now a.acc.now a.s.now s a.i _ _ _ _ c.requires.le_i.0 (omega arith) n h.due_from put.ensures
          (sym (x.ensures.class ∙ ap (mk a.p) (omega arith))))
          (newton₂ a.p a.d g a.e.now a.acc.now a.s.now s a.i _ _ _ _ c.requires.le_i.0 (omega arith) n h.due_from put.ensures
          (sym (y.ensures.class ∙ ap (mk a.p) (omega arith))))
          (newton₃ a.p a.d g a.e.now a.acc.now a.s.now s a.i _ _ _ _ c.requires.le_i.0 (omega arith) n h.due_from put.ensures
          (sym z.ensures.class))
          h.solved;
      due_from = rows.ensures.due g n (λ k l m. due_now a.p a.d g a.e.now a.acc.now a.s.now s a.i _ _ _ _ c.requires.le_i.0
          (omega arith) n
          h.due_from put.ensures k (omega arith) m);
    }
