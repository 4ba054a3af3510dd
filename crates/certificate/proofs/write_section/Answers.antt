-- `certificate::write_section` meets its contract. The invariant: i words are written.
-- Assumes nothing.
use Rattle.std.proofs.Common.{List, ap₂, arith, set, ℕ, ◌+◌, ◌∙◌}
use Rattle.sheet.specs.Code.{code}
use Rattle.certificate.proofs.Stores.{section_more}
use Rattle.certificate.proofs.write_section.Goals as goal

pub loop-i-preserved : goal.loop-i-preserved
loop-i-preserved c =
    let at = c.args in
    ap₂ (λ (o : List ℕ) (w : ℕ). set o (at.from + c.loop-i.i) w) c.loop-i.invariant c.word_of.ensures
    ∙ section_more (code at.kind) at.xs.now at.from at.out.now c.loop-i.i (omega arith) (omega arith)
