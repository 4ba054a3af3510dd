-- What becomes of the only polynomial that can meet the rules.
-- Assumes nothing.
use mathlib.Core.Path.{subst}
use mathlib.Core.List.{List}
use Prim.Native.Nat.{ℕ}
use Rattle.std.specs.Prelude.{Result, Ok, Err}
use Rattle.zmod.specs.Zmod.{Zmod}
use Rattle.isogeny.specs.Rules.{Meets}
use Rattle.questions.specs.declared.refusal.Refusal.{Refusal}
use Rattle.sheet.specs.declared.Values.{Values}
use Rattle.sheet.specs.Values.{question}
use Rattle.certifying.specs.Certified.{Certified}
use Rattle.candidate.specs.Candidate.{Candidate}
use Rattle.solution.specs.Solved.{Solved}

pub solved : (v : Values) (h s g before after : List ℕ) → Candidate v h s g → (r : Result ℕ Refusal) → Certified v g before after r → Solved v before after r
solved v h s g before after only (Ok c) made = made.certificate
solved v h s g before after only (Err refusal) made = record {
  number = made.number;
  none = λ t. made.unmet (subst (λ a. Meets (Zmod v.p) (question v) a) (only.only t.g t.meets) t.meets);
  kept = made.kept;
}
