-- A kernel polynomial's σ and codomain, for the values v and the coefficients g of a kernel sheet; and questions 8 and 11 with the certificate.
-- Assumes nothing.
use Rattle.std.specs.Prelude.{◌≡◌, List, ℕ, ◌-◌, Result}
use Rattle.ring.specs.Ring.{cast}
use Rattle.zmod.specs.Zmod.{Zmod, times, minus}
use Rattle.zmod.specs.Residues.{Residue, poly}
use Rattle.isogeny.specs.Expansion.{power_sums_of}
use Rattle.isogeny.specs.Kernel.{codomain_A, codomain_B}
use Rattle.questions.specs.Answers.{Writes}
use Rattle.questions.specs.Number.{outcome}
use Rattle.questions.specs.declared.refusal.Refusal.{Refusal}
use Rattle.sheet.specs.declared.Values.{Values}
use Rattle.sheet.specs.Values.{question, half}
use Rattle.promises.specs.Asked.{last_ask}
use Rattle.promises.specs.Answer.{with, KernelIn}

-- the only ones that can pass: σ by R1, and Ã and B̃ from the power sums of g
pub record Completed (v : Values) (g : List ℕ) (w : Values) : Type 0 where
  pub ã : ℕ
  pub b̃ : ℕ
  pub σ : ℕ
  pub is : w ≡ with v ã b̃ σ
  pub ã-is : Residue v.p (codomain_A (Zmod v.p) (question v).A (question v).B (power_sums_of (Zmod v.p) (half v) (poly v.p g))) ã
  pub b̃-is : Residue v.p (codomain_B (Zmod v.p) (question v).A (question v).B (power_sums_of (Zmod v.p) (half v) (poly v.p g))) b̃
  pub σ_is : Residue v.p (minus v.p (times v.p (cast (Zmod v.p) 2) (poly v.p g (half v - 1)))) σ

abbrev pub Finished : Values → List ℕ → List ℕ → List ℕ → Result ℕ Refusal → Type 0
Finished v g before after r = Writes (last_ask v g) (λ count after. KernelIn v g before after count) before after (outcome r)
