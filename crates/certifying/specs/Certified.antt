-- What becomes of a g with R1: its certificate in the answer buffer, or 11 where R3 fails, and then the buffer is as it was.
-- Assumes nothing.
use Rattle.std.specs.Prelude.{◌≡◌, List, ℕ, Result, Ok, Err}
use Rattle.zmod.specs.Zmod.{Zmod}
use Rattle.zmod.specs.Residues.{poly}
use Rattle.isogeny.specs.Rules.{Meets}
use Rattle.questions.specs.Number.{number}
use Rattle.questions.specs.declared.refusal.Refusal.{Refusal}
use Rattle.sheet.specs.declared.Values.{Values}
use Rattle.sheet.specs.Values.{question}
use Rattle.promises.specs.Answer.{CertificateIn}

pub record Done (v : Values) (g before after : List ℕ) (count : ℕ) : Type 0 where
  pub certificate : CertificateIn v before after count
  pub same_g : certificate.g ≡ g

pub record Unmet (v : Values) (g before after : List ℕ) (k : ℕ) : Type 0 where
  pub number : k ≡ 11
  pub unmet : Meets (Zmod v.p) (question v) (poly v.p g) → ⊥
  pub kept : after ≡ before

abbrev pub Certified : Values → List ℕ → List ℕ → List ℕ → Result ℕ Refusal → Type 0
Certified v g before after (Ok c) = Done v g before after c
Certified v g before after (Err refusal) = Unmet v g before after (number refusal)
