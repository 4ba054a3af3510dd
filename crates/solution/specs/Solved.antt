-- Solve on the values of an accepted question.
-- Assumes nothing.
use Rattle.std.specs.Prelude.{◌≡◌, List, ℕ, Result, Ok, Err}
use Rattle.questions.specs.Number.{number}
use Rattle.questions.specs.declared.refusal.Refusal.{Refusal}
use Rattle.sheet.specs.declared.Values.{Values}
use Rattle.promises.specs.Asked.{Solvable}
use Rattle.promises.specs.Answer.{CertificateIn}

-- no polynomial meets the rules, and the answer's words are as before
pub record Unsolved (v : Values) (before after : List ℕ) (k : ℕ) : Type 0 where
  pub number : k ≡ 11
  pub none : Solvable v → ⊥
  pub kept : after ≡ before

abbrev pub Solved : Values → List ℕ → List ℕ → Result ℕ Refusal → Type 0
Solved v before after (Ok c) = CertificateIn v before after c
Solved v before after (Err refusal) = Unsolved v before after (number refusal)
