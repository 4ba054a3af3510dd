-- Two maps that meet, by their values and coefficients, and what becomes of them: the certificate of the composite, and never a refusal.
-- Assumes nothing.
use Rattle.std.specs.Prelude.{◌≡◌, List, ℕ, Result, Ok, Err}
use Rattle.zmod.specs.Zmod.{Zmod}
use Rattle.zmod.specs.Residues.{poly}
use Rattle.isogeny.specs.Rules.{N, Meets}
use Rattle.questions.specs.declared.refusal.Refusal.{Refusal}
use Rattle.sheet.specs.declared.Values.{Values}
use Rattle.sheet.specs.Values.{question}
use Rattle.sheet.specs.Ready.{Ready, HoldsG, HoldsN}
use Rattle.promises.specs.Asked.{ComposableValues, ProductAllowed}
use Rattle.promises.specs.Answer.{ComposeIn}

pub record Joined (v w : Values) (g₁ n₁ g₂ : List ℕ) : Type 0 where
  pub ready₁ : Ready v
  pub ready₂ : Ready w
  pub meet : ComposableValues v w
  pub allowed : ProductAllowed v w
  pub g₁_words : HoldsG v g₁
  pub n₁_words : HoldsN v n₁
  pub g₂_words : HoldsG w g₂
  pub meets₁ : Meets (Zmod v.p) (question v) (poly v.p g₁)
  pub meets₂ : Meets (Zmod w.p) (question w) (poly w.p g₂)
  pub n₁_is : poly v.p n₁ ≡ N (Zmod v.p) (question v) (poly v.p g₁)

abbrev pub Composed : Values → Values → List ℕ → List ℕ → List ℕ → List ℕ → Result ℕ Refusal → Type 0
Composed v w g₁ g₂ before after (Ok c) = ComposeIn v w g₁ g₂ before after c
Composed v w g₁ g₂ before after (Err refusal) = ⊥
