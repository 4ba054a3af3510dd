-- What is promised of the kernel sum that is found: every σ that has a g which meets the rules is this one; where none is found, no σ has one. (That the sum
-- of the poles of the expansion is such a one: `proofs/CandidateSum`.)
-- Assumes nothing.
use Rattle.std.specs.Prelude.{◌≡◌, Option, None, Some, ℕ, ◌*◌, ◌-◌, ◌<◌}
use Rattle.series.specs.Series.{Seq}
use Rattle.zmod.specs.Zmod.{Elt, Zmod, mk}
use Rattle.isogeny.specs.Curve.{Nonsingular}
use Rattle.isogeny.specs.Rules.{Question, Meets}
use Rattle.kernel_sum.specs.WithoutSum.{with_sum}
use Rattle.sheet.specs.declared.Values.{Values}
use Rattle.sheet.specs.Values.{half, question}
use Rattle.sheet.specs.Ready.{Ready}

-- the question of the values with another kernel sum
abbrev pub asked : (v : Values) → Elt v.p → Question (Zmod v.p)
asked v σ = with_sum (Zmod v.p) (question v).A (question v).B (question v).Ã (question v).B̃ (half v) σ

abbrev pub CandidateSum : Values → Option ℕ → Type 0
CandidateSum v None = (σ : Elt v.p) (g : Seq (Zmod v.p)) → Meets (Zmod v.p) (asked v σ) g → ⊥
CandidateSum v (Some s) = (s < v.p) × ((σ : Elt v.p) (g : Seq (Zmod v.p)) → Meets (Zmod v.p) (asked v σ) g → σ ≡ mk v.p s)

-- what makes it the only one: questions 3, 4, 5 and 17, and 7 of the domain
pub record Determined (v : Values) : Type 0 where
  pub ready : Ready v
  pub large : 8 * v.degree - 5 < v.p
  pub curve : Nonsingular (Zmod v.p) (question v).A (question v).B
