-- The number that stands for a list of questions: 0, or that of the first no.
-- Assumes nothing.
use Rattle.std.specs.Prelude.{◌≡◌, ◌⊎◌, ℕ}
use Rattle.std.proofs.Common.{inl, inr}
use Rattle.questions.specs.Questions.{Questions, AllYes, FirstNo}

-- 0 where all are answered with yes, else the number of the first no
abbrev pub Judged : Questions → ℕ → Type 0
Judged qs k = ((k ≡ 0) × AllYes qs) ⊎ ((k ≡ 0 → ⊥) × FirstNo qs k)

module _ (qs : Questions) (k : ℕ) (judged : Judged qs k) where
  pub judged_yes : k ≡ 0 → AllYes qs
  judged_yes z = go judged
    where
      go : Judged qs k → AllYes qs
      go (inl h) = h.1
      go (inr h) = absurd (h.0 z)

  pub judged_no : (k ≡ 0 → ⊥) → FirstNo qs k
  judged_no nz = go judged
    where
      go : Judged qs k → FirstNo qs k
      go (inl h) = absurd (nz h.0)
      go (inr h) = h.1
