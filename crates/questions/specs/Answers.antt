-- What a service answers, a result or the number of a refusal, and which answer is right: the result that is right where every question is answered with
-- yes, else the number of the first no. Each service's promise is one of the two below, and one answer is right for it at most.
-- Assumes nothing.
use Rattle.std.specs.Prelude.{◌≡◌, List, ℕ}
use Rattle.std.proofs.Common.{sym, ◌∙◌, ap, arith}
use Rattle.questions.specs.Questions.{Questions, AllYes, FirstNo, first_no_unique, not_both}

pub data Outcome (A : Type 0) : Type 0 where
  result : A → Outcome A
  refused : ℕ → Outcome A

-- a result is no refusal
pub apart : {A : Type 0} (a : A) (n : ℕ) → result a ≡ refused n → ⊥
apart a n e = let z : ◌≡◌ {A = ℕ} 0 1 = cc in omega arith

-- a service that answers by value alone
abbrev pub Answers : {A : Type 0} → Questions → (A → Type 0) → Outcome A → Type 0
Answers qs Right (result a) = AllYes qs × Right a
Answers qs Right (refused n) = FirstNo qs n

-- a service that writes into a lent buffer, which holds `before` at the call and `after` when it ends: a refusal leaves it as it was
abbrev pub Writes : {A : Type 0} → Questions → (A → List ℕ → Type 0) → List ℕ → List ℕ → Outcome A → Type 0
Writes qs Right before after (result a) = AllYes qs × Right a after
Writes qs Right before after (refused n) = FirstNo qs n × (after ≡ before)

module _ {A : Type 0} (qs : Questions) where
  pub answers_unique : (Right : A → Type 0) → (AllYes qs → (a b : A) → Right a → Right b → a ≡ b)
      → (o o' : Outcome A) → Answers qs Right o → Answers qs Right o' → o ≡ o'
  answers_unique Right one (result a) (result b) h k = ap result (one h.0 a b h.1 k.1)
  answers_unique Right one (result a) (refused n) h k = absurd (not_both qs n h.0 k)
  answers_unique Right one (refused n) (result b) h k = absurd (not_both qs n k.0 h)
  answers_unique Right one (refused m) (refused n) h k = ap refused (first_no_unique qs m n h k)

  pub writes_unique : (Right : A → List ℕ → Type 0) (before : List ℕ)
      → (AllYes qs → (a b : A) (xs ys : List ℕ) → Right a xs → Right b ys → (a ≡ b) × (xs ≡ ys))
      → (o o' : Outcome A) (after after' : List ℕ) → Writes qs Right before after o → Writes qs Right before after' o' → (o ≡ o') × (after ≡ after')
  writes_unique Right before one (result a) (result b) xs ys h k = let same = one h.0 a b xs ys h.1 k.1 in (ap result same.0, same.1)
  writes_unique Right before one (result a) (refused n) xs ys h k = absurd (not_both qs n h.0 k.0)
  writes_unique Right before one (refused n) (result b) xs ys h k = absurd (not_both qs n k.0 h.0)
  writes_unique Right before one (refused m) (refused n) xs ys h k = (ap refused (first_no_unique qs m n h.0 k.0), h.1 ∙ sym k.1)
