-- What a customer can cite of solve: one answer is right and no other, with every word of the lent buffer; what it writes passes check; and it refuses with 11
-- exactly where no polynomial meets the rules.
-- Assumes nothing.
use Rattle.std.specs.Prelude.{◌≡◌, refl, List, [], ◌∷◌, ℕ, length, take, Result, Ok, Err}
use Rattle.std.proofs.Common.{inl, inr}
use Rattle.series.specs.Series.{Seq}
use Rattle.zmod.specs.Zmod.{Zmod}
use Rattle.isogeny.specs.Rules.{Meets}
use Rattle.questions.specs.Questions.{AllYes}
use Rattle.questions.specs.Joined.{no_after, all_front}
use Rattle.questions.specs.Answers.{writes_unique}
use Rattle.questions.specs.Numbered.{yes_to, no_by}
use Rattle.sheet.specs.declared.Form.TheVariants.{Question}
use Rattle.sheet.specs.declared.Values.{Values}
use Rattle.sheet.specs.Values.{values_of, question}
use Rattle.sheet.specs.Asked.{Curves, asked}
use Rattle.sheet.specs.Ready.{ready}
use Rattle.questions.specs.Number.{outcome, same_outcome}
use Rattle.questions.specs.declared.refusal.Refusal.{Refusal}
use Rattle.questions.specs.declared.refusal.Refusal.TheVariants as refusal
use Rattle.promises.specs.Asked.{Room, Solvable, check_asks, solve_asks}
use Rattle.promises.specs.Answer.{CertificateIn, SolveRight}
use Rattle.guarantees.specs.Certified.{certified, one_certificate}

-- the questions before 11
pub solve_asked : (ws : List ℕ) (room : ℕ) → AllYes (solve_asks ws room) → AllYes (asked Question ws)
solve_asked ws room all = all_front (asked Question ws) ((11, Solvable (values_of Question ws)) ∷ []) all.1

-- One answer is right at most, with one content of the lent buffer.
pub solve_unique : (ws before after after' : List ℕ) (r r' : Result ℕ Refusal) → SolveRight ws before after r → SolveRight ws before after' r' → (r ≡ r') ×
    (after ≡ after')
solve_unique ws before after after' r r' h k =
    let v : Values = values_of Question ws in
    let same =
    writes_unique (solve_asks ws (length before)) (λ count after. CertificateIn (values_of Question ws) before after count) before (λ all c c' xs ys a b.
    one_certificate (values_of Question ws) (ready Question ws (solve_asked ws (length before) all)) before xs ys c c' a b)
    (outcome r) (outcome r') after after' h k in
    (same_outcome r r' same.0, same.1)

-- What solve writes passes check.
pub solve_certified : (ws before after : List ℕ) (c : ℕ) → SolveRight ws before after (Ok c) → AllYes (check_asks (take c after))
solve_certified ws before after c h =
    let all : AllYes (asked Question ws) = solve_asked ws (length before) h.0 in
    let curves : Curves Question (values_of Question ws) = yes_to (asked Question ws) 7 all in
    certified (values_of Question ws) (ready Question ws all) (record { domain = curves.domain; codomain = curves.codomain }) before after c h.1

-- 11 is right only where questions 1 to 7 have passed and no polynomial meets the rules,
pub refused_11 : (ws before after : List ℕ) → SolveRight ws before after (Err refusal.NoIsogeny)
    → Room (length before) × AllYes (asked Question ws)
    × ((g : Seq (Zmod (values_of Question ws).p)) → Meets (Zmod (values_of Question ws).p) (question (values_of Question ws)) g → ⊥)
refused_11 ws before after h =
    let no = no_by (solve_asks ws (length before)) 11 tt h.0 in
    (no.0.0, no.0.1, λ g meets. no.1 (record { g = g; meets = meets }))

-- and there it is right.
pub unsolved_11 : (ws before : List ℕ) → Room (length before) → AllYes (asked Question ws)
    → ((g : Seq (Zmod (values_of Question ws).p)) → Meets (Zmod (values_of Question ws).p) (question (values_of Question ws)) g → ⊥)
    → SolveRight ws before before (Err refusal.NoIsogeny)
unsolved_11 ws before room all none =
    (inr (room, no_after (asked Question ws) ((11, Solvable (values_of Question ws)) ∷ []) 11 all (inl (refl, λ s. none s.g s.meets))), refl)
