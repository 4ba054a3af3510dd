-- Values at or above p (document 02, E2): a question or a kernel sheet and the same sheet with its values reduced get the same answer, number and every
-- word; and whatever the values are, neither service refuses a sheet with 5.
-- Assumes nothing.
use Rattle.std.specs.Prelude.{◌≡◌, refl, ◌↔◌, List, [], ◌∷◌, ◌++◌, ℕ, length, Result, Err}
use Rattle.std.proofs.Common.{sym, ap₂, subst}
use Rattle.zmod.specs.Prime.{prime_pos}
use Rattle.questions.specs.Questions.{Questions, AllYes}
use Rattle.questions.specs.Numbered.{yes_to, no_by}
use Rattle.questions.specs.Joined.{all_front}
use Rattle.questions.specs.Alike.{Alike, alike_refl, alike_sym, alike_yes, alike_no, alike_joined}
use Rattle.questions.specs.Answers.{Outcome, result, refused, Writes}
use Rattle.sheet.specs.declared.Form.{Form}
use Rattle.sheet.specs.declared.Form.TheVariants.{Question, Kernel}
use Rattle.sheet.specs.declared.Values.{Values}
use Rattle.sheet.specs.Values.{values_of, gOf}
use Rattle.sheet.specs.Asked.{asked}
use Rattle.sheet.specs.Reduction.{Modulo, question_modulo, kernel_modulo, five_always}
use Rattle.reading.specs.ReducedSheet.{reduced, values_same, g_same, reduced_alike}
use Rattle.questions.specs.Number.{outcome}
use Rattle.questions.specs.declared.refusal.Refusal.{Refusal}
use Rattle.questions.specs.declared.refusal.Refusal.TheVariants as refusal
use Rattle.promises.specs.Asked.{Room, Solvable, solve_asks, last_ask, kernel_asks}
use Rattle.promises.specs.Answer.{CertificateIn, SolveRight, KernelIn, KernelRight}

-- ── a service that asks 1, the questions of a form, and then some of the values and of g

module _ (form : Form) (modulo : Modulo form) (ws : List ℕ) (later : Values → List ℕ → Questions) where
  abbrev asks : List ℕ → ℕ → Questions
  asks us room = (1, Room room) ∷ asked form us ++ later (values_of form us) (gOf form us)

  -- what holds of the values and the g of a sheet that passes holds of those of the reduced sheet, and the other way round
  module _ (P : Values → List ℕ → Type 0) (all : AllYes (asked form ws)) where
    said : P (values_of form (reduced ws)) (gOf form (reduced ws)) ≡ P (values_of form ws) (gOf form ws)
    said = let headed = yes_to (asked form ws) 2 all in ap₂ P (values_same form modulo ws headed) (g_same form modulo ws headed)

    to_reduced : P (values_of form ws) (gOf form ws) → P (values_of form (reduced ws)) (gOf form (reduced ws))
    to_reduced h = subst (λ T. T) (sym said) h

    of_reduced : P (values_of form (reduced ws)) (gOf form (reduced ws)) → P (values_of form ws) (gOf form ws)
    of_reduced h = subst (λ T. T) said h

  -- the questions are answered alike
  asks_alike : (room : ℕ) → Alike (asks ws room) (asks (reduced ws) room)
  asks_alike room =
      let front : Alike (asked form ws) (asked form (reduced ws)) =
      alike_sym (asked form (reduced ws)) (asked form ws) (reduced_alike form modulo ws) in (
        refl,
        λ h. h,
        λ h. h,
        λ _. alike_joined (asked form ws) (asked form (reduced ws)) (later (values_of form ws) (gOf form ws))
            (later (values_of form (reduced ws)) (gOf form (reduced ws))) front (λ all.
            to_reduced (λ v g. Alike (later (values_of form ws) (gOf form ws)) (later v g)) all (alike_refl (later (values_of form ws) (gOf form ws)))),
      )

  -- and so one answer is right for both
  module _ (In : Values → List ℕ → ℕ → List ℕ → Type 0) (before after : List ℕ) where
    abbrev Written_in : List ℕ → Outcome ℕ → Type 0
    Written_in us o = Writes (asks us (length before)) (In (values_of form us) (gOf form us)) before after o

    abbrev qs : Questions
    qs = asks ws (length before)

    abbrev rs : Questions
    rs = asks (reduced ws) (length before)

    there : Alike qs rs
    there = asks_alike (length before)

    back : Alike rs qs
    back = alike_sym qs rs there

    front : AllYes qs → AllYes (asked form ws)
    front all = all_front (asked form ws) (later (values_of form ws) (gOf form ws)) all.1

    writes_reduced : (o : Outcome ℕ) → Written_in ws o ↔ Written_in (reduced ws) o
    writes_reduced (result c) = (
      λ h. (alike_yes qs rs there h.0, to_reduced (λ v g. In v g c after) (front h.0) h.1),
      λ h. let all : AllYes qs = alike_yes rs qs back h.0 in (all, of_reduced (λ v g. In v g c after) (front all) h.1),
    )
    writes_reduced (refused n) = (λ h. (alike_no qs rs n there h.0, h.1), λ h. (alike_no rs qs n back h.0, h.1))

-- ── solve and kernel

module _ (ws before after : List ℕ) where
  -- A question and the same question with its values reduced have one right answer of solve: the number, or the count with every word of the buffer.
  pub solve_reduced : (r : Result ℕ Refusal) → SolveRight ws before after r ↔ SolveRight (reduced ws) before after r
  solve_reduced r =
      writes_reduced Question question_modulo ws (λ v _. (11, Solvable v) ∷ []) (λ v _ count after. CertificateIn v before after count) before after
      (outcome r)

  -- The same for a kernel sheet, the coefficients of g included.
  pub kernel_reduced : (r : Result ℕ Refusal) → KernelRight ws before after r ↔ KernelRight (reduced ws) before after r
  kernel_reduced r =
      writes_reduced Kernel kernel_modulo ws last_ask (λ v g count after. KernelIn v g before after count) before after (outcome r)

  -- Solve refuses no question with 5, and kernel no kernel sheet.
  pub solve_never_5 : SolveRight ws before after (Err refusal.Values) → ⊥
  solve_never_5 h =
      let no = no_by (solve_asks ws (length before)) 5 tt h.0 in
      no.1 (five_always Question question_modulo ws (prime_pos no.0.1.1.0.prime))

  pub kernel_never_5 : KernelRight ws before after (Err refusal.Values) → ⊥
  kernel_never_5 h =
      let no = no_by (kernel_asks ws (length before)) 5 tt h.0 in
      no.1 (five_always Kernel kernel_modulo ws (prime_pos no.0.1.1.0.prime))
