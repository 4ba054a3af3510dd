-- A sheet of more words than any sheet has: its first words, one more than the largest certificate has, get the answer that all of them get,
-- since questions 2 to 5 read the header alone and
-- question 6 is a no.
-- Assumes nothing.
use Rattle.std.specs.Prelude.{Result, Ok, Err}
use mathlib.Core.Path.{◌≡◌, subst}
use mathlib.Core.Logic.{◌⊎◌, inl, inr}
use mathlib.Core.List.{List, [], ◌∷◌, ◌++◌}
use Prim.Native.Nat.{ℕ, ◌+◌}
use native.Mathlib.Omega.{arith}
use lib.ListN.{take}
use Rattle.sheet.specs.declared.Form.{Form}
use Rattle.sheet.specs.declared.Form.TheVariants.{Question, Certificate, Kernel}
use Rattle.sheet.specs.Form.{most_words}
use Rattle.sheet.specs.Values.{values_of, gOf}
use Rattle.sheet.specs.Asked.{asked}
use Rattle.reading.specs.LongSheet.{front_yes, front_no, front_all}
use Rattle.questions.specs.Questions.{Questions, AllYes, FirstNo}
use Rattle.questions.specs.Joined.{no_before, no_split, all_front}
use Rattle.questions.specs.Number.{number}
use Rattle.questions.specs.declared.refusal.Refusal.{Refusal}
use Rattle.promises.specs.declared.Point.{Point}
use Rattle.promises.specs.Asked.{Solvable, last_ask, Given, certificate_rules, check_asks}
use Rattle.promises.specs.Answer.{CheckRight, SolveRight, KernelRight, PushRight}

-- the count of words that are kept: one more than the largest certificate has
abbrev pub kept : ℕ
kept = most_words + 1

-- the questions after those of the form
abbrev certified : List ℕ → Questions
certified us = certificate_rules us

abbrev pushed : Point → List ℕ → Questions
pushed at us = certified us ++ (12, Given (values_of Certificate us) at) ∷ []

abbrev solved : List ℕ → Questions
solved us = (11, Solvable (values_of Question us)) ∷ []

abbrev completed : List ℕ → Questions
completed us = last_ask (values_of Kernel us) (gOf Kernel us)

-- the first no of the words kept is that of all of them
asked_no : (form : Form) (ws : List ℕ) (n : ℕ) → FirstNo (asked form (take kept ws)) n → FirstNo (asked form ws) n
asked_no form ws n h = (front_no form ws kept (omega arith) n).0 h

-- words of which those kept pass are no more than that
whole : (form : Form) (ws : List ℕ) → AllYes (asked form (take kept ws)) → take kept ws ≡ ws
whole form ws all = front_all form ws kept (omega arith) ((front_yes form ws kept (omega arith)).0 all)

-- with the questions of a service after those of the form
long_no : (form : Form) (more : List ℕ → Questions) (ws : List ℕ) (n : ℕ)
    → FirstNo (asked form (take kept ws) ++ more (take kept ws)) n → FirstNo (asked form ws ++ more ws) n
long_no form more ws n h = go (no_split (asked form (take kept ws)) (more (take kept ws)) n h)
  where
    go : FirstNo (asked form (take kept ws)) n ⊎ (AllYes (asked form (take kept ws)) × FirstNo (more (take kept ws)) n) → FirstNo (asked form ws ++ more ws) n
    go (inl k) = no_before (asked form ws) (more ws) n (asked_no form ws n k)
    go (inr k) = subst (λ (us : List ℕ). FirstNo (asked form us ++ more us) n) (whole form ws k.0) h

-- what holds of the words kept, if they pass, holds of all of them
long_all : (form : Form) (more : List ℕ → Questions) (P : List ℕ → Type 0) (ws : List ℕ)
    → AllYes (asked form (take kept ws) ++ more (take kept ws)) → P (take kept ws) → P ws
long_all form more P ws all h = subst P (whole form ws (all_front (asked form (take kept ws)) (more (take kept ws)) all)) h

pub check_long : (ws : List ℕ) (r : Result (Unit {0}) Refusal) → CheckRight (take kept ws) r → CheckRight ws r
check_long ws (Ok tt) h = (long_all Certificate certified (λ us. AllYes (check_asks us)) ws h.0 h.0, tt)
check_long ws (Err q) h = long_no Certificate certified ws (number q) h

pub push_long : (ws : List ℕ) (at : Point) (r : Result Point Refusal) → PushRight (take kept ws) at r → PushRight ws at r
push_long ws at (Ok image) h = long_all Certificate (pushed at) (λ us. PushRight us at (Ok image)) ws h.0 h
push_long ws at (Err q) h = long_no Certificate (pushed at) ws (number q) h

pub solve_long : (ws before after : List ℕ) (r : Result ℕ Refusal) → SolveRight (take kept ws) before after r → SolveRight ws before after r
solve_long ws before after (Ok c) h =
    long_all Question solved (λ us. SolveRight us before after (Ok c)) ws h.0.1 h
solve_long ws before after (Err q) (inl h, same) = (inl h, same)
solve_long ws before after (Err q) (inr h, same) =
    (inr (h.0, long_no Question solved ws (number q) h.1), same)

pub kernel_long : (ws before after : List ℕ) (r : Result ℕ Refusal) → KernelRight (take kept ws) before after r → KernelRight ws before after r
kernel_long ws before after (Ok c) h =
    long_all Kernel completed (λ us. KernelRight us before after (Ok c)) ws h.0.1 h
kernel_long ws before after (Err q) (inl h, same) = (inl h, same)
kernel_long ws before after (Err q) (inr h, same) =
    (inr (h.0, long_no Kernel completed ws (number q) h.1), same)
