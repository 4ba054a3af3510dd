-- From the words of a run of bytes to the bytes: question 2 also asks for whole words, and question 12 for a point number of at most 2^56.
-- Assumes nothing.
use Rattle.std.specs.Prelude.{Result, Ok, Err}
use mathlib.Core.Logic.{◌⊎◌, inl, inr}
use mathlib.Core.List.{List, [], ◌∷◌, ◌++◌}
use Prim.Native.Nat.{ℕ, ◌^◌, ◌≤◌}
use Rattle.sheet.specs.declared.Form.TheVariants.{Certificate}
use Rattle.sheet.specs.Word.{words_of}
use Rattle.sheet.specs.Values.{values_of}
use Rattle.questions.specs.Questions.{Questions, AllYes, FirstNo}
use Rattle.questions.specs.Joined.{no_before, no_after, all_all, no_split, all_front, all_back}
use Rattle.questions.specs.Number.{number}
use Rattle.questions.specs.declared.refusal.Refusal.{Refusal}
use Rattle.promises.specs.declared.Point.{Point}
use Rattle.promises.specs.Asked.{check_asks, Given}
use Rattle.promises.specs.Answer.{CheckRight, SolveRight, KernelRight, PushRight}
use Rattle.encoding.specs.Encoding.{point_of}
use Rattle.sagepliers.specs.Entry.{WholeWords, push_number_asks, CheckAnswer, PushAnswer, SolveAnswer, KernelAnswer}

module _ (bytes : List ℕ) where
  abbrev ws : List ℕ
  ws = words_of bytes

  pub check_bytes : (r : Result (Unit {0}) Refusal) → WholeWords bytes → CheckRight ws r → CheckAnswer bytes r
  check_bytes (Ok tt) even h = ((even, h.0), tt)
  check_bytes (Err q) even h = inr (even, h)

  module _ (k : ℕ) where
    abbrev twelve : Questions
    twelve = (12, ((k ≤ 2 ^ 56) × Given (values_of Certificate ws) (point_of k))) ∷ []

    -- a number that stands for a point
    push_all : WholeWords bytes → k ≤ 2 ^ 56 → AllYes (check_asks ws ++ (12, Given (values_of Certificate ws) (point_of k)) ∷ []) → AllYes
        (push_number_asks bytes k)
    push_all even small all =
        let last : Questions = (12, Given (values_of Certificate ws) (point_of k)) ∷ [] in
        (even, all_all (check_asks ws) twelve (all_front (check_asks ws) last all) ((small, (all_back (check_asks ws) last all).0), tt))

    push_no : (n : ℕ) → WholeWords bytes → k ≤ 2 ^ 56 → FirstNo (check_asks ws ++ (12, Given (values_of Certificate ws) (point_of k)) ∷ []) n → FirstNo
        (push_number_asks bytes k) n
    push_no n even small h = inr (even, go (no_split (check_asks ws) ((12, Given (values_of Certificate ws) (point_of k)) ∷ []) n h))
      where
        go : FirstNo (check_asks ws) n ⊎ (AllYes (check_asks ws) × FirstNo ((12, Given (values_of Certificate ws) (point_of k)) ∷ []) n) → FirstNo
            (check_asks ws ++ twelve) n
        go (inl h₁) = no_before (check_asks ws) twelve n h₁
        go (inr (all, inl h₁)) = no_after (check_asks ws) twelve n all (inl (h₁.0, λ both. h₁.1 both.1))
        go (inr (all, inr h₁)) = absurd h₁.1

    pub push_bytes : (r : Result Point Refusal) → WholeWords bytes → k ≤ 2 ^ 56 → PushRight ws (point_of k) r → PushAnswer bytes k r
    push_bytes (Ok image) even small h = (push_all even small h.0, h.1)
    push_bytes (Err q) even small h = push_no (number q) even small h

  module _ (before after : List ℕ) where
    pub solve_bytes : (r : Result ℕ Refusal) → WholeWords bytes → SolveRight ws before after r → SolveAnswer bytes before after r
    solve_bytes (Ok c) even h = ((h.0.0, (even, h.0.1)), h.1)
    solve_bytes (Err q) even (inl h, same) = (inl h, same)
    solve_bytes (Err q) even (inr h, same) = (inr (h.0, inr (even, h.1)), same)

    pub kernel_bytes : (r : Result ℕ Refusal) → WholeWords bytes → KernelRight ws before after r → KernelAnswer bytes before after r
    kernel_bytes (Ok c) even h = ((h.0.0, (even, h.0.1)), h.1)
    kernel_bytes (Err q) even (inl h, same) = (inl h, same)
    kernel_bytes (Err q) even (inr h, same) = (inr (h.0, inr (even, h.1)), same)
