-- From what the reader and the solver of an accepted question answer to what solve answers.
-- Assumes nothing.
use mathlib.Core.Path.{refl}
use mathlib.Core.Logic.{inl, inr}
use mathlib.Core.List.{List, [], ◌∷◌}
use Prim.Native.Nat.{ℕ, ◌<◌}
use native.Mathlib.Omega.{arith}
use lib.ListN.{length}
use Rattle.std.specs.Prelude.{Result, Ok, Err}
use Rattle.zmod.specs.Residues.{poly}
use Rattle.questions.specs.Questions.{AllYes, FirstNo}
use Rattle.questions.specs.Joined.{no_before, no_after, all_all}
use Rattle.questions.specs.Number.{number}
use Rattle.questions.specs.declared.refusal.Refusal.{Refusal}
use Rattle.sheet.specs.declared.Form.TheVariants.{Question}
use Rattle.sheet.specs.Form.{most_words}
use Rattle.sheet.specs.Values.{values_of}
use Rattle.sheet.specs.Asked.{asked}
use Rattle.promises.specs.Asked.{Room, Solvable, solve_asks}
use Rattle.promises.specs.Answer.{SolveRight}
use Rattle.solution.specs.Solved.{Solved}

module _ (ws before : List ℕ) where
  pub solve_short : length before < most_words → FirstNo (solve_asks ws (length before)) 1
  solve_short l = inl (refl, λ room. omega arith)

  module _ (room : Room (length before)) where
    pub solve_unread : (k : ℕ) → FirstNo (asked Question ws) k → FirstNo (solve_asks ws (length before)) k
    solve_unread k h = inr (room, no_before (asked Question ws) ((11, Solvable (values_of Question ws)) ∷ []) k h)

    pub solve_right : AllYes (asked Question ws) → (after : List ℕ) (r : Result ℕ Refusal) → Solved (values_of Question ws) before after r
        → SolveRight ws before after r
    solve_right all after (Ok c) held = (
      (room, all_all (asked Question ws) ((11, Solvable (values_of Question ws)) ∷ []) all (record { g = poly _ held.g; meets = held.meets }, tt)),
      held,
    )
    solve_right all after (Err refusal) unsolved = (
      inr (
        room,
        no_after (asked Question ws) ((11, Solvable (values_of Question ws)) ∷ []) (number refusal) all (inl (unsolved.number, unsolved.none)),
      ),
      unsolved.kept,
    )
