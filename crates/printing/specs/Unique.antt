-- For each input of a program one text is right at most.
-- Assumes nothing.
use Rattle.std.specs.Prelude.{◌≡◌, List, ℕ}
use Rattle.std.proofs.Common.{sym, ◌∙◌, ap, ap₂}
use Rattle.sagepliers.specs.Unique.{check_answer_unique, push_input_unique, solve_answer_unique, kernel_answer_unique}
use Rattle.printing.specs.Printing.{written_text, verdict_text, image_text, blank, SolveText, KernelText, CheckText, PushText}

module _ (bytes text text' : List ℕ) where
  pub solve_text_unique : SolveText bytes text → SolveText bytes text' → text ≡ text'
  solve_text_unique h k =
      let same = solve_answer_unique bytes blank h.after k.after h.answer k.answer h.right k.right in
      h.text_is ∙ ap₂ written_text same.1 same.0 ∙ sym k.text_is

  pub kernel_text_unique : KernelText bytes text → KernelText bytes text' → text ≡ text'
  kernel_text_unique h k =
      let same = kernel_answer_unique bytes blank h.after k.after h.answer k.answer h.right k.right in
      h.text_is ∙ ap₂ written_text same.1 same.0 ∙ sym k.text_is

  pub check_text_unique : CheckText bytes text → CheckText bytes text' → text ≡ text'
  check_text_unique h k = h.text_is ∙ ap verdict_text (check_answer_unique bytes h.answer k.answer h.right k.right) ∙ sym k.text_is

  pub push_text_unique : PushText bytes text → PushText bytes text' → text ≡ text'
  push_text_unique h k = h.text_is ∙ ap image_text (push_input_unique bytes h.answer k.answer h.right k.right) ∙ sym k.text_is
