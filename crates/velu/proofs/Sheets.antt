-- From what becomes of an accepted kernel sheet's g to what kernel answers.
-- Assumes nothing.
use mathlib.Core.Path.{◌≡◌, sym, ◌∙◌, ap, subst}
use mathlib.Core.Logic.{inr}
use mathlib.Core.List.{List, map}
use Prim.Native.Nat.{ℕ, ◌+◌}
use lib.ListN.{length, take, drop}
use Rattle.std.specs.Prelude.{Result, Ok, Err}
use Rattle.questions.specs.Questions.{AllYes}
use Rattle.questions.specs.Joined.{no_after, all_all}
use Rattle.questions.specs.Number.{number}
use Rattle.questions.specs.declared.refusal.Refusal.{Refusal}
use Rattle.sheet.specs.declared.Form.TheVariants.{Kernel}
use Rattle.sheet.specs.declared.Values.{Values}
use Rattle.sheet.specs.Values.{coefficient_in, gOf, half, values_of}
use Rattle.sheet.specs.Asked.{asked}
use Rattle.sheet.specs.Ready.{HoldsG}
use Rattle.reading.specs.Accepted.{kernel_length, kernel_g}
use Rattle.promises.specs.Asked.{Room, last_ask}
use Rattle.promises.specs.Answer.{KernelRight}
use Rattle.velu.specs.Completed.{Finished}

module _ (ws : List ℕ) (all : AllYes (asked Kernel ws)) (v : Values) (e : v ≡ values_of Kernel ws) where
  pub long : length ws ≡ half v + 6
  long = kernel_length ws all ∙ ap (λ v. half v + 6) (sym e)

  -- the words that were read
  module _ (g : List ℕ) (i : ℕ) (i_is : i ≡ half v + 1) (g_is : g ≡ map (coefficient_in Kernel v.p) (take i (drop 4 ws))) where
    pub words : g ≡ gOf Kernel ws
    words =
        g_is ∙ ap (λ k. map (coefficient_in Kernel v.p) (take k (drop 4 ws))) i_is
        ∙ ap (λ v. map (coefficient_in Kernel v.p) (take (half v + 1) (drop 4 ws))) e

    pub g_words : HoldsG v g
    g_words = subst (λ v. HoldsG v g) (sym e) (subst (HoldsG (values_of Kernel ws)) (sym words) (kernel_g ws all))

    right : (before after : List ℕ) → Room (length before) → (r : Result ℕ Refusal) → Finished (values_of Kernel ws) (gOf Kernel ws) before after r
        → KernelRight ws before after r
    right before after room (Ok c) h =
        ((room, all_all (asked Kernel ws) (last_ask (values_of Kernel ws) (gOf Kernel ws)) all h.0), h.1)
    right before after room (Err refusal) h =
        (inr (room, no_after (asked Kernel ws) (last_ask (values_of Kernel ws) (gOf Kernel ws)) (number refusal) all h.0), h.1)

    pub kernel_right : (before after : List ℕ) → Room (length before) → (r : Result ℕ Refusal) → Finished v g before after r → KernelRight ws before after r
    kernel_right before after room r h =
        right before after room r (subst (λ v. Finished v (gOf Kernel ws) before after r) e (subst (λ g. Finished v g before after r) words h))
