-- The count of rational abscissas on a certificate (document 02, E6), about sheets: on every one that check lets pass, and on those that solve, kernel and
-- compose write, it is the number of u from 0 to p − 1 with g(u) = 0, which is d at most; and what check says of a wrong or missing one.
-- Assumes nothing.
use Rattle.std.specs.Prelude.{◌≡◌, refl, ◌↔◌, List, ℕ, ◌<◌, ◌≤◌, length, get_or, take, Result, Ok, Err}
use Rattle.std.proofs.Common.{◌∙◌, inl, inr, arith}
use Rattle.questions.specs.Questions.{AllYes}
use Rattle.questions.specs.Numbered.{yes_to, first_no, YesBefore}
use Rattle.questions.specs.Joined.{all_all, no_after}
use Rattle.zmod.specs.Zmod.{Zmod}
use Rattle.isogeny.specs.Rules.{N, R1, R3}
use Rattle.sheet.specs.declared.Form.TheVariants.{Certificate}
use Rattle.sheet.specs.Word.{kind_of}
use Rattle.sheet.specs.Form.{kinds_of}
use Rattle.sheet.specs.Values.{values_of, half, gOf, abscissas_of}
use Rattle.sheet.specs.Asked.{Asked6, asked}
use Rattle.sheet.specs.Kinds.{below, kind_at, kinds_rise, place_from}
use Rattle.sheet.specs.Lengths.{certificate_words_lem}
use Rattle.sheet.specs.Places.{coefficients_end, count_last, end_place}
use Rattle.sheet.specs.Ready.{ready}
use Rattle.reading.specs.Body.{kinds_at, kinds_length}
use Rattle.reading.specs.Accepted.{certificate_g}
use Rattle.questions.specs.declared.refusal.Refusal.{Refusal}
use Rattle.questions.specs.declared.refusal.Refusal.TheVariants as refusal
use Rattle.promises.specs.Abscissas.{rational_abscissas_of, abscissas_most}
use Rattle.promises.specs.Asked.{prime, put, g, n, certificate_rules, check_asks}
use Rattle.promises.specs.Answer.{CheckRight, SolveRight, KernelRight, ComposeRight}
use Rattle.guarantees.specs.Check.{check_unique}
use Rattle.promises.specs.Certificates.{check_asked}
use Rattle.guarantees.specs.Solve.{solve_certified}
use Rattle.guarantees.specs.Kernel.{kernel_certified}
use Rattle.guarantees.specs.Compose.{compose_certified}
use Rattle.guarantees.proofs.Demands.{passes_exactly}

-- The sheet's count is right.
abbrev pub Counted : List ℕ → Type 0
Counted ws = abscissas_of ws ≡ rational_abscissas_of (values_of Certificate ws) (gOf Certificate ws)

-- It is on every certificate that passes,
pub certificate_abscissas : (ws : List ℕ) → AllYes (check_asks ws) → Counted ws
certificate_abscissas ws passes = (yes_to (check_asks ws) 9 passes).1

-- where it is d at most,
pub certificate_abscissas_most : (ws : List ℕ) → AllYes (check_asks ws) → abscissas_of ws ≤ half (values_of Certificate ws)
certificate_abscissas_most ws passes =
    let v = values_of Certificate ws in
    let accepted = check_asked ws passes in
    let most = abscissas_most v (ready Certificate ws accepted) (gOf Certificate ws) (certificate_g ws accepted) (yes_to (check_asks ws) 8 passes) in
    omega (arith, certificate_abscissas ws passes, most)

-- and so it is on what solve writes,
pub solve_abscissas : (ws before after : List ℕ) (c : ℕ) → SolveRight ws before after (Ok c) → Counted (take c after)
solve_abscissas ws before after c h = certificate_abscissas (take c after) (solve_certified ws before after c h)

-- on what kernel writes,
pub kernel_abscissas : (ws before after : List ℕ) (c : ℕ) → KernelRight ws before after (Ok c) → Counted (take c after)
kernel_abscissas ws before after c h = certificate_abscissas (take c after) (kernel_certified ws before after c h)

-- and on what compose writes: a composed map carries its own count.
pub compose_abscissas : (first second before after : List ℕ) (c : ℕ) → ComposeRight first second before after (Ok c) → Counted (take c after)
compose_abscissas first second before after c h = certificate_abscissas (take c after) (compose_certified first second before after c h)

-- ── what check says of the count

module _ (ws : List ℕ) (r : Result (Unit {0}) Refusal) (h : CheckRight ws r) where
  abbrev p : ℕ
  p = prime Certificate ws

  -- Check says passes if 2 to 7 are answered with yes, R1 to R3 hold and the count is that of g's roots, and only then.
  pub passes_when : (r ≡ Ok tt)
      ↔ (AllYes (asked Certificate ws) × R1 (Zmod p) (put Certificate ws) (g Certificate ws)
      × (n Certificate ws ≡ N (Zmod p) (put Certificate ws) (g Certificate ws))
      × R3 (Zmod p) (put Certificate ws) (g Certificate ws) (n Certificate ws) × Counted ws)
  passes_when = (
    λ e.
        let all = (passes_exactly ws r h).0 e in
        (check_asked ws all, yes_to (check_asks ws) 8 all, (yes_to (check_asks ws) 9 all).0, yes_to (check_asks ws) 10 all, (yes_to (check_asks ws) 9 all).1),
    λ (a, one, two, three, c). (passes_exactly ws r h).1 (all_all (asked Certificate ws) (certificate_rules ws) a (one, ((two, c), (three, tt)))),
  )

  -- On a sheet that passes 2 to 8 a count that is not right gets 9, whatever its size and whatever N is.
  pub wrong_count : AllYes (asked Certificate ws) → R1 (Zmod p) (put Certificate ws) (g Certificate ws) → (Counted ws → ⊥) → r ≡ Err refusal.Numerator
  wrong_count all one wrong =
      check_unique ws r (Err refusal.Numerator) h
      (no_after (asked Certificate ws) (certificate_rules ws) 9 all (inr (one, inl (refl, λ both. wrong both.1))))

  -- A sheet that passes 2 to 5 and has no word of kind 10 gets 6.
  pub without_count : YesBefore (check_asks ws) 6 → ((i : ℕ) → i < length ws → kind_of (get_or ws i 0) ≡ 10 → ⊥) → r ≡ Err refusal.Words
  without_count before none = check_unique ws r (Err refusal.Words) h (first_no (check_asks ws) 6 tt before there)
    where
      there : Asked6 Certificate ws → ⊥
      there six =
          let d = half (values_of Certificate ws) in
          let kinds = kinds_of Certificate d in
          let at = below 10 kinds in
          let last = place_from Certificate d 15 (below 16 kinds) refl in
          let next : below 10 kinds < below 11 kinds =
          omega (arith, coefficients_end d, count_last Certificate d, last, end_place d (below 16 kinds) Certificate, certificate_words_lem d) in
          none at (omega (arith, kinds_length Certificate d ws six.kinds, certificate_words_lem d, coefficients_end d))
          (kinds_at Certificate d ws six.kinds at (omega (arith, coefficients_end d)) ∙ kind_at 10 0 at kinds (kinds_rise Certificate d) (omega arith) next)
