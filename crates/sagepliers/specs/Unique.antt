-- For each call of a C entry, and of the entries on bytes, one answer is right at most, with one content of the lent buffer.
-- Assumes nothing.
use Rattle.std.specs.Prelude.{◌≡◌, refl, List, [], ◌∷◌, ℕ, ◌+◌, ◌*◌, ◌^◌, ◌<◌, ◌≤◌, length, drop, Result}
use Rattle.std.proofs.Common.{sym, ◌∙◌, ap, arith}
use Rattle.std.proofs.Math.Decide.{dec_lt}
use Rattle.questions.specs.Joined.{all_front}
use Rattle.questions.specs.Answers.{answers_unique, writes_unique}
use Rattle.sheet.specs.declared.Form.TheVariants.{Question, Certificate, Kernel}
use Rattle.sheet.specs.Word.{word_at, words_of}
use Rattle.sheet.specs.Values.{values_of, gOf, n_of}
use Rattle.sheet.specs.Asked.{asked}
use Rattle.sheet.specs.Ready.{ready}
use Rattle.questions.specs.Number.{outcome, same_outcome}
use Rattle.questions.specs.declared.refusal.Refusal.{Refusal}
use Rattle.promises.specs.declared.Point.{Point}
use Rattle.promises.specs.Outcome.{verdict_number, written_number, image_number, name_number}
use Rattle.promises.specs.Asked.{Given, Solvable, last_ask}
use Rattle.promises.specs.Answer.{Goes, CertificateIn, KernelIn}
use Rattle.guarantees.specs.Certified.{one_certificate}
use Rattle.guarantees.specs.Solve.{solve_unique}
use Rattle.guarantees.specs.Kernel.{one_kernel, kernel_unique}
use Rattle.guarantees.specs.Compose.{compose_unique}
use Rattle.guarantees.specs.Push.{goes_once}
use Rattle.guarantees.specs.Name.{name_unique}
use Rattle.encoding.specs.Encoding.{point_of}
use Rattle.sagepliers.specs.Entry.{
  bytes_ask,
  push_number_asks,
  solve_bytes_ask,
  kernel_bytes_ask,
  CheckAnswer,
  CheckNumber,
  PushAnswer,
  PushNumber,
  PushInput,
  SolveNumber,
  KernelNumber,
  ComposeNumber,
  NameNumber,
  SolveAnswer,
  KernelAnswer,
}

-- ── check

pub check_answer_unique : (bytes : List ℕ) (r s : Result (Unit {0}) Refusal) → CheckAnswer bytes r → CheckAnswer bytes s → r ≡ s
check_answer_unique bytes r s h k =
    same_outcome r s (answers_unique (bytes_ask bytes) (λ _. Unit {0}) (λ _ a b _ _. one a b) (outcome r) (outcome s) h k)
  where
    one : (a b : Unit {0}) → a ≡ b
    one a b = refl

pub check_number_unique : (bytes : List ℕ) (r s : ℕ) → CheckNumber bytes r → CheckNumber bytes s → r ≡ s
check_number_unique bytes r s h k =
    h.number ∙ ap verdict_number (check_answer_unique bytes h.answer k.answer h.right k.right) ∙ sym k.number

-- ── push

module _ (bytes : List ℕ) (k : ℕ) where
  pub push_answer_unique : (r s : Result Point Refusal) → PushAnswer bytes k r → PushAnswer bytes k s → r ≡ s
  push_answer_unique r s h h' =
      same_outcome r s
      (answers_unique (push_number_asks bytes k)
      (Goes (values_of Certificate (words_of bytes)) (gOf Certificate (words_of bytes)) (n_of Certificate (words_of bytes)) (point_of k)) (λ all a b.
      goes_once (words_of bytes)
      (all_front (bytes_ask bytes) ((12, ((k ≤ 2 ^ 56) × Given (values_of Certificate (words_of bytes)) (point_of k))) ∷ []) all).1 (point_of k) a b)
      (outcome r) (outcome s) h h')

  pub push_number_unique : (r s : ℕ) → PushNumber bytes k r → PushNumber bytes k s → r ≡ s
  push_number_unique r s h h' = h.number ∙ ap image_number (push_answer_unique h.answer h'.answer h.right h'.right) ∙ sym h'.number

pub push_input_unique : (bytes : List ℕ) (r s : Result Point Refusal) → PushInput bytes r → PushInput bytes s → r ≡ s
push_input_unique bytes r s h k = go (dec_lt (length bytes) 8)
  where
    go : Dec (length bytes < 8) → r ≡ s
    go (yes l) = h.short l ∙ sym (k.short l)
    go (no l) = push_answer_unique (drop 8 bytes) (word_at bytes 0 + 2 ^ 32 * word_at bytes 1) r s (h.long (omega arith)) (k.long (omega arith))

-- ── solve and kernel, on words and on bytes

module _ (ws before after after' : List ℕ) (r s : ℕ) where
  pub solve_number_unique : SolveNumber ws before after r → SolveNumber ws before after' s → (r ≡ s) × (after ≡ after')
  solve_number_unique h k =
      let same = solve_unique ws before after after' h.answer k.answer h.right k.right in
      (h.number ∙ ap written_number same.0 ∙ sym k.number, same.1)

  pub kernel_number_unique : KernelNumber ws before after r → KernelNumber ws before after' s → (r ≡ s) × (after ≡ after')
  kernel_number_unique h k =
      let same = kernel_unique ws before after after' h.answer k.answer h.right k.right in
      (h.number ∙ ap written_number same.0 ∙ sym k.number, same.1)

module _ (bytes before after after' : List ℕ) where
  abbrev us : List ℕ
  us = words_of bytes

  pub solve_answer_unique : (r s : Result ℕ Refusal) → SolveAnswer bytes before after r → SolveAnswer bytes before after' s → (r ≡ s) × (after ≡ after')
  solve_answer_unique r s h k =
      let same =
      writes_unique (solve_bytes_ask bytes (length before)) (λ count after. CertificateIn (values_of Question us) before after count) before
      (λ all c c' xs ys a b.
      one_certificate (values_of Question us) (ready Question us (all_front (asked Question us) ((11, Solvable (values_of Question us)) ∷ []) all.1.1)) before
      xs ys c c' a b) (outcome r) (outcome s) after after' h k in
      (same_outcome r s same.0, same.1)

  pub kernel_answer_unique : (r s : Result ℕ Refusal) → KernelAnswer bytes before after r → KernelAnswer bytes before after' s → (r ≡ s) × (after ≡ after')
  kernel_answer_unique r s h k =
      let same =
      writes_unique (kernel_bytes_ask bytes (length before)) (λ count after. KernelIn (values_of Kernel us) (gOf Kernel us) before after count) before
      (λ all c c' xs ys a b.
      one_kernel (values_of Kernel us) (ready Kernel us (all_front (asked Kernel us) (last_ask (values_of Kernel us) (gOf Kernel us)) all.1.1))
      (gOf Kernel us) before a b) (outcome r) (outcome s) after after' h k in
      (same_outcome r s same.0, same.1)

-- ── compose

pub compose_number_unique : (first second before after after' : List ℕ) (r s : ℕ) → ComposeNumber first second before after r
    → ComposeNumber first second before after' s → (r ≡ s) × (after ≡ after')
compose_number_unique first second before after after' r s h k =
    let same = compose_unique first second before after after' h.answer k.answer h.right k.right in
    (h.number ∙ ap written_number same.0 ∙ sym k.number, same.1)

-- ── name

pub name_number_unique : (p a b r s : ℕ) → NameNumber p a b r → NameNumber p a b s → r ≡ s
name_number_unique p a b r s h k = h.number ∙ ap name_number (name_unique p a b h.answer k.answer h.right k.right) ∙ sym k.number
