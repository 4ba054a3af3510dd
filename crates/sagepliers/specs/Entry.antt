-- What the C entries and the entries on bytes answer. A byte slice stands for its words if it has whole words; the numbers of the answers are those of
-- `promises/specs/Outcome`.
-- Assumes nothing.
use Rattle.std.specs.Prelude.{◌≡◌, List, [], ◌∷◌, ◌++◌, ℕ, ◌+◌, ◌*◌, ◌%◌, ◌^◌, ◌<◌, ◌≤◌, length, drop, Result, Err}
use Rattle.questions.specs.Questions.{Questions}
use Rattle.questions.specs.Answers.{Answers, Writes}
use Rattle.sheet.specs.declared.Form.TheVariants.{Question, Certificate, Kernel}
use Rattle.sheet.specs.Word.{word_at, words_of}
use Rattle.sheet.specs.Values.{values_of, gOf, n_of}
use Rattle.sheet.specs.Asked.{asked}
use Rattle.questions.specs.Number.{outcome}
use Rattle.questions.specs.declared.refusal.Refusal.{Refusal}
use Rattle.questions.specs.declared.refusal.Refusal.TheVariants as refusal
use Rattle.promises.specs.declared.Point.{Point}
use Rattle.promises.specs.Outcome.{verdict_number, written_number, image_number, name_number}
use Rattle.promises.specs.Asked.{Room, check_asks, Solvable, last_ask, Given}
use Rattle.encoding.specs.Encoding.{point_of}
use Rattle.promises.specs.Answer.{Goes, CertificateIn, KernelIn, SolveRight, KernelRight, ComposeRight, NameRight}

-- question 2 of bytes: they are whole words
abbrev pub WholeWords : List ℕ → Type 0
WholeWords bytes = length bytes % 4 ≡ 0

-- ── check

abbrev pub bytes_ask : List ℕ → Questions
bytes_ask bytes = (2, WholeWords bytes) ∷ check_asks (words_of bytes)

abbrev pub CheckAnswer : List ℕ → Result (Unit {0}) Refusal → Type 0
CheckAnswer bytes r = Answers (bytes_ask bytes) (λ _. Unit {0}) (outcome r)

pub record CheckNumber (bytes : List ℕ) (r : ℕ) : Type 0 where
  pub answer : Result (Unit {0}) Refusal
  pub right : CheckAnswer bytes answer
  pub number : r ≡ verdict_number answer

-- ── push: 12 also asks that the point's number is at most 2^56

abbrev pub push_number_asks : List ℕ → ℕ → Questions
push_number_asks bytes k = bytes_ask bytes ++ (12, ((k ≤ 2 ^ 56) × Given (values_of Certificate (words_of bytes)) (point_of k))) ∷ []

abbrev pub PushAnswer : List ℕ → ℕ → Result Point Refusal → Type 0
PushAnswer bytes k r =
    Answers (push_number_asks bytes k)
    (Goes (values_of Certificate (words_of bytes)) (gOf Certificate (words_of bytes)) (n_of Certificate (words_of bytes)) (point_of k)) (outcome r)

pub record PushNumber (bytes : List ℕ) (k r : ℕ) : Type 0 where
  pub answer : Result Point Refusal
  pub right : PushAnswer bytes k answer
  pub number : r ≡ image_number answer

-- ── the input of the push program: the point's number in eight bytes, the lowest first, then the certificate; fewer bytes have no word of one

pub record PushInput (bytes : List ℕ) (answer : Result Point Refusal) : Type 0 where
  pub short : length bytes < 8 → answer ≡ Err refusal.Header
  pub long : 8 ≤ length bytes → PushAnswer (drop 8 bytes) (word_at bytes 0 + 2 ^ 32 * word_at bytes 1) answer

-- ── solve, kernel and compose on words, and name

pub record SolveNumber (ws before after : List ℕ) (r : ℕ) : Type 0 where
  pub answer : Result ℕ Refusal
  pub right : SolveRight ws before after answer
  pub number : r ≡ written_number answer

pub record KernelNumber (ws before after : List ℕ) (r : ℕ) : Type 0 where
  pub answer : Result ℕ Refusal
  pub right : KernelRight ws before after answer
  pub number : r ≡ written_number answer

pub record ComposeNumber (first second before after : List ℕ) (r : ℕ) : Type 0 where
  pub answer : Result ℕ Refusal
  pub right : ComposeRight first second before after answer
  pub number : r ≡ written_number answer

pub record NameNumber (p a b r : ℕ) : Type 0 where
  pub answer : Result ℕ Refusal
  pub right : NameRight p a b answer
  pub number : r ≡ name_number answer

-- ── solve and kernel on bytes: question 2 also asks for whole words

abbrev pub solve_bytes_ask : List ℕ → ℕ → Questions
solve_bytes_ask bytes room =
    (1, Room room) ∷ (2, WholeWords bytes) ∷ asked Question (words_of bytes) ++ (11, Solvable (values_of Question (words_of bytes))) ∷ []

abbrev pub SolveAnswer : List ℕ → List ℕ → List ℕ → Result ℕ Refusal → Type 0
SolveAnswer bytes before after r =
    Writes (solve_bytes_ask bytes (length before)) (λ count after. CertificateIn (values_of Question (words_of bytes)) before after count) before after
    (outcome r)

abbrev pub kernel_bytes_ask : List ℕ → ℕ → Questions
kernel_bytes_ask bytes room =
    (1, Room room) ∷ (2, WholeWords bytes) ∷ asked Kernel (words_of bytes) ++ last_ask (values_of Kernel (words_of bytes)) (gOf Kernel (words_of bytes))

abbrev pub KernelAnswer : List ℕ → List ℕ → List ℕ → Result ℕ Refusal → Type 0
KernelAnswer bytes before after r =
    Writes (kernel_bytes_ask bytes (length before))
    (λ count after. KernelIn (values_of Kernel (words_of bytes)) (gOf Kernel (words_of bytes)) before after count) before after (outcome r)
