-- What numbers and bytes stand for: points, the words of bytes, and what push answers to a number that is no point.
-- Assumes nothing.
use Rattle.std.specs.Prelude.{◌≡◌, List, ℕ, ◌+◌, ◌/◌, ◌%◌, ◌^◌, ◌≤◌, ltb, length, take, cond, Result, Ok, Err, MatchResult, IsErrAnd}
use Rattle.std.proofs.Common.{◌∙◌, ap}
use Rattle.sheet.specs.Word.{words_of}
use Rattle.questions.specs.Number.{number}
use Rattle.questions.specs.declared.refusal.Refusal.{Refusal}
use Rattle.questions.specs.declared.refusal.Refusal.TheVariants as refusal
use Rattle.promises.specs.declared.Point.{Point}
use Rattle.promises.specs.declared.Point.TheVariants as point
use Rattle.promises.specs.Outcome.{verdict_number, written_number}

-- the point that a number up to 2^56 stands for
abbrev pub point_of : ℕ → Point
point_of k = cond (ltb k (2 ^ 56)) (point.Affine (k % 2 ^ 28) (k / 2 ^ 28)) point.Infinity

-- what push answers to a number above 2^56, from what check answers
abbrev pub unpointed_of : Result (Unit {0}) Refusal → Result Point Refusal
unpointed_of (Ok _) = Err refusal.Point
unpointed_of (Err q) = Err q

-- ── the numbers at refusals: what `encoding` promises at any type that has them

pub unpointed_is : (verdict : Result (Unit {0}) Refusal) {r : Result Point Refusal}
    → IsErrAnd r (λ q. MatchResult verdict (λ _. q ≡ refusal.Point) (λ first. q ≡ first)) → r ≡ unpointed_of verdict
unpointed_is (Ok _) {r = Err q} e = ap Err e
unpointed_is (Err first) {r = Err q} e = ap Err e
unpointed_is verdict {r = Ok at} e = absurd e

pub verdict_number_is : (verdict : Result (Unit {0}) Refusal) {r : ℕ} → MatchResult verdict (λ _. r ≡ 0) (λ q. r ≡ number q) → r ≡ verdict_number verdict
verdict_number_is (Ok _) e = e
verdict_number_is (Err q) e = e

pub written_number_is : (written : Result ℕ Refusal) {r : ℕ}
    → MatchResult written (λ count. r ≡ count) (λ q. (n : ℕ) × (n ≡ number q) × (r ≡ 2 ^ 57 + n)) → r ≡ written_number written
written_number_is (Ok count) e = e
written_number_is (Err q) (n, is, e) = e ∙ ap (λ n. 2 ^ 57 + n) is

-- ── the words of bytes at the front of a buffer, or the first of them if there is room for no more

pub record Loaded (bytes : List ℕ) (room : ℕ) (after : List ℕ) (count : ℕ) : Type 0 where
  pub fits : count ≤ length after
  pub counted : count ≡ length (take count after)
  pub words : take count after ≡ take room (words_of bytes)
