-- The numbers by which C programs get the services' answers. As 64 bits the affine point (u, v) is u + 2^28·v and infinity 2^56; counts and j-values stand
-- for themselves; a refusal by question k is 2^57 + k.
-- Assumes nothing.
use Rattle.std.specs.Prelude.{ℕ, ◌+◌, ◌*◌, ◌^◌, Result, Ok, Err}
use Rattle.questions.specs.Answers.{Outcome, result, refused}
use Rattle.questions.specs.Number.{number, outcome}
use Rattle.questions.specs.declared.refusal.Refusal.{Refusal}
use Rattle.promises.specs.declared.Point.{Point}
use Rattle.promises.specs.declared.Point.TheVariants as point

-- of a 64-bit answer
abbrev pub outcome_number : Outcome ℕ → ℕ
outcome_number (result n) = n
outcome_number (refused k) = 2 ^ 57 + k

abbrev pub point_number : Point → ℕ
point_number (point.Affine u v) = u + 2 ^ 28 * v
point_number point.Infinity = 2 ^ 56

-- check's answer is of 32 bits, and no refusal has the number 0
abbrev pub verdict_number : Result (Unit {0}) Refusal → ℕ
verdict_number (Ok passes) = 0
verdict_number (Err refusal) = number refusal

abbrev pub written_number : Result ℕ Refusal → ℕ
written_number w = outcome_number (outcome w)

abbrev pub image_number : Result Point Refusal → ℕ
image_number (Ok image) = outcome_number (result (point_number image))
image_number (Err refusal) = outcome_number (refused (number refusal))

abbrev pub name_number : Result ℕ Refusal → ℕ
name_number n = outcome_number (outcome n)
