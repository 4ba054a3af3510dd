-- A point that goes through two certificates in turn. (It is what pushing it through their composite is: `proofs/ComposePush`.)
-- Assumes nothing.
use Rattle.std.specs.Prelude.{◌≡◌, List, ℕ, Result, Ok, Err}
use Rattle.promises.specs.declared.Point.{Point}
use Rattle.questions.specs.declared.refusal.Refusal.{Refusal}
use Rattle.promises.specs.Answer.{PushRight}

-- Where a point goes under the first, and from there under the second; what the first refuses stays refused.
abbrev pub Onward : List ℕ → Result Point Refusal → Result Point Refusal → Type 0
Onward second (Ok between) r = PushRight second between r
Onward second (Err q) r = r ≡ Err q

abbrev pub InTurn : List ℕ → List ℕ → Point → Result Point Refusal → Type 0
InTurn first second at r = (between : Result Point Refusal) × PushRight first at between × Onward second between r
