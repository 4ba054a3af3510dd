-- Three steps, from the left and from the right, as two calls each. Of compose nothing is used but its promise. (Either way is as good: `proofs/Three`.)
-- Assumes nothing.
use Rattle.std.specs.Prelude.{◌≡◌, List, ℕ, length, take, Result, Ok, Err}
use Rattle.questions.specs.declared.refusal.Refusal.{Refusal}
use Rattle.promises.specs.Asked.{Room}
use Rattle.promises.specs.Answer.{ComposeRight}

-- What the second of two calls answers, where the first one left `held` in its buffer: what `Next` says of the words that were written. After a refusal there
-- is no second call: the number is the answer, and the second buffer is as it was.
abbrev pub Second : Result ℕ Refusal → List ℕ → (List ℕ → List ℕ → List ℕ → Result ℕ Refusal → Type 0) → List ℕ → List ℕ → Result ℕ Refusal → Type 0
Second (Ok count) held Next before after r = Next (take count held) before after r
Second (Err q) held Next before after r = (r ≡ Err q) × (after ≡ before)

-- Two calls: x with y in a buffer of 393 words or more, which is `lent` and then `held`; and with what that wrote the call of `Next`, in another such buffer.
pub record TwoCalls (x y : List ℕ) (Next : List ℕ → List ℕ → List ℕ → Result ℕ Refusal → Type 0) (before after : List ℕ) (r : Result ℕ Refusal) : Type 0 where
  pub lent : List ℕ
  pub held : List ℕ
  pub answer : Result ℕ Refusal
  pub room : Room (length lent)
  pub first_call : ComposeRight x y lent held answer
  pub room' : Room (length before)
  pub second_call : Second answer held Next before after r

-- From the left: a with b, then what that wrote with c.
abbrev pub FromLeft : List ℕ → List ℕ → List ℕ → List ℕ → List ℕ → Result ℕ Refusal → Type 0
FromLeft a b c = TwoCalls a b (λ ab. ComposeRight ab c)

-- From the right: b with c, then a with what that wrote.
abbrev pub FromRight : List ℕ → List ℕ → List ℕ → List ℕ → List ℕ → Result ℕ Refusal → Type 0
FromRight a b c = TwoCalls b c (λ bc. ComposeRight a bc)

-- the way was refused: one of its two calls was
abbrev pub IsRefused : Result ℕ Refusal → Type 0
IsRefused r = (q : Refusal) × (r ≡ Err q)
