-- Three steps, either way (document 02, E7): the first two composed first, or the last two. Of compose nothing is used but its promise.
-- Assumes nothing.
use Rattle.std.specs.Prelude.{◌≡◌, refl, ◌↔◌, List, [], ◌∷◌, ◌++◌, ℕ, length, take, drop, Result, Ok, Err}
use Rattle.std.proofs.Common.{sym, ◌∙◌, ap, ap₂, subst}
use Rattle.questions.specs.SomeNo.{SomeNo}
use Rattle.questions.specs.Answers.{result, refused, apart}
use Rattle.questions.specs.Number.{number, outcome}
use Rattle.questions.specs.declared.refusal.Refusal.{Refusal}
use Rattle.promises.specs.Asked.{Room}
use Rattle.promises.specs.Answer.{composed, ComposeRight}
use Rattle.guarantees.specs.Compose.{composite_ready, composite_curves}
use Rattle.guarantees.specs.Certified.{written_count, written_buffer}
use Rattle.chains.specs.Chain.{values, chain_asks, Chain}
use Rattle.chains.specs.Brackets.{wrote, Brackets, sheet, both, Way, given, called, left_refused, right_refused}
use Rattle.chains.proofs.Theorems as T
use Rattle.chains.proofs.Calls.{seen}
use Rattle.chains.specs.Theorems.{Agree}
use Rattle.chains.specs.Three.{Second, TwoCalls, FromLeft, FromRight, IsRefused}

count_apart : {n : ℕ} {q : Refusal} → Ok n ≡ Err q → ⊥
count_apart {n} {q} e = apart n (number q) (ap outcome e)

refusal : (r : Result ℕ Refusal) (after : List ℕ) → ((k : ℕ) × (wrote r after ≡ refused k)) ↔ IsRefused r
refusal (Ok n) after = (λ it. absurd (apart (take n after) it.0 it.1), λ it. absurd (count_apart it.1))
refusal (Err q) after = (λ _. (q, refl), λ _. (number q, refl))

count_result : (r : Result ℕ Refusal) (after : List ℕ) → ((ws : List ℕ) × (wrote r after ≡ result ws)) ↔ ((n : ℕ) × (r ≡ Ok n))
count_result (Ok n) after = (λ _. (n, refl), λ _. (take n after, refl))
count_result (Err q) after = (λ it. absurd (apart it.0 (number q) (sym it.1)), λ it. absurd (count_apart (sym it.1)))

-- ── the buffer of the last call

-- it holds the words that were written, as many as the count says, and behind them what it held before; after a refusal it is as it was
abbrev Filled : List ℕ → List ℕ → Result ℕ Refusal → Type 0
Filled before after (Ok n) = (n ≡ length (take n after)) × (after ≡ take n after ++ drop n before)
Filled before after (Err q) = after ≡ before

filled : (first second before after : List ℕ) (r : Result ℕ Refusal) → ComposeRight first second before after r → Filled before after r
filled first second before after (Err q) right = right.1
filled first second before after (Ok n) right =
    let known = composite_ready first second (length before) right.0 in
    let curves = composite_curves first second (length before) right.0 in (
      written_count (composed (values first) (values second)) known curves before after n right.1.certificate,
      written_buffer (composed (values first) (values second)) known curves before after n right.1.certificate,
    )

-- ── as ways of brackets

module _ (x y : List ℕ) (Next : List ℕ → List ℕ → List ℕ → Result ℕ Refusal → Type 0) (t : Brackets)
    (goes_on : (ws before after : List ℕ) (r : Result ℕ Refusal) → Room (length before) → Way (both (sheet x) (sheet y)) (result ws) → Next ws before after r
    → Way t (wrote r after))
    (stops : (k : ℕ) → Way (both (sheet x) (sheet y)) (refused k) → Way t (refused k))
    (leaves : (ws before after : List ℕ) (r : Result ℕ Refusal) → Next ws before after r → Filled before after r)
    (before after : List ℕ) (r : Result ℕ Refusal) (two : TwoCalls x y Next before after r) where
  as_way : Way t (wrote r after) × Filled before after r
  as_way = go two.answer two.first_call two.second_call
    where
      go : (s : Result ℕ Refusal) → ComposeRight x y two.lent two.held s → Second s two.held Next before after r → Way t (wrote r after) × Filled before after r
      go (Ok n) right second = (
        goes_on (take n two.held) before after r two.room'
            (called given given (seen x y two.lent two.held (Ok n) two.room right)) second,
        leaves (take n two.held) before after r second,
      )
      go (Err q) right (e, unaltered) =
          subst (λ r. Way t (wrote r after) × Filled before after r) (sym e)
          (stops (number q) (called given given (seen x y two.lent two.held (Err q) two.room right)), unaltered)

abbrev leftwards : List ℕ → List ℕ → List ℕ → Brackets
leftwards a b c = both (both (sheet a) (sheet b)) (sheet c)

abbrev rightwards : List ℕ → List ℕ → List ℕ → Brackets
rightwards a b c = both (sheet a) (both (sheet b) (sheet c))

-- ── one way

module _ (a b c before after : List ℕ) (r : Result ℕ Refusal) where
  from_left : FromLeft a b c before after r → Way (leftwards a b c) (wrote r after) × Filled before after r
  from_left =
      as_way a b (λ ab. ComposeRight ab c) (leftwards a b c) (λ ab xs ys s room way right. called way given (seen ab c xs ys s room right))
      (λ k. left_refused) (λ ab. filled ab c) before after r

  from_right : FromRight a b c before after r → Way (rightwards a b c) (wrote r after) × Filled before after r
  from_right =
      as_way b c (λ bc. ComposeRight a bc) (rightwards a b c) (λ bc xs ys s room way right. called given way (seen a bc xs ys s room right))
      (λ k. right_refused) (filled a) before after r

  module _ (way : FromLeft a b c before after r) where
    -- The way from the left answers with a count exactly when the three sheets are a chain,
    pub left_written_exactly : ((count : ℕ) × (r ≡ Ok count)) ↔ Chain (a ∷ b ∷ c ∷ [])
    left_written_exactly =
        let exactly = T.written_exactly (both (sheet a) (sheet b)) (sheet c) (wrote r after) (from_left way).0 in
        (λ it. exactly.0 ((count_result r after).1 it), λ chain. (count_result r after).0 (exactly.1 chain))

    -- it is refused exactly when they are none,
    pub left_refused_exactly : IsRefused r ↔ (Chain (a ∷ b ∷ c ∷ []) → ⊥)
    left_refused_exactly =
        let exactly = T.refused_exactly (both (sheet a) (sheet b)) (sheet c) (wrote r after) (from_left way).0 in
        (λ it. exactly.0 ((refusal r after).1 it), λ none. (refusal r after).0 (exactly.1 none))

    -- and its number is that of a question of the chain which is answered with no.
    pub left_refused_number : (q : Refusal) → r ≡ Err q → SomeNo (chain_asks (a ∷ b ∷ c ∷ [])) (number q)
    left_refused_number q e =
        T.refused_number (both (sheet a) (sheet b)) (sheet c) (number q) (subst (λ r. Way (leftwards a b c) (wrote r after)) e (from_left way).0)

  module _ (way : FromRight a b c before after r) where
    -- The same of the way from the right.
    pub right_written_exactly : ((count : ℕ) × (r ≡ Ok count)) ↔ Chain (a ∷ b ∷ c ∷ [])
    right_written_exactly =
        let exactly = T.written_exactly (sheet a) (both (sheet b) (sheet c)) (wrote r after) (from_right way).0 in
        (λ it. exactly.0 ((count_result r after).1 it), λ chain. (count_result r after).0 (exactly.1 chain))

    pub right_refused_exactly : IsRefused r ↔ (Chain (a ∷ b ∷ c ∷ []) → ⊥)
    right_refused_exactly =
        let exactly = T.refused_exactly (sheet a) (both (sheet b) (sheet c)) (wrote r after) (from_right way).0 in
        (λ it. exactly.0 ((refusal r after).1 it), λ none. (refusal r after).0 (exactly.1 none))

    pub right_refused_number : (q : Refusal) → r ≡ Err q → SomeNo (chain_asks (a ∷ b ∷ c ∷ [])) (number q)
    right_refused_number q e =
        T.refused_number (sheet a) (both (sheet b) (sheet c)) (number q) (subst (λ r. Way (rightwards a b c) (wrote r after)) e (from_right way).0)

-- ── both ways, each with buffers of its own

module _ (a b c before before' after after' : List ℕ) (r r' : Result ℕ Refusal) (left : FromLeft a b c before after r)
    (right : FromRight a b c before' after' r') where
  -- Either is refused exactly when the other is.
  pub refused_alike : IsRefused r ↔ IsRefused r'
  refused_alike = (
    λ it. (right_refused_exactly a b c before' after' r' right).1 ((left_refused_exactly a b c before after r left).0 it),
    λ it. (left_refused_exactly a b c before after r left).1 ((right_refused_exactly a b c before' after' r' right).0 it),
  )

  agree : Agree (wrote r after) (wrote r' after')
  agree =
      T.any_brackets (leftwards a b c) (rightwards a b c) refl (wrote r after) (wrote r' after')
      (from_left a b c before after r left).0 (from_right a b c before' after' r' right).0

  -- Of a chain, both answer with one count, and the words that they wrote are the same.
  pub either_way : Chain (a ∷ b ∷ c ∷ []) → (count : ℕ) × (r ≡ Ok count) × (r' ≡ Ok count) × (take count after ≡ take count after')
  either_way chain =
      go r r' ((left_written_exactly a b c before after r left).1 chain) ((right_written_exactly a b c before' after' r' right).1 chain)
      (from_left a b c before after r left).1 (from_right a b c before' after' r' right).1 agree
    where
      go : (r r' : Result ℕ Refusal) → ((n : ℕ) × (r ≡ Ok n)) → ((n : ℕ) × (r' ≡ Ok n)) → Filled before after r → Filled before' after' r'
          → Agree (wrote r after) (wrote r' after')
          → (count : ℕ) × (r ≡ Ok count) × (r' ≡ Ok count) × (take count after ≡ take count after')
      go (Ok n) (Ok n') _ _ h k one =
          let same : n ≡ n' = h.0 ∙ ap length one ∙ sym k.0 in
          (n, refl, ap Ok (sym same), one ∙ ap (λ m. take m after') (sym same))
      go (Err q) r' x y h k one = absurd (count_apart (sym x.1))
      go (Ok n) (Err q) x y h _ one = absurd (count_apart (sym y.1))

  -- And if the last buffer held the same before, it holds the same after, to its end, whatever the sheets are.
  pub every_word : before ≡ before' → after ≡ after'
  every_word e = go r r' (from_left a b c before after r left).1 (from_right a b c before' after' r' right).1 agree
    where
      go : (r r' : Result ℕ Refusal) → Filled before after r → Filled before' after' r' → Agree (wrote r after) (wrote r' after') → after ≡ after'
      go (Ok n) (Ok n') h k one =
          let same : n ≡ n' = h.0 ∙ ap length one ∙ sym k.0 in
          h.1 ∙ ap₂ ◌++◌ one (ap₂ drop same e) ∙ sym k.1
      go (Err q) (Err r) h k' one = h ∙ e ∙ sym k'
      go (Ok n) (Err q) _ _ one = absurd one
      go (Err q) (Ok n) _ _ one = absurd one
