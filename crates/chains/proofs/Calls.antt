-- What the calls of a way write: it passes check, has the values of the whole, and 13 and 14 hold of every pair of parts.
-- Assumes nothing.
use Rattle.std.specs.Prelude.{◌≡◌, refl, List, ℕ, length, take, Result, Ok, Err}
use Rattle.std.proofs.Common.{sym, ◌∙◌, ap, ap₂, subst, subst₂}
use Rattle.questions.specs.Questions.{AllYes}
use Rattle.questions.specs.Answers.{result, apart}
use Rattle.questions.specs.Number.{number}
use Rattle.questions.specs.declared.refusal.Refusal.{Refusal}
use Rattle.promises.specs.Asked.{Room, check_asks, ComposableValues, ProductAllowed}
use Rattle.promises.specs.Answer.{composed, ComposeRight}
use Rattle.guarantees.specs.Compose.{first_passes, second_passes, they_meet, product_allowed, compose_certified, compose_values}
use Rattle.chains.specs.Chain.{values}
use Rattle.chains.specs.Brackets.{wrote, Call, Brackets, sheet, both, Way, given, called}
use Rattle.chains.proofs.Pairs.{values_in, Pairs}

-- ── one call

-- what a caller sees of it
pub seen : (first second before after : List ℕ) (r : Result ℕ Refusal) → Room (length before) → ComposeRight first second before after r
    → Call first second (wrote r after)
seen first second before after r room right = record { before = before; after = after; answer = r; room = room; right = right; outcome = refl }

pub record Wrote (first second ws : List ℕ) : Type 0 where
  pub passes₁ : AllYes (check_asks first)
  pub passes₂ : AllYes (check_asks second)
  pub meet : ComposableValues (values first) (values second)
  pub allowed : ProductAllowed (values first) (values second)
  pub passes : AllYes (check_asks ws)
  pub values_are : values ws ≡ composed (values first) (values second)

module _ (first second : List ℕ) where
  pub call_wrote : {ws : List ℕ} → Call first second (result ws) → Wrote first second ws
  call_wrote {ws} call = go call.answer call.right call.outcome
    where
      go : (r : Result ℕ Refusal) → ComposeRight first second call.before call.after r → wrote r call.after ≡ result ws → Wrote first second ws
      go (Err q) right e = absurd (apart ws (number q) (sym e))
      go (Ok c) right e =
          let same : take c call.after ≡ ws = cc in
          record {
            passes₁ = first_passes first second (length call.before) right.0;
            passes₂ = second_passes first second (length call.before) right.0;
            meet = they_meet first second (length call.before) right.0;
            allowed = product_allowed first second (length call.before) right.0;
            passes = subst (λ us. AllYes (check_asks us)) same (compose_certified first second call.before call.after c right);
            values_are = ap values (sym same) ∙ compose_values first second call.before call.after c right;
          }

-- ── all calls of a way

-- of words that pass, as all do that a call has written
pub way_pairs : (t : Brackets) (ws : List ℕ) → Way t (result ws) → AllYes (check_asks ws) → Pairs t × (values ws ≡ values_in t)
way_pairs (sheet us) ws given passes = (passes, refl)
way_pairs (both s t) ws (called {first = first} {second = second} a b call) passes =
    let it : Wrote first second ws = call_wrote first second call in
    let left = way_pairs s first a it.passes₁ in
    let right = way_pairs t second b it.passes₂ in (
      (left.0, right.0, subst₂ ComposableValues left.1 right.1 it.meet, subst₂ ProductAllowed left.1 right.1 it.allowed),
      it.values_are ∙ ap₂ composed left.1 right.1,
    )

pub way_passes : (s t : Brackets) (ws : List ℕ) → Way (both s t) (result ws) → AllYes (check_asks ws)
way_passes s t ws (called {first = first} {second = second} a b call) = (call_wrote first second call).passes
