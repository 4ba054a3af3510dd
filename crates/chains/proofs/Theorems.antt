-- A chain of sheets composed two at a time, whichever two come first (document 02, E7): one page to cite. What is said holds of every program that keeps
-- compose's promise, and of any sheets and any buffers of 393 words or more.
-- Assumes nothing.
use Rattle.std.specs.Prelude.{◌≡◌, refl, ◌↔◌, List, [], ◌∷◌, ◌++◌, ℕ, ◌≤◌, length}
use Rattle.std.proofs.Common.{sym, ◌∙◌, ap, subst, arith, length-append}
use Rattle.questions.specs.Questions.{AllYes}
use Rattle.questions.specs.SomeNo.{SomeNo, not-all}
use Rattle.questions.specs.Answers.{Outcome, result, refused, apart}
use Rattle.promises.specs.Asked.{check_asks}
use Rattle.guarantees.proofs.Again.{same_certificate}
use Rattle.chains.specs.Chain.{chain_asks, Chain}
use Rattle.chains.specs.Brackets.{Brackets, sheet, both, sheets, Way, given}
use Rattle.chains.proofs.Pairs.{pairs_chain, same_values}
use Rattle.chains.proofs.Calls.{way_pairs, way_passes}
use Rattle.chains.proofs.Numbers.{refused_no}
use Rattle.chains.specs.Theorems.{Agree}

-- ── one way, of one call at least

module _ (s t : Brackets) where
  -- What comes out passes check.
  pub composed_passes : (ws : List ℕ) → Way (both s t) (result ws) → AllYes (check_asks ws)
  composed_passes = way_passes s t

  result_chain : (ws : List ℕ) → Way (both s t) (result ws) → Chain (sheets s ++ sheets t)
  result_chain ws way = pairs_chain (both s t) (way_pairs (both s t) ws way (way_passes s t ws way)).0

  refused_chain : (k : ℕ) → Way (both s t) (refused k) → Chain (sheets s ++ sheets t) → ⊥
  refused_chain k way = not-all (chain_asks (sheets s ++ sheets t)) k (refused_no (both s t) k way)

  -- It ends with words exactly when the sheets are a chain,
  pub written_exactly : (o : Outcome (List ℕ)) → Way (both s t) o → ((ws : List ℕ) × (o ≡ result ws)) ↔ Chain (sheets s ++ sheets t)
  written_exactly (result ws) way = (λ _. result_chain ws way, λ _. (ws, refl))
  written_exactly (refused k) way = (λ it. absurd (apart it.0 k (sym it.1)), λ chain. absurd (refused_chain k way chain))

  -- and it is refused exactly when they are not.
  pub refused_exactly : (o : Outcome (List ℕ)) → Way (both s t) o → ((k : ℕ) × (o ≡ refused k)) ↔ (Chain (sheets s ++ sheets t) → ⊥)
  refused_exactly (result ws) way = (λ it. absurd (apart ws it.0 it.1), λ none. absurd (none (result_chain ws way)))
  refused_exactly (refused k) way = (λ _. refused_chain k way, λ _. (k, refl))

  -- The number of the refusal is that of a question of the chain which is answered with no.
  pub refused_number : (k : ℕ) → Way (both s t) (refused k) → SomeNo (chain_asks (sheets s ++ sheets t)) k
  refused_number = refused_no (both s t)

-- ── two ways

some : (t : Brackets) → 1 ≤ length (sheets t)
some (sheet ws) = omega arith
some (both s t) = omega (arith, length-append (sheets s) (sheets t), some s)

-- one sheet is not two
not_one : (ws : List ℕ) (s t : Brackets) → ws ∷ [] ≡ sheets s ++ sheets t → ⊥
not_one ws s t e =
    let two : 1 ≡ length (sheets s ++ sheets t) = ap length e in
    omega (arith, length-append (sheets s) (sheets t), some s, some t)

module _ (s s' t t' : Brackets) (e : sheets s ++ sheets s' ≡ sheets t ++ sheets t') where
  agree_both : (o o' : Outcome (List ℕ)) → Way (both s s') o → Way (both t t') o' → Agree o o'
  agree_both (result ws) (result us) a b =
      let p : AllYes (check_asks ws) = way_passes s s' ws a in
      let q : AllYes (check_asks us) = way_passes t t' us b in
      let left = way_pairs (both s s') ws a p in
      let right = way_pairs (both t t') us b q in
      same_certificate ws us p q (left.1 ∙ same_values (both s s') (both t t') e left.0 right.0 ∙ sym right.1)
  agree_both (result ws) (refused k) a b = refused_chain t t' k b (subst Chain e (result_chain s s' ws a))
  agree_both (refused k) (result us) a b = refused_chain s s' k a (subst Chain (sym e) (result_chain t t' us b))
  agree_both (refused j) (refused k) a b = tt

-- Whatever the sheets are, two ways to put the brackets agree: both end with the same words, or both are refused.
pub any_brackets : (s t : Brackets) → sheets s ≡ sheets t → (o o' : Outcome (List ℕ)) → Way s o → Way t o' → Agree o o'
any_brackets (sheet ws) (sheet us) e (result _) (result _) given given = let one : ws ≡ us = cc in one
any_brackets (sheet ws) (sheet us) e (result _) (refused _) a b = elim b [ ]
any_brackets (sheet ws) (sheet us) e (refused _) o' a b = elim a [ ]
any_brackets (sheet ws) (both t t') e o o' a b = absurd (not_one ws t t' e)
any_brackets (both s s') (sheet us) e o o' a b = absurd (not_one us s s' (sym e))
any_brackets (both s s') (both t t') e o o' a b = agree_both s s' t t' e o o' a b

-- Of a chain every two ways end with the same words.
pub same_words : (s t : Brackets) → sheets s ≡ sheets t → Chain (sheets s) → (o o' : Outcome (List ℕ)) → Way s o → Way t o'
    → (ws : List ℕ) × (o ≡ result ws) × (o' ≡ result ws)
same_words s t e chain (refused k) o' a b = absurd (not-all (chain_asks (sheets s)) k (refused_no s k a) chain)
same_words s t e chain (result ws) (refused k) a b = absurd (not-all (chain_asks (sheets t)) k (refused_no t k b) (subst Chain e chain))
same_words s t e chain (result ws) (result us) a b = (ws, refl, ap result (sym (any_brackets s t e (result ws) (result us) a b)))

-- Numbers differ only where more than one question is answered with no: if every no has one number, all ways that are refused have it.
pub same_number : (s t : Brackets) → sheets s ≡ sheets t → ((m n : ℕ) → SomeNo (chain_asks (sheets s)) m → SomeNo (chain_asks (sheets s)) n → m ≡ n)
    → (j k : ℕ) → Way s (refused j) → Way t (refused k) → j ≡ k
same_number s t e one j k a b = one j k (refused_no s j a) (subst (λ zs. SomeNo (chain_asks zs) k) (sym e) (refused_no t k b))
