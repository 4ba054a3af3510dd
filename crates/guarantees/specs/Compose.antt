-- What a customer can cite of compose: one answer is right and no other, with every word of the lent buffer; what it writes passes check, so that no question
-- about the rules is left to ask; and it says what document 02 has it say.
-- Assumes nothing.
use Rattle.std.specs.Prelude.{◌≡◌, List, ◌++◌, ℕ, length, take, Result, Ok, Err}
use Rattle.std.proofs.Common.{sym, ◌∙◌, ap, subst}
use Rattle.zmod.specs.Zmod.{Zmod}
use Rattle.zmod.specs.Residues.{poly}
use Rattle.composition.specs.Composite.{composite_g}
use Rattle.questions.specs.Questions.{Questions, AllYes, not_both}
use Rattle.questions.specs.Joined.{all_front, all_back}
use Rattle.questions.specs.Numbered.{yes_to}
use Rattle.questions.specs.Answers.{writes_unique}
use Rattle.sheet.specs.declared.Form.TheVariants.{Certificate}
use Rattle.sheet.specs.declared.Values.{Values}
use Rattle.sheet.specs.Form.{certificate_words}
use Rattle.sheet.specs.Values.{gOf, values_of, question, half}
use Rattle.sheet.specs.Asked.{Curves}
use Rattle.sheet.specs.Ready.{Ready}
use Rattle.questions.specs.Number.{number, outcome, same_outcome}
use Rattle.questions.specs.declared.refusal.Refusal.{Refusal}
use Rattle.promises.specs.Asked.{ComposableValues, ProductAllowed, check_asks, join_asks, compose_asks}
use Rattle.promises.specs.Answer.{composed, ComposeIn, ComposeRight}
use Rattle.promises.specs.Composed.{over, over_same, composed_ready}
use Rattle.promises.specs.Certificates.{certificate_ready}
use Rattle.guarantees.specs.Certified.{certified, written_values, written_g, one_certificate}

module _ (first second : List ℕ) where
  -- the values on the two sheets
  abbrev v : Values
  v = values_of Certificate first

  abbrev w : Values
  w = values_of Certificate second

  -- ── what has passed where all questions have

  module _ (room : ℕ) (all : AllYes (compose_asks first second room)) where
    abbrev later : Questions
    later = check_asks second ++ join_asks v w

    pub first_passes : AllYes (check_asks first)
    first_passes = all_front (check_asks first) later all.1

    after_first : AllYes later
    after_first = all_back (check_asks first) later all.1

    pub second_passes : AllYes (check_asks second)
    second_passes = all_front (check_asks second) (join_asks v w) after_first

    joined : AllYes (join_asks v w)
    joined = all_back (check_asks second) (join_asks v w) after_first

    pub they_meet : ComposableValues v w
    they_meet = yes_to (join_asks v w) 13 joined

    pub product_allowed : ProductAllowed v w
    product_allowed = yes_to (join_asks v w) 14 joined

    pub first_ready : Ready v
    first_ready = certificate_ready first first_passes

    pub second_ready : Ready w
    second_ready = certificate_ready second second_passes

    pub composite_ready : Ready (composed v w)
    composite_ready = composed_ready v w first_ready second_ready they_meet product_allowed

    pub composite_curves : Curves Certificate (composed v w)
    composite_curves =
        let one : Curves Certificate v = yes_to (check_asks first) 7 first_passes in
        let two : Curves Certificate (over v.p w) =
        subst (Curves Certificate) (sym (over_same w they_meet.p)) (yes_to (check_asks second) 7 second_passes) in
        record { domain = one.domain; codomain = two.codomain }

  -- ── the answer

  module _ (before : List ℕ) where
    -- One answer is right at most, with one content of the lent buffer.
    pub compose_unique : (after after' : List ℕ) (r r' : Result ℕ Refusal) → ComposeRight first second before after r
        → ComposeRight first second before after' r'
        → (r ≡ r') × (after ≡ after')
    compose_unique after after' r r' h k =
        let same =
        writes_unique (compose_asks first second (length before))
        (λ count after. ComposeIn v w (gOf Certificate first) (gOf Certificate second) before after count) before
        (λ all c c' xs ys a b.
        one_certificate (composed v w) (composite_ready (length before) all) before xs ys c c' a.certificate b.certificate)
        (outcome r) (outcome r') after after' h k in
        (same_outcome r r' same.0, same.1)

    -- Where all questions are answered with yes, compose writes a certificate, of as many words as its degree has.
    pub compose_written : (after : List ℕ) (r : Result ℕ Refusal) → AllYes (compose_asks first second (length before))
        → ComposeRight first second before after r
        → r ≡ Ok (certificate_words (half (composed v w)))
    compose_written after (Ok c) all h = ap Ok h.1.certificate.count_is
    compose_written after (Err q) all h = absurd (not_both (compose_asks first second (length before)) (number q) all h.0)

    module _ (after : List ℕ) (c : ℕ) (right : ComposeRight first second before after (Ok c)) where
      abbrev all : AllYes (compose_asks first second (length before))
      all = right.0

      abbrev held : ComposeIn v w (gOf Certificate first) (gOf Certificate second) before after c
      held = right.1

      known : Ready (composed v w)
      known = composite_ready (length before) all

      curves : Curves Certificate (composed v w)
      curves = composite_curves (length before) all

      -- What compose writes passes check.
      pub compose_certified : AllYes (check_asks (take c after))
      compose_certified =
          certified (composed v w) known curves before after c held.certificate

      -- Its values are those of the first domain, the second codomain, ℓ₁ℓ₂ and σ₂ + ℓ₂σ₁;
      pub compose_values : values_of Certificate (take c after) ≡ composed v w
      compose_values = written_values (composed v w) known curves before after c held.certificate

      -- and its g is the composite's.
      pub compose_g : poly v.p (gOf Certificate (take c after))
          ≡ composite_g (Zmod v.p) (question v) (half w) (poly v.p (gOf Certificate first)) (poly v.p (gOf Certificate second))
      compose_g =
          ap (poly v.p) (written_g (composed v w) known curves before after c held.certificate)
          ∙ held.g_is
