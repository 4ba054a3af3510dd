-- Two sheets before the service: which question was the first no, and what is known of certificates that pass.
-- Assumes nothing.
use mathlib.Core.Path.{◌≡◌, refl, sym, subst}
use mathlib.Core.Logic.{inl, inr}
use mathlib.Core.List.{List, ◌++◌}
use Prim.Native.Nat.{ℕ}
use lib.ListN.{length}
use Rattle.std.specs.Prelude.{Result, Ok, Err}
use Rattle.questions.specs.Questions.{Questions, AllYes, FirstNo}
use Rattle.questions.specs.Joined.{no_before, no_after, all_all}
use Rattle.questions.specs.declared.refusal.Refusal.{Refusal}
use Rattle.sheet.specs.declared.Form.TheVariants.{Certificate}
use Rattle.sheet.specs.declared.Values.{Values}
use Rattle.sheet.specs.Values.{values_of, gOf, n_of}
use Rattle.reading.specs.Accepted.{certificate_g, certificate_n}
use Rattle.promises.specs.Asked.{Room, ComposableValues, ProductAllowed, check_asks, join_asks, compose_asks}
use Rattle.promises.specs.Answer.{ComposeRight}
use Rattle.promises.specs.Certificates.{check_asked, certificate_ready, certificate_N, certificate_meets}
use Rattle.composing.specs.Joined.{Joined, Composed}

module _ (first second before : List ℕ) (room : Room (length before)) where
  abbrev v₀ : Values
  v₀ = values_of Certificate first

  abbrev w₀ : Values
  w₀ = values_of Certificate second

  abbrev later : Questions
  later = check_asks second ++ join_asks v₀ w₀

  -- ── the first no

  pub no_first : (k : ℕ) → FirstNo (check_asks first) k → FirstNo (compose_asks first second (length before)) k
  no_first k h = inr (room, no_before (check_asks first) later k h)

  module _ (all₁ : AllYes (check_asks first)) where
    pub no_second : (k : ℕ) → FirstNo (check_asks second) k → FirstNo (compose_asks first second (length before)) k
    no_second k h = inr (room, no_after (check_asks first) later k all₁ (no_before (check_asks second) (join_asks v₀ w₀) k h))

    module _ (all₂ : AllYes (check_asks second)) where
      no_join : (k : ℕ) → FirstNo (join_asks v₀ w₀) k → FirstNo (compose_asks first second (length before)) k
      no_join k h = inr (room, no_after (check_asks first) later k all₁ (no_after (check_asks second) (join_asks v₀ w₀) k all₂ h))

      joined_asks : ComposableValues v₀ w₀ → ProductAllowed v₀ w₀ → AllYes (compose_asks first second (length before))
      joined_asks meet allowed =
          (room, all_all (check_asks first) later all₁ (all_all (check_asks second) (join_asks v₀ w₀) all₂ (meet, (allowed, tt))))

      joined : ComposableValues v₀ w₀ → ProductAllowed v₀ w₀ → Joined v₀ w₀ (gOf Certificate first) (n_of Certificate first) (gOf Certificate second)
      joined meet allowed = record {
        ready₁ = certificate_ready first all₁;
        ready₂ = certificate_ready second all₂;
        meet = meet;
        allowed = allowed;
        g₁_words = certificate_g first (check_asked first all₁);
        n₁_words = certificate_n first (check_asked first all₁);
        g₂_words = certificate_g second (check_asked second all₂);
        meets₁ = certificate_meets first all₁;
        meets₂ = certificate_meets second all₂;
        n₁_is = certificate_N first all₁;
      }

      answered : (after : List ℕ) (r : Result ℕ Refusal) → ComposableValues v₀ w₀ → ProductAllowed v₀ w₀
          → Composed v₀ w₀ (gOf Certificate first) (gOf Certificate second) before after r → ComposeRight first second before after r
      answered after (Ok c) meet allowed h = (joined_asks meet allowed, h)
      answered after (Err refusal) meet allowed h = absurd h

      -- ── the same of values and coefficients that were read

      module _ (v w : Values) (v_is : v ≡ values_of Certificate first) (w_is : w ≡ values_of Certificate second) where
        to_sheets : (P : Values → Values → Type 0) → P v w → P (values_of Certificate first) (values_of Certificate second)
        to_sheets P h = subst (λ x. P x w₀) v_is (subst (P v) w_is h)

        from_sheets : (P : Values → Values → Type 0) → P (values_of Certificate first) (values_of Certificate second) → P v w
        from_sheets P h = subst (λ x. P x w) (sym v_is) (subst (P v₀) (sym w_is) h)

        pub unmet : (ComposableValues v w → ⊥) → FirstNo (compose_asks first second (length before)) 13
        unmet not = no_join 13 (inl (refl, λ meet. not (from_sheets ComposableValues meet)))

        pub disallowed : ComposableValues v w → (ProductAllowed v w → ⊥) → FirstNo (compose_asks first second (length before)) 14
        disallowed meet not = no_join 14 (inr (to_sheets ComposableValues meet, inl (refl, λ allowed. not (from_sheets ProductAllowed allowed))))

        module _ (meet : ComposableValues v w) (allowed : ProductAllowed v w) (g₁ n₁ g₂ : List ℕ) (g₁_is : g₁ ≡ gOf Certificate first)
            (n₁_is : n₁ ≡ n_of Certificate first) (g₂_is : g₂ ≡ gOf Certificate second) where
          pub joined_read : Joined v w g₁ n₁ g₂
          joined_read =
              subst (λ g. Joined v w g n₁ g₂) (sym g₁_is)
              (subst (λ n. Joined v w (gOf Certificate first) n g₂) (sym n₁_is)
              (subst (Joined v w (gOf Certificate first) (n_of Certificate first)) (sym g₂_is)
              (from_sheets (λ v w. Joined v w (gOf Certificate first) (n_of Certificate first) (gOf Certificate second))
              (joined (to_sheets ComposableValues meet) (to_sheets ProductAllowed allowed)))))

          pub answered_read : (after : List ℕ) (r : Result ℕ Refusal) → Composed v w g₁ g₂ before after r → ComposeRight first second before after r
          answered_read after r h =
              answered after r (to_sheets ComposableValues meet) (to_sheets ProductAllowed allowed)
              (to_sheets (λ v w. Composed v w (gOf Certificate first) (gOf Certificate second) before after r)
              (subst (λ g. Composed v w g (gOf Certificate second) before after r) g₁_is (subst (λ g. Composed v w g₁ g before after r) g₂_is h)))
