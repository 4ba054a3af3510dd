-- Demand 3 in sentences about sheets: what solve, check, push and kernel answer, stated for every answer that is right. (That what they return is right is
-- their contract; that one answer is right and no other is on the page of each service.) One page to cite.
-- Assumes nothing.
use Rattle.std.specs.Prelude.{◌≡◌, refl, ◌↔◌, ◌≢◌, List, [], ◌∷◌, ℕ, length, Result, Ok, Err}
use Rattle.std.proofs.Common.{ap, subst, inl, inr, arith}
use Rattle.series.specs.Series.{Seq}
use Rattle.zmod.specs.Zmod.{Elt, Zmod, mk}
use Rattle.zmod.specs.Residues.{poly}
use Rattle.isogeny.specs.Curve.{OnCurve}
use Rattle.isogeny.specs.Kernel.{Passes}
use Rattle.isogeny.specs.Rules.{Meets, g_at}
use Rattle.isogeny.proofs.Theorems.{unique}
use Rattle.questions.specs.Questions.{Questions, AllYes, not_both}
use Rattle.questions.specs.Joined.{no_after, all_all, all_front, all_back}
use Rattle.questions.specs.Numbered.{no_by}
use Rattle.sheet.specs.declared.Form.TheVariants.{Question, Certificate, Kernel}
use Rattle.sheet.specs.declared.Values.{Values}
use Rattle.sheet.specs.Form.{certificate_words}
use Rattle.sheet.specs.Values.{values_of, half, gOf, n_of}
use Rattle.sheet.specs.Asked.{asked}
use Rattle.sheet.specs.Ready.{Ready, ready, half_least, degree_half}
use Rattle.questions.specs.Number.{number}
use Rattle.questions.specs.declared.refusal.Refusal.{Refusal}
use Rattle.questions.specs.declared.refusal.Refusal.TheVariants as refusal
use Rattle.promises.specs.declared.Point.{Point}
use Rattle.promises.specs.declared.Point.TheVariants as point
use Rattle.promises.specs.Asked.{Room, Solvable, Leading, Passing, OnDomain, Given, prime, put, g, check_asks, solve_asks, last_ask, kernel_asks, push_asks}
use Rattle.promises.specs.Answer.{CheckRight, CertificateIn, SolveRight, KernelRight, PushRight, ToPoint}
use Rattle.guarantees.specs.Check.{check_unique}
use Rattle.guarantees.specs.Solve.{solve_unique, refused_11, unsolved_11}
use Rattle.guarantees.specs.Push.{push_on_codomain}
use Rattle.guarantees.specs.Kernel.{kernel_unique}

-- ── solve

-- For a question sheet that comes as far as question 11, any two polynomials that meet the rules are equal.
pub sheet_unique : (ws : List ℕ) → AllYes (asked Question ws) → (a b : Seq (Zmod (prime Question ws)))
    → Meets (Zmod (prime Question ws)) (put Question ws) a → Meets (Zmod (prime Question ws)) (put Question ws) b → a ≡ b
sheet_unique ws all a b h k =
    let v : Values = values_of Question ws in
    let known : Ready (values_of Question ws) = ready Question ws all in
    unique known.prime.prime (put Question ws) (half_least (values_of Question ws) known)
    (omega (arith, known.degree, degree_half (values_of Question ws) known)) a b h k

-- If there is one, and the buffer has room, solve answers with the count of a certificate's words, and the buffer holds the certificate with that
-- polynomial.
pub solved : (ws before after : List ℕ) (r : Result ℕ Refusal) → Room (length before) → AllYes (asked Question ws)
    → (a : Seq (Zmod (prime Question ws))) → Meets (Zmod (prime Question ws)) (put Question ws) a → SolveRight ws before after r
    → (r ≡ Ok (certificate_words (half (values_of Question ws))))
    × ((f : CertificateIn (values_of Question ws) before after (certificate_words (half (values_of Question ws)))) × (poly (prime Question ws) f.g ≡ a))
solved ws before after (Err q) room all a meets h =
    absurd (not_both (solve_asks ws (length before)) (number q)
    (room, all_all (asked Question ws) ((11, Solvable (values_of Question ws)) ∷ []) all (record { g = a; meets = meets }, tt)) h.0)
solved ws before after (Ok c) room all a meets (_, f) =
    let e : c ≡ certificate_words (half (values_of Question ws)) = f.count_is in (
      ap Ok e,
      subst (λ n. (f : CertificateIn (values_of Question ws) before after n) × (poly (prime Question ws) f.g ≡ a)) e
          (f, sheet_unique ws all (poly (prime Question ws) f.g) a f.meets meets),
    )

-- Solve answers 11 exactly when the sheet comes as far as question 11 and no polynomial meets the rules.
pub solve_11 : (ws before after : List ℕ) (r : Result ℕ Refusal) → SolveRight ws before after r
    → (r ≡ Err refusal.NoIsogeny)
    ↔ (Room (length before) × AllYes (asked Question ws)
    × ((a : Seq (Zmod (prime Question ws))) → Meets (Zmod (prime Question ws)) (put Question ws) a → ⊥))
solve_11 ws before after r h = (
  λ e. refused_11 ws before after (subst (SolveRight ws before after) e h),
  λ none. (solve_unique ws before after before r (Err refusal.NoIsogeny) h (unsolved_11 ws before none.0 none.1 none.2)).0,
)

-- ── check

-- Check lets pass exactly the certificates: the sheets that answer questions 2 to 10 with yes.
pub passes_exactly : (ws : List ℕ) (r : Result (Unit {0}) Refusal) → CheckRight ws r → (r ≡ Ok tt) ↔ AllYes (check_asks ws)
passes_exactly ws r h = (λ e. (subst (CheckRight ws) e h).0, λ all. check_unique ws r (Ok tt) h (all, tt))

-- ── push, through a certificate that passes

module _ (ws : List ℕ) (passes : AllYes (check_asks ws)) where
  abbrev p : ℕ
  p = prime Certificate ws

  asked_affine : (u v : ℕ) → OnDomain (values_of Certificate ws) u v → AllYes (push_asks ws (point.Affine u v))
  asked_affine u v on = all_all (check_asks ws) ((12, Given (values_of Certificate ws) (point.Affine u v)) ∷ []) passes (on, tt)

  -- A point (u, v) of the domain with g(u) not 0 goes to an affine point, the one that the rules name, and that point is on the codomain.
  pub push_affine : (u v : ℕ) (r : Result Point Refusal) → OnDomain (values_of Certificate ws) u v
      → g_at (Zmod p) (put Certificate ws) (g Certificate ws) (mk p u) ≢ mk p 0
      → PushRight ws (point.Affine u v) r
      → (u' : ℕ) × (v' : ℕ) × (r ≡ Ok (point.Affine u' v')) × ToPoint (values_of Certificate ws) (gOf Certificate ws) (n_of Certificate ws) u v u' v'
      × OnCurve (Zmod p) (put Certificate ws).Ã (put Certificate ws).B̃ (mk p u') (mk p v')
  push_affine u v (Ok (point.Affine u' v')) on nonzero h = (u', v', refl, h.1, push_on_codomain ws (point.Affine u v) u' v' h)
  push_affine u v (Ok point.Infinity) on nonzero h = absurd (nonzero h.1)
  push_affine u v (Err q) on nonzero h = absurd (not_both (push_asks ws (point.Affine u v)) (number q) (asked_affine u v on) h)

  -- A point (u, v) of the domain with g(u) = 0 goes to infinity.
  pub push_kernel : (u v : ℕ) (r : Result Point Refusal) → OnDomain (values_of Certificate ws) u v
      → g_at (Zmod p) (put Certificate ws) (g Certificate ws) (mk p u) ≡ mk p 0
      → PushRight ws (point.Affine u v) r → r ≡ Ok point.Infinity
  push_kernel u v (Ok (point.Affine u' v')) on zero h = absurd (h.1.image.defined zero)
  push_kernel u v (Ok point.Infinity) on zero h = refl
  push_kernel u v (Err q) on zero h = absurd (not_both (push_asks ws (point.Affine u v)) (number q) (asked_affine u v on) h)

  -- Infinity goes to infinity.
  pub push_infinity : (r : Result Point Refusal) → PushRight ws point.Infinity r → r ≡ Ok point.Infinity
  push_infinity (Ok (point.Affine u' v')) h = absurd h.1
  push_infinity (Ok point.Infinity) h = refl
  push_infinity (Err q) h =
      absurd
      (not_both (push_asks ws point.Infinity) (number q) (all_all (check_asks ws) ((12, Given (values_of Certificate ws) point.Infinity) ∷ []) passes (tt, tt)) h)

-- ── kernel

module _ (ws : List ℕ) where
  abbrev q : ℕ
  q = prime Kernel ws

  -- The codomain (Ã, B̃) passes question 7 and meets R3, for the domain, the degree and the polynomial on a kernel sheet.
  abbrev pub KernelPasses : Elt q → Elt q → Type 0
  KernelPasses Ã B̃ = Passes (Zmod q) (put Kernel ws).A (put Kernel ws).B (half (values_of Kernel ws)) (g Kernel ws) Ã B̃

  -- A kernel sheet comes as far as question 11.
  abbrev pub ToEleven : ℕ → Type 0
  ToEleven room = Room room × AllYes (asked Kernel ws) × Leading (values_of Kernel ws) (gOf Kernel ws)

  -- questions 8 and 11
  abbrev later : Questions
  later = last_ask (values_of Kernel ws) (gOf Kernel ws)

  module _ (before after : List ℕ) where
    -- Kernel writes a certificate exactly when the sheet comes as far as question 11 and some codomain passes 7 and meets R3;
    pub kernel_written : (r : Result ℕ Refusal) → KernelRight ws before after r
        → (r ≡ Ok (certificate_words (half (values_of Kernel ws)))) ↔ (ToEleven (length before) × ((Ã : Elt q) × (B̃ : Elt q) × KernelPasses Ã B̃))
    kernel_written r h = (λ e. there _ (subst (KernelRight ws before after) e h), λ all. back r h all.0 all.1)
      where
        there : (c : ℕ) → KernelRight ws before after (Ok c) → ToEleven (length before) × ((Ã : Elt q) × (B̃ : Elt q) × KernelPasses Ã B̃)
        there c (all, _) =
            let rest : AllYes later = all_back (asked Kernel ws) later all.1 in
            let some : Passing (values_of Kernel ws) (gOf Kernel ws) = rest.1.0 in
            ((all.0, all_front (asked Kernel ws) later all.1, rest.0), (some.Ã, some.B̃, some.passes))

        back : (r : Result ℕ Refusal) → KernelRight ws before after r → ToEleven (length before) → ((Ã : Elt q) × (B̃ : Elt q) × KernelPasses Ã B̃)
            → r ≡ Ok (certificate_words (half (values_of Kernel ws)))
        back (Ok c) (_, it) to some = ap Ok it.certificate.count_is
        back (Err no_codomain) (refused, _) (room, all, leading) (Ã, B̃, passes) =
            absurd (not_both (kernel_asks ws (length before)) (number no_codomain)
            (room, all_all (asked Kernel ws) later all (leading, (record { Ã = Ã; B̃ = B̃; passes = passes }, tt))) refused)

    -- and it answers 11 exactly when the sheet comes as far as question 11 and no codomain does.
    pub kernel_11 : (r : Result ℕ Refusal) → KernelRight ws before after r
        → (r ≡ Err refusal.NoIsogeny) ↔ (ToEleven (length before) × ((Ã B̃ : Elt q) → KernelPasses Ã B̃ → ⊥))
    kernel_11 r h = (
      λ e. there (subst (KernelRight ws before after) e h),
      λ none. (kernel_unique ws before after before r (Err refusal.NoIsogeny) h (back none.0 none.1)).0,
    )
      where
        there : KernelRight ws before after (Err refusal.NoIsogeny) → ToEleven (length before) × ((Ã B̃ : Elt q) → KernelPasses Ã B̃ → ⊥)
        there (refused, _) =
            let no = no_by (kernel_asks ws (length before)) 11 tt refused in
            let eight : Questions = (8, Leading (values_of Kernel ws) (gOf Kernel ws)) ∷ [] in (
              (no.0.0, all_front (asked Kernel ws) eight no.0.1, (all_back (asked Kernel ws) eight no.0.1).0),
              λ Ã B̃ passes. no.1 (record { Ã = Ã; B̃ = B̃; passes = passes }),
            )

        back : ToEleven (length before) → ((Ã B̃ : Elt q) → KernelPasses Ã B̃ → ⊥) → KernelRight ws before before (Err refusal.NoIsogeny)
        back (room, all, leading) none =
            (inr (room, no_after (asked Kernel ws) later 11 all (inr (leading, inl (refl, λ some. none some.Ã some.B̃ some.passes)))), refl)
