-- Whether a row of the table holds, by computing: `test` is a boolean that the checker computes, and a row that passes it holds.
-- Assumes nothing.
use Rattle.std.specs.Prelude.{◌≡◌, refl, Bool, true, false, not, List, [], ◌∷◌, ◌++◌, length, get_or, drop, Result, Ok, Err}
use Rattle.std.specs.Prelude.{ℕ, suc, ◌+◌, ◌-◌, ◌*◌, ◌%◌, ◌^◌, ◌<◌, ◌≤◌, T, eqb, leb, ltb}
use Rattle.std.proofs.Common.{sym, ◌∙◌, ap, ap₂, subst, inl, inr, arith, eq-eqb, lt-ltb, le-leb, eqb→eq, leb→le, ltb→lt}
use Rattle.std.proofs.lemmas.Bool.{eqb-false}
use Rattle.ring.specs.Test.{both, both_left, both_right}
use Rattle.series.specs.Series.{Seq}
use Rattle.zmod.specs.Zmod.{Elt, Zmod, mk, mk_eq}
use Rattle.zmod.specs.Prime.{prime_pos}
use Rattle.zmod.specs.Calculation.{prime_test, prime_yes}
use Rattle.zmod.specs.Residues.{poly, poly_at}
use Rattle.roots.specs.Computed.{found, roots_computed}
use Rattle.isogeny.specs.Curve.{Nonsingular}
use Rattle.isogeny.specs.Rules as Rules
use Rattle.isogeny.specs.Rules.{N, R1, R3, Meets}
use Rattle.isogeny.proofs.Theorems.{unique}
use Rattle.composition.specs.Composite.{composite_g}
use Rattle.sheet.specs.declared.Form.TheVariants.{Question, Certificate, Kernel}
use Rattle.sheet.specs.declared.Values.{Values}
use Rattle.sheet.specs.Form.{certificate_words}
use Rattle.sheet.specs.Values.{gOf, n_of, abscissas_of, values_of, question, half}
use Rattle.sheet.specs.Ready.{Ready, half_least, degree_half}
use Rattle.sheet.specs.Asked.{asked}
use Rattle.certificate.specs.Certificate.{certificate}
use Rattle.questions.specs.Questions.{Questions, AllYes, FirstNo}
use Rattle.questions.specs.Joined.{all_all, no_before, no_after}
use Rattle.questions.specs.Number.{number}
use Rattle.questions.specs.declared.refusal.Refusal.{Refusal}
use Rattle.promises.specs.declared.Point.{Point}
use Rattle.promises.specs.declared.Point.TheVariants as point
use Rattle.promises.specs.Abscissas.{rational_abscissas_of}
use Rattle.promises.specs.Asked.{prime, put, g, n, Room, check_asks, push_asks, name_asks, Solvable, last_ask, Passing, Leading, Given}
use Rattle.promises.specs.Asked.{ComposableValues, ProductAllowed, join_asks}
use Rattle.promises.specs.Composed.{composed_ready, composed_meets}
use Rattle.promises.specs.Certificates.{certificate_ready, certificate_meets}
use Rattle.promises.specs.Answer.{SolveRight, KernelRight, ComposeRight, PushRight, CertificateIn, with, composed}
use Rattle.marked.specs.Tests.{one, one_of, every, Every, every_yes, same_list, same_list_yes, below, below_yes}
use Rattle.marked.specs.Rules.{
  numerator,
  parts_tests,
  linear_by_computing,
  first_by_computing,
  second_by_computing,
  R1_test,
  R1_by_computing,
  R2_test,
  R2_by_computing,
  R2_refuted,
  R3_test,
  R3_by_computing,
  R3_refuted,
  meets_test,
  meets_by_computing,
  none_test,
  none_by_computing,
  nonsingular_test,
  nonsingular_by_computing,
  on_curve_test,
  on_curve_by_computing,
  image_test,
  image_by_computing,
  vanishes_test,
  vanishes_by_computing,
}
use Rattle.marked.specs.Sheets.{
  asked_test,
  asked_by_computing,
  prime_by_computing,
  least_by_computing,
  no_test,
  no_by_computing,
}
use Rattle.marked.specs.NoCodomain.{candidate, no_codomain}
use Rattle.marked.specs.Row.{Row, Printed, Claim, Listed, question_words, kernel_words, printed_words, count, filled}
use Rattle.marked.specs.Row.Row.{solves, unsolved, pushes, kernel, no_kernel, composes, no_composite, refused, refused_though, unnamed, parts}

-- ── the count of rational abscissas, by trying each u

abbrev abscissas : Values → List ℕ → ℕ
abscissas v g = found v.p (length g) g v.p

abscissas_are : (v : Values) (g : List ℕ) → 0 < v.p → rational_abscissas_of v g ≡ abscissas v g
abscissas_are v g pos = roots_computed v.p (length g) pos g

-- ── a certificate in the buffer: the values v, g, n and the count c of a row against those that are read from the sheet

module _ (read : Values) (g n : List ℕ) (v : Values) (g₀ : List ℕ) (c : ℕ) where
  abbrev fill_tests : List Bool
  fill_tests =
      meets_test read g n ∷ eqb (length g) (half read + 1) ∷ eqb (length n) (2 * half read + 2) ∷ below read.p g ∷ below read.p n
      ∷ eqb (count v) (certificate_words (half read)) ∷ same_list (certificate v g₀ n c) (certificate read g n (abscissas read g)) ∷ []

  abbrev fill_by_computing : 0 < read.p → Every fill_tests → (before : List ℕ) → CertificateIn read before (filled v g₀ n c before) (count v)
  fill_by_computing pos t before = record {
    g = g;
    n = n;
    g_words = record { count = eqb→eq _ _ (t 1); reduced = below_yes read.p pos g (t 3) };
    n_words = record { count = eqb→eq _ _ (t 2); reduced = below_yes read.p pos n (t 4) };
    meets = meets_by_computing read g n pos (t 0);
    n_is = R2_by_computing read g n pos (both_left (R2_test read g n) (R3_test read g n) (both_right (R1_test read g) _ (t 0)));
    count_is = eqb→eq _ _ (t 5);
    words =
        ap (λ l. l ++ drop (count v) before) (same_list_yes (certificate v g₀ n c) (certificate read g n (abscissas read g)) (t 6))
        ∙ ap (λ k. certificate read g n k ++ drop (count v) before) (sym (abscissas_are read g pos));
  }

-- ── solve

module _ (asked_values : Values) where
  abbrev ws : List ℕ
  ws = question_words asked_values

  abbrev read : Values
  read = values_of Question ws

  abbrev solve_test : Values → List ℕ → List ℕ → ℕ → Bool
  solve_test v g n c = both (asked_test Question ws) (every (fill_tests read g n v g c))

  solve_by_computing : (v : Values) (g n : List ℕ) (c : ℕ) → T (solve_test v g n c) → (before : List ℕ) → Room (length before)
      → SolveRight ws before (filled v g n c before) (Ok (count v))
  solve_by_computing v g n c t before room =
      let a : Bool = asked_test Question ws in
      let ta : T (asked_test Question ws) = both_left a _ t in
      let pos : 0 < read.p = prime_pos (prime_by_computing Question ws ta) in
      let fill : CertificateIn read before (filled v g n c before) (count v) = fill_by_computing read g n v g c pos
      (every_yes (fill_tests read g n v g c) (both_right a _ t)) before in (
        (
          room,
          all_all (asked Question ws) ((11, Solvable read) ∷ []) (asked_by_computing Question ws ta)
              (record { g = poly read.p fill.g; meets = fill.meets }, tt),
        ),
        fill,
      )

  abbrev none_meets_test : ℕ → Bool
  none_meets_test k = both (asked_test Question ws) (both (none_test read) (eqb k 11))

  none_meets : (q : Refusal) → T (none_meets_test (number q)) → (before : List ℕ) → Room (length before)
      → SolveRight ws before before (Err q)
  none_meets q t before room =
      let a : Bool = asked_test Question ws in
      let ta : T (asked_test Question ws) = both_left a _ t in
      let rest : T (both (none_test read) (eqb (number q) 11)) = both_right a _ t in
      let small : 11 ≤ read.p = least_by_computing Question ws ta in (
        inr (
          room,
          no_after (asked Question ws) ((11, Solvable read) ∷ []) (number q) (asked_by_computing Question ws ta)
              (inl (
                eqb→eq (number q) 11 (both_right (none_test read) (eqb (number q) 11) rest),
                λ s. none_by_computing read (prime_by_computing Question ws ta) (omega arith) (both_left (none_test read) (eqb (number q) 11) rest) s.g s.meets,
              )),
        ),
        refl,
      )

  abbrev unsolved_test : ℕ → Bool
  unsolved_test k = one (no_test Question ws k) (none_meets_test k)

  unsolved_by_computing : (q : Refusal) → T (unsolved_test (number q)) → (before : List ℕ) → Room (length before) → SolveRight ws before before (Err q)
  unsolved_by_computing q t before room =
      one_of (no_test Question ws (number q)) (none_meets_test (number q))
      (λ t. (inr (room, no_before (asked Question ws) ((11, Solvable read) ∷ []) (number q) (no_by_computing Question ws (number q) t)), refl))
      (λ t. none_meets q t before room) t

-- ── check and push

module _ (ws : List ℕ) where
  abbrev v : Values
  v = values_of Certificate ws

  abbrev γ : List ℕ
  γ = gOf Certificate ws

  abbrev ν : List ℕ
  ν = n_of Certificate ws

  positive : T (asked_test Certificate ws) → 0 < v.p
  positive t = prime_pos (prime_by_computing Certificate ws t)

  -- 9, its two halves by tests
  abbrev Nine : Type 0
  Nine = (n Certificate ws ≡ N (Zmod (prime Certificate ws)) (put Certificate ws) (g Certificate ws)) × (abscissas_of ws ≡ rational_abscissas_of v γ)

  abbrev nine_test : Bool
  nine_test = both (R2_test v γ ν) (eqb (abscissas_of ws) (abscissas v γ))

  nine_by_computing : 0 < v.p → T nine_test → Nine
  nine_by_computing pos t = (
    R2_by_computing v γ ν pos (both_left (R2_test v γ ν) _ t),
    eqb→eq (abscissas_of ws) (abscissas v γ) (both_right (R2_test v γ ν) _ t) ∙ sym (abscissas_are v γ pos),
  )

  nine_refuted : 0 < v.p → nine_test ≡ false → Nine → ⊥
  nine_refuted pos e (numerator_is, count_is) = go (R2_test v γ ν) refl e
    where
      go : (b : Bool) → R2_test v γ ν ≡ b → both b (eqb (abscissas_of ws) (abscissas v γ)) ≡ false → ⊥
      go true _ e = eqb-false (abscissas_of ws) (abscissas v γ) e (count_is ∙ abscissas_are v γ pos)
      go false other _ = R2_refuted v γ ν pos (subst (λ b. T (not b)) (sym other) tt) numerator_is

  -- 9 and 10, and with 8
  abbrev later : Questions
  later = (9, Nine) ∷ (10, R3 (Zmod (prime Certificate ws)) (put Certificate ws) (g Certificate ws) (n Certificate ws)) ∷ []

  abbrev rules : Questions
  rules = (8, R1 (Zmod (prime Certificate ws)) (put Certificate ws) (g Certificate ws)) ∷ later

  abbrev pass_tests : List Bool
  pass_tests = asked_test Certificate ws ∷ R1_test v γ ∷ nine_test ∷ R3_test v γ ν ∷ []

  pass_by_computing : Every pass_tests → AllYes (check_asks ws)
  pass_by_computing t =
      let pos : 0 < v.p = positive (t 0) in
      all_all (asked Certificate ws) rules (asked_by_computing Certificate ws (t 0))
      (R1_by_computing v γ pos (t 1), (nine_by_computing pos (t 2), (R3_by_computing v γ ν pos (t 3), tt)))

  -- 9 where N is not that of R2 or the count is wrong, and else 10 where R3 does not hold
  abbrev rule_test : Bool → ℕ → Bool
  rule_test true k = both (not (R3_test v γ ν)) (eqb k 10)
  rule_test false k = eqb k 9

  abbrev refused_tests : ℕ → List Bool
  refused_tests k = asked_test Certificate ws ∷ R1_test v γ ∷ rule_test nine_test k ∷ []

  refused_by_computing : (k : ℕ) → Every (refused_tests k) → FirstNo (check_asks ws) k
  refused_by_computing k t =
      no_after (asked Certificate ws) rules k (asked_by_computing Certificate ws (t 0))
      (inr (R1_by_computing v γ pos (t 1), go nine_test refl (t 2)))
    where
      pos : 0 < v.p
      pos = positive (t 0)

      go : (b : Bool) → nine_test ≡ b → T (rule_test b k) → FirstNo later k
      go true e s =
          inr (
            nine_by_computing pos (subst T (sym e) tt),
            inl (eqb→eq k 10 (both_right (not (R3_test v γ ν)) (eqb k 10) s), R3_refuted v γ ν pos (both_left (not (R3_test v γ ν)) (eqb k 10) s)),
          )
      go false e s = inl (eqb→eq k 9 s, nine_refuted pos e)

  -- and the number of a question before them
  abbrev refused_test : ℕ → Bool
  refused_test k = one (no_test Certificate ws k) (every (refused_tests k))

  refused_holds : (k : ℕ) → T (refused_test k) → FirstNo (check_asks ws) k
  refused_holds k =
      one_of (no_test Certificate ws k) (every (refused_tests k)) (λ t. no_before (asked Certificate ws) rules k (no_by_computing Certificate ws k t))
      (λ t. refused_by_computing k (every_yes (refused_tests k) t))

  abbrev given_tests : ℕ → ℕ → List Bool
  given_tests u w = ltb u v.p ∷ ltb w v.p ∷ on_curve_test v.p v.a v.b u w ∷ []

  abbrev push_tests : Point → Result Point Refusal → List Bool
  push_tests (point.Affine u w) (Ok (point.Affine u' w')) =
      every pass_tests ∷ every (given_tests u w) ∷ ltb u' v.p ∷ ltb w' v.p ∷ image_test v γ ν u w u' w' ∷ []
  push_tests (point.Affine u w) (Ok point.Infinity) = every pass_tests ∷ every (given_tests u w) ∷ vanishes_test v γ u ∷ []
  push_tests (point.Affine u w) (Err q) = false ∷ []
  push_tests point.Infinity (Ok (point.Affine u' w')) = false ∷ []
  push_tests point.Infinity (Ok point.Infinity) = every pass_tests ∷ []
  push_tests point.Infinity (Err q) = false ∷ []

  given_by_computing : T (every pass_tests) → (u w : ℕ) → T (every (given_tests u w)) → AllYes (push_asks ws (point.Affine u w))
  given_by_computing t u w s =
      let r : Every (given_tests u w) = every_yes (given_tests u w) s in
      let p : Every pass_tests = every_yes pass_tests t in
      all_all (check_asks ws) ((12, Given v (point.Affine u w)) ∷ []) (pass_by_computing p) (
        record {
          x_below = ltb→lt u v.p (r 0);
          y_below = ltb→lt w v.p (r 1);
          on = on_curve_by_computing (positive (p 0)) v.a v.b u w (r 2);
        },
        tt,
      )

  push_by_computing : (from : Point) (to : Result Point Refusal) → Every (push_tests from to) → PushRight ws from to
  push_by_computing (point.Affine u w) (Ok (point.Affine u' w')) t = (
    given_by_computing (t 0) u w (t 1),
    record {
      u_below = ltb→lt u' v.p (t 2);
      w_below = ltb→lt w' v.p (t 3);
      image = image_by_computing v γ ν (positive (every_yes pass_tests (t 0) 0)) u w u' w' (t 4);
    },
  )
  push_by_computing (point.Affine u w) (Ok point.Infinity) t =
      (given_by_computing (t 0) u w (t 1), vanishes_by_computing v γ ν (positive (every_yes pass_tests (t 0) 0)) u (t 2))
  push_by_computing (point.Affine u w) (Err q) t = absurd (t 0)
  push_by_computing point.Infinity (Ok (point.Affine u' w')) t = absurd (t 0)
  push_by_computing point.Infinity (Ok point.Infinity) t =
      (all_all (check_asks ws) ((12, Given v point.Infinity) ∷ []) (pass_by_computing (every_yes pass_tests (t 0))) (tt, tt), tt)
  push_by_computing point.Infinity (Err q) t = absurd (t 0)

-- ── kernel

module _ (asked_values : Values) (asked_g : List ℕ) (v : Values) (g₀ n : List ℕ) (c : ℕ) where
  abbrev sheet : List ℕ
  sheet = kernel_words asked_values asked_g

  abbrev completed : Values
  completed = with (values_of Kernel sheet) v.atilde v.btilde v.sigma

  abbrev γ₀ : List ℕ
  γ₀ = gOf Kernel sheet

  abbrev codomain_tests : List Bool
  codomain_tests =
      asked_test Kernel sheet ∷ ltb v.atilde completed.p ∷ ltb v.btilde completed.p ∷ ltb v.sigma completed.p
      ∷ nonsingular_test completed.p v.atilde v.btilde ∷ every (fill_tests completed γ₀ n v g₀ c) ∷ []

  -- the sheet's question with any σ: the number on the certificate, and R1's
  abbrev with_sigma : Elt completed.p → Rules.Question (Zmod completed.p)
  with_sigma s = record {
    A = mk completed.p completed.a;
    B = mk completed.p completed.b;
    Ã = mk completed.p v.atilde;
    B̃ = mk completed.p v.btilde;
    d = half completed;
    σ = s;
  }

  kernel_by_computing : Every codomain_tests → (before : List ℕ) → Room (length before)
      → KernelRight sheet before (filled v g₀ n c before) (Ok (count v))
  kernel_by_computing t before room =
      let p : ℕ = completed.p in
      let pos : 0 < p = prime_pos (prime_by_computing Kernel sheet (t 0)) in
      let curve : Nonsingular (Zmod p) (mk p v.atilde) (mk p v.btilde) =
      nonsingular_by_computing pos v.atilde v.btilde (t 4)
      in
      let fill : Every (fill_tests completed γ₀ n v g₀ c) = every_yes (fill_tests completed γ₀ n v g₀ c) (t 5) in
      let meets : Meets (Zmod p) (with_sigma (mk p v.sigma)) (poly p γ₀) = meets_by_computing completed γ₀ n pos (fill 0) in (
        (
          room,
          all_all (asked Kernel sheet) (last_ask (values_of Kernel sheet) γ₀) (asked_by_computing Kernel sheet (t 0)) (
            meets.r1.leading,
            (
              record {
                Ã = mk p v.atilde;
                B̃ = mk p v.btilde;
                passes = (curve, subst (λ s. R3 (Zmod p) (with_sigma s) (poly p γ₀) (N (Zmod p) (with_sigma s) (poly p γ₀))) meets.r1.sigma meets.r3);
              },
              tt,
            ),
          ),
        ),
        record {
          ã = v.atilde;
          b̃ = v.btilde;
          σ = v.sigma;
          ã-below = ltb→lt v.atilde p (t 1);
          b̃-below = ltb→lt v.btilde p (t 2);
          σ_below = ltb→lt v.sigma p (t 3);
          nonsingular = curve;
          certificate = fill_by_computing completed γ₀ n v g₀ c pos fill before;
          same_g = refl;
        },
      )

-- 11 where questions 1 to 8 pass and Vélu's codomain does not meet R3
module _ (v : Values) (g₀ : List ℕ) where
  abbrev asking : List ℕ
  asking = kernel_words v g₀

  abbrev known : Values
  known = values_of Kernel asking

  abbrev kernel_g : List ℕ
  kernel_g = gOf Kernel asking

  abbrev no_kernel_tests : ℕ → List Bool
  no_kernel_tests k =
      asked_test Kernel asking ∷ leb 1 (half known) ∷ leb (length kernel_g) (suc (half known)) ∷ eqb (get_or kernel_g (half known) 0 % known.p) (1 % known.p)
      ∷ not (R3_test (candidate known kernel_g) kernel_g (numerator (candidate known kernel_g) kernel_g)) ∷ eqb k 11 ∷ []

  no_kernel_by_computing : (q : Refusal) → Every (no_kernel_tests (number q)) → (before : List ℕ) → Room (length before)
      → KernelRight asking before before (Err q)
  no_kernel_by_computing q t before room =
      let pos : 0 < known.p = prime_pos (prime_by_computing Kernel asking (t 0)) in
      let leading : Leading known kernel_g = poly_at known.p kernel_g (half known) ∙ mk_eq pos (get_or kernel_g (half known) 0) 1 (eqb→eq _ _ (t 3)) in
      let short : length kernel_g ≤ suc (half known) = leb→le (length kernel_g) (suc (half known)) (t 2) in
      let none : Passing known kernel_g → ⊥ = no_codomain known kernel_g pos (leb→le 1 (half known) (t 1)) short leading (t 4) in (
        inr (
          room,
          no_after (asked Kernel asking) (last_ask known kernel_g) (number q) (asked_by_computing Kernel asking (t 0))
              (inr (leading, inl (eqb→eq (number q) 11 (t 5), none))),
        ),
        refl,
      )

-- ── compose

module _ (s t : Printed) where
  abbrev ws₁ : List ℕ
  ws₁ = printed_words s

  abbrev ws₂ : List ℕ
  ws₂ = printed_words t

  abbrev v₁ : Values
  v₁ = values_of Certificate ws₁

  abbrev v₂ : Values
  v₂ = values_of Certificate ws₂

  abbrev both_pass : Bool
  both_pass = both (every (pass_tests ws₁)) (every (pass_tests ws₂))

  passes₁ : T both_pass → AllYes (check_asks ws₁)
  passes₁ b = pass_by_computing ws₁ (every_yes (pass_tests ws₁) (both_left (every (pass_tests ws₁)) _ b))

  passes₂ : T both_pass → AllYes (check_asks ws₂)
  passes₂ b = pass_by_computing ws₂ (every_yes (pass_tests ws₂) (both_right (every (pass_tests ws₁)) _ b))

  -- 13 and 14
  abbrev meet_tests : List Bool
  meet_tests = eqb v₁.p v₂.p ∷ eqb v₁.atilde v₂.a ∷ eqb v₁.btilde v₂.b ∷ []

  meet_by_computing : T (every meet_tests) → ComposableValues v₁ v₂
  meet_by_computing b =
      let e : Every meet_tests = every_yes meet_tests b in
      record { p = eqb→eq _ _ (e 0); a = eqb→eq _ _ (e 1); b = eqb→eq _ _ (e 2) }

  abbrev product_tests : List Bool
  product_tests = leb (v₁.degree * v₂.degree) 255 ∷ ltb (2 * (v₁.degree * v₂.degree) - 1) v₁.p ∷ []

  product_by_computing : T (every product_tests) → ProductAllowed v₁ v₂
  product_by_computing b =
      let e : Every product_tests = every_yes product_tests b in
      record { most = leb→le _ _ (e 0); small = ltb→lt _ _ (e 1) }

  abbrev compose_tests : Printed → List Bool
  compose_tests u =
      both_pass ∷ every meet_tests ∷ every product_tests ∷ ltb 0 v₁.p
      ∷ every (fill_tests (composed v₁ v₂) u.g u.n u.values u.g u.abscissas) ∷ []

  -- the composite's g is the one g that meets the rules
  compose_by_computing : (u : Printed) → Every (compose_tests u) → (before : List ℕ) → Room (length before)
      → ComposeRight ws₁ ws₂ before (filled u.values u.g u.n u.abscissas before) (Ok (count u.values))
  compose_by_computing u b before room = (
    (
      room,
      all_all (check_asks ws₁) (check_asks ws₂ ++ join_asks v₁ v₂) (passes₁ (b 0))
          (all_all (check_asks ws₂) (join_asks v₁ v₂) (passes₂ (b 0)) (meet, (allowed, tt))),
    ),
    record { certificate = fill; g_is = same },
  )
    where
      meet : ComposableValues v₁ v₂
      meet = meet_by_computing (b 1)

      allowed : ProductAllowed v₁ v₂
      allowed = product_by_computing (b 2)

      ready₁ : Ready v₁
      ready₁ = certificate_ready ws₁ (passes₁ (b 0))

      ready₂ : Ready v₂
      ready₂ = certificate_ready ws₂ (passes₂ (b 0))

      known : Ready (composed v₁ v₂)
      known = composed_ready v₁ v₂ ready₁ ready₂ meet allowed

      fill : CertificateIn (composed v₁ v₂) before (filled u.values u.g u.n u.abscissas before) (count u.values)
      fill =
          fill_by_computing (composed v₁ v₂) u.g u.n u.values u.g u.abscissas (ltb→lt 0 v₁.p (b 3))
          (every_yes (fill_tests (composed v₁ v₂) u.g u.n u.values u.g u.abscissas) (b 4)) before

      same : poly v₁.p u.g
          ≡ composite_g (Zmod v₁.p) (question v₁) (half v₂) (poly v₁.p (gOf Certificate ws₁)) (poly v₁.p (gOf Certificate ws₂))
      same =
          unique ready₁.prime.prime (question (composed v₁ v₂)) (half_least (composed v₁ v₂) known)
          (omega (arith, known.degree, degree_half (composed v₁ v₂) known)) (poly v₁.p u.g) _ fill.meets
          (composed_meets v₁ v₂ ready₁ ready₂ meet allowed (gOf Certificate ws₁) (gOf Certificate ws₂) (certificate_meets ws₁ (passes₁ (b 0)))
          (certificate_meets ws₂ (passes₂ (b 0))))

  -- the first no is 13 or 14
  abbrev unmet_tests : ℕ → List Bool
  unmet_tests k = both_pass ∷ not (every meet_tests) ∷ eqb k 13 ∷ []

  abbrev large_tests : ℕ → List Bool
  large_tests k = both_pass ∷ every meet_tests ∷ not (every product_tests) ∷ eqb k 14 ∷ []

  meet_yes : ComposableValues v₁ v₂ → every meet_tests ≡ true
  meet_yes h = ap₂ both (eq-eqb _ _ h.p) (ap₂ both (eq-eqb _ _ h.a) (ap (λ b. both b true) (eq-eqb _ _ h.b)))

  product_yes : ProductAllowed v₁ v₂ → every product_tests ≡ true
  product_yes h = ap₂ both (le-leb _ _ h.most) (ap (λ b. both b true) (lt-ltb _ _ h.small))

  no_join : (q : Refusal) → T both_pass → FirstNo (join_asks v₁ v₂) (number q) → (before : List ℕ) → Room (length before)
      → ComposeRight ws₁ ws₂ before before (Err q)
  no_join q b h before room = (
    inr (
      room,
      no_after (check_asks ws₁) (check_asks ws₂ ++ join_asks v₁ v₂) (number q) (passes₁ b)
          (no_after (check_asks ws₂) (join_asks v₁ v₂) (number q) (passes₂ b) h),
    ),
    refl,
  )

  abbrev no_composite_test : ℕ → Bool
  no_composite_test k = one (every (unmet_tests k)) (every (large_tests k))

  no_composite_by_computing : (q : Refusal) → T (no_composite_test (number q)) → (before : List ℕ) → Room (length before)
      → ComposeRight ws₁ ws₂ before before (Err q)
  no_composite_by_computing q t before room =
      one_of (every (unmet_tests (number q))) (every (large_tests (number q)))
      (λ t.
      let b : Every (unmet_tests (number q)) = every_yes (unmet_tests (number q)) t in
      no_join q (b 0) (inl (eqb→eq (number q) 13 (b 2), λ h. subst (λ x. T (not x)) (meet_yes h) (b 1))) before room)
      (λ t.
      let b : Every (large_tests (number q)) = every_yes (large_tests (number q)) t in
      no_join q (b 0) (inr (meet_by_computing (b 1), inl (eqb→eq (number q) 14 (b 3), λ h. subst (λ x. T (not x)) (product_yes h) (b 2)))) before room)
      t

-- ── the rows

abbrev though_tests : Values → List ℕ → List ℕ → ℕ → ℕ → List Bool
though_tests v g n c k = every (refused_tests (certificate v g n c) k) ∷ ltb 0 v.p ∷ R3_test v g n ∷ []

-- a list has 2d + 2 numbers, each below p
abbrev listed_tests : Values → List ℕ → List Bool
listed_tests v xs = eqb (length xs) (2 * half v + 2) ∷ below v.p xs ∷ []

listed : (v : Values) (a : Seq (Zmod v.p)) (xs : List ℕ) → 0 < v.p → T (every (listed_tests v xs)) → poly v.p xs ≡ a → Listed v a xs
listed v a xs pos t e =
    let s : Every (listed_tests v xs) = every_yes (listed_tests v xs) t in
    (eqb→eq (length xs) (2 * half v + 2) (s 0), record { reduced = below_yes v.p pos xs (s 1); same = e })

abbrev part_tests : Values → List ℕ → List ℕ → List ℕ → List ℕ → List Bool
part_tests v g l m n =
    ltb 0 v.p ∷ every (parts_tests v g l m n) ∷ every (listed_tests v l) ∷ every (listed_tests v m) ∷ every (listed_tests v n) ∷ []

parts_hold : (v : Values) (g l m n : List ℕ) → Every (part_tests v g l m n) → Claim (parts v g l m n)
unfolding Claim
parts_hold v g l m n t =
    let pos : 0 < v.p = ltb→lt 0 v.p (t 0) in
    let same : Every (parts_tests v g l m n) = every_yes (parts_tests v g l m n) (t 1) in (
      listed v _ l pos (t 2) (linear_by_computing v g pos l (same 0)),
      listed v _ m pos (t 3) (first_by_computing v g pos m (same 1)),
      listed v _ n pos (t 4) (second_by_computing v g pos n (same 2)),
    )

-- name's 5: p passes 3, and A is not below it
abbrev unnamed_tests : ℕ → ℕ → ℕ → ℕ → List Bool
unnamed_tests p a b k = prime_test p ∷ leb 11 p ∷ ltb p (2 ^ 28) ∷ leb p a ∷ eqb k 5 ∷ []

unnamed_by_computing : (p a b k : ℕ) → Every (unnamed_tests p a b k) → FirstNo (name_asks p a b) k
unnamed_by_computing p a b k t =
    inr (
      record { prime = prime_yes p (t 0); least = leb→le 11 p (t 1); most = ltb→lt p (2 ^ 28) (t 2) },
      inl (eqb→eq k 5 (t 4), λ small. omega (arith, leb→le p a (t 3), small.0)),
    )

abbrev pub test : Row → Bool
test (solves q v g n c) = solve_test q v g n c
test (unsolved v r) = unsolved_test v (number r)
test (pushes v g n c from to) = every (push_tests (certificate v g n c) from to)
test (kernel q h v g n c) = every (codomain_tests q h v g n c)
test (no_kernel v g r) = every (no_kernel_tests v g (number r))
test (composes s t u) = every (compose_tests s t u)
test (no_composite s t r) = no_composite_test s t (number r)
test (refused v g n c r) = refused_test (certificate v g n c) (number r)
test (refused_though v g n c r) = every (though_tests v g n c (number r))
test (unnamed p a b r) = every (unnamed_tests p a b (number r))
test (parts v g l m n) = every (part_tests v g l m n)

pub row_holds : (r : Row) → T (test r) → Claim r
unfolding Claim
row_holds (solves q v g n c) t = solve_by_computing q v g n c t
row_holds (unsolved v r) t = unsolved_by_computing v r t
row_holds (pushes v g n c from to) t = push_by_computing (certificate v g n c) from to (every_yes (push_tests (certificate v g n c) from to) t)
row_holds (kernel q h v g n c) t = kernel_by_computing q h v g n c (every_yes (codomain_tests q h v g n c) t)
row_holds (no_kernel v g r) t = no_kernel_by_computing v g r (every_yes (no_kernel_tests v g (number r)) t)
row_holds (composes s u w) t = compose_by_computing s u w (every_yes (compose_tests s u w) t)
row_holds (no_composite s u r) t = no_composite_by_computing s u r t
row_holds (refused v g n c r) t = refused_holds (certificate v g n c) (number r) t
row_holds (refused_though v g n c r) t =
    let s : Every (though_tests v g n c (number r)) = every_yes (though_tests v g n c (number r)) t in (
      refused_by_computing (certificate v g n c) (number r) (every_yes (refused_tests (certificate v g n c) (number r)) (s 0)),
      R3_by_computing v g n (ltb→lt 0 v.p (s 1)) (s 2),
    )
row_holds (unnamed p a b r) t = unnamed_by_computing p a b (number r) (every_yes (unnamed_tests p a b (number r)) t)
row_holds (parts v g l m n) t = parts_hold v g l m n (every_yes (part_tests v g l m n) t)
