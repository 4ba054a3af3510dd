-- The three ways to a certificate agree: from a certificate that passes, solve on its question sheet and kernel on its kernel sheet write that same
-- certificate, word for word; and no other certificate with its values passes.
-- Assumes nothing.
use Rattle.std.specs.Prelude.{◌≡◌, length, Result, Ok}
use Rattle.std.proofs.Math.Path.{refl, sym, ap, subst}
use Rattle.std.proofs.Common.{◌∙◌, ap₂, arith, length-append, length-take, length-drop, drop_of_length-le, get_or-take, get_or-drop, take_at}
use Rattle.std.proofs.lemmas.Bool.{false≢true}
use mathlib.Core.List.{List, [], ◌∷◌, ◌++◌, map, append-nil}
use Prim.Native.Nat.{ℕ, ◌+◌, ◌-◌, ◌<◌, ◌≤◌}
use Rattle.std.proofs.Math.ListN.{get_or, take, drop, get_or-append}
use Rattle.std.proofs.lemmas.List.{get_or_at}
use Rattle.series.specs.Series.{Seq}
use Rattle.zmod.specs.Zmod.{Elt, Zmod, mk}
use Rattle.zmod.specs.Prime.{prime_pos}
use Rattle.zmod.specs.Residues.{poly}
use Rattle.isogeny.specs.Rules as Rules
use Rattle.isogeny.specs.Rules.{N, R3, Meets}
use Rattle.questions.specs.Questions.{AllYes}
use Rattle.questions.specs.Joined.{all_all}
use Rattle.questions.specs.Numbered.{yes_to}
use Rattle.sheet.specs.declared.Form.TheVariants.{Question, Certificate, Kernel}
use Rattle.sheet.specs.declared.Values.{Values}
use Rattle.sheet.specs.Word.{kind_of, value_of, word}
use Rattle.sheet.specs.Form.{kinds_of, value_in}
use Rattle.sheet.specs.Values.{values_of, half, question, coefficient_in, gOf, n_of, abscissas_of}
use Rattle.sheet.specs.Asked.{Asked2, Asked6, ValuesBelow, Curves, asked}
use Rattle.sheet.specs.Fields.{same}
use Rattle.sheet.specs.Reduction.{kernel_modulo, value_below, value_reduced, coefficients_below, five_always}
use Rattle.sheet.specs.Ready.{Ready, ready}
use Rattle.sheet.specs.Lengths.{last, kernel_words, certificate_words_lem}
use Rattle.reading.specs.Leaf.{Sections}
use Rattle.reading.specs.Body.{Words6, asked6_words, words_asked6}
use Rattle.reading.specs.Accepted.{certificate_length, certificate_g, certificate_n}
use Rattle.certificate.specs.Certificate.{certificate, header_words}
use Rattle.questions.specs.declared.refusal.Refusal.{Refusal}
use Rattle.promises.specs.Asked.{Room, Solvable, Passing, last_ask, check_asks}
use Rattle.promises.specs.Answer.{CertificateIn, with, SolveRight, KernelRight}
use Rattle.guarantees.specs.Solve.{solve_unique}
use Rattle.guarantees.specs.Kernel.{kernel_unique}
use Rattle.promises.specs.Certificates.{check_asked, certificate_N, certificate_meets}
use Rattle.guarantees.proofs.Abscissas.{certificate_abscissas}
use Rattle.guarantees.specs.Words.{certificate_back, g_section}
use Rattle.guarantees.specs.Certified.{one_certificate}
use Rattle.guarantees.specs.Again.{question_of, kernel_of}

-- the word of a question sheet behind the first seven is no coefficient
end_only : (hs : List ℕ) (i : ℕ) → length hs ≡ 7 → 7 ≤ i → i < length (hs ++ word 15 0 ∷ []) → kind_of (get_or (hs ++ word 15 0 ∷ []) i 0) < 10 → ⊥
end_only hs i seven l m few =
    omega (arith, ap kind_of (get_or_at hs (word 15 0) [] 0 i (omega (arith, length-append hs (word 15 0 ∷ [])))), few)

-- ── solve, on a sheet that puts the same values

module _ (ws : List ℕ) (passes : AllYes (check_asks ws)) where
  abbrev v : Values
  v = values_of Certificate ws

  accepted : AllYes (asked Certificate ws)
  accepted = check_asked ws passes

  known : Ready v
  known = ready Certificate ws accepted

  curves : Curves Certificate v
  curves = yes_to (asked Certificate ws) 7 accepted

  back : ws ≡ certificate v (gOf Certificate ws) (n_of Certificate ws) (abscissas_of ws)
  back = certificate_back ws accepted

  -- what holds of the certificate with these values, g, N and count holds of these words
  at_words : (P : List ℕ → Type 0) → P (certificate v (gOf Certificate ws) (n_of Certificate ws) (abscissas_of ws)) → P ws
  at_words P = subst P (sym back)

  -- the buffer, with the certificate in it
  held : (before : List ℕ) → CertificateIn v before (ws ++ drop (length ws) before) (length ws)
  held before = record {
    g = gOf Certificate ws;
    n = n_of Certificate ws;
    g_words = certificate_g ws accepted;
    n_words = certificate_n ws accepted;
    meets = certificate_meets ws passes;
    n_is = certificate_N ws passes;
    count_is = certificate_length ws accepted;
    words =
        ap (λ (us : List ℕ). us ++ drop (length ws) before) back
        ∙ ap (λ c. certificate v (gOf Certificate ws) (n_of Certificate ws) c ++ drop (length ws) before) (certificate_abscissas ws passes);
  }

  -- ── solve

  question_values : v ≡ values_of Question (question_of ws)
  question_values =
      at_words (λ us. ValuesBelow (values_of Certificate us) → values_of Certificate us ≡ values_of Question (question_of us))
      (λ b. same refl (stands b.a) (stands b.b) (stands b.atilde) (stands b.btilde) refl (stands b.sigma)) known.below
    where
      stands : {p x : ℕ} → x < p → x ≡ value_in Question p x
      stands l = sym (value_below Question l)

  question_headed : Asked2 Question (question_of ws)
  unfolding Asked2
  question_headed = at_words (λ us. Asked2 Certificate us → Asked2 Question (question_of us)) (λ h. h) (yes_to (asked Certificate ws) 2 accepted)

  question_exact : Asked6 Question (question_of ws)
  question_exact =
      at_words (λ us. Asked6 Question (question_of us))
      (record { kinds = refl; below = λ i l m few. absurd (end_only (header_words v) i refl l m few); end = refl })

  question_asked : AllYes (asked Question (question_of ws))
  question_asked =
      let there : Ready (values_of Question (question_of ws)) = subst Ready question_values known in (
        question_headed,
        (
          there.prime,
          (
            there.degree,
            (
              there.below,
              (
                question_exact,
                (subst (Curves Question) question_values (record { domain = curves.domain; codomain = curves.codomain }), tt),
              ),
            ),
          ),
        ),
      )

  -- That certificate, with the count of its words and what stood behind it in the buffer, is a right answer of solve to its question,
  pub solve_right : (before : List ℕ) → Room (length before) → SolveRight (question_of ws) before (ws ++ drop (length ws) before) (Ok (length ws))
  solve_right before room =
      let solvable : Solvable v = record { g = poly v.p (gOf Certificate ws); meets = certificate_meets ws passes } in (
        (
          room,
          all_all (asked Question (question_of ws)) ((11, Solvable (values_of Question (question_of ws))) ∷ []) question_asked
              (subst Solvable question_values solvable, tt),
        ),
        subst (λ v. CertificateIn v before (ws ++ drop (length ws) before) (length ws)) question_values (held before),
      )

  -- so solve, asked the question of a certificate that passes, answers with it: the count of its words, its words, and then what stood there before.
  pub solve_again : (before after : List ℕ) (r : Result ℕ Refusal) → Room (length before) → SolveRight (question_of ws) before after r
      → (r ≡ Ok (length ws)) × (after ≡ ws ++ drop (length ws) before)
  solve_again before after r room h = solve_unique (question_of ws) before after _ r (Ok (length ws)) h (solve_right before room)

  -- ── kernel

  abbrev us : List ℕ
  us = kernel_of ws

  abbrev d : ℕ
  d = half (values_of Certificate ws)

  -- the values of the kernel sheet, with the certificate's codomain and σ
  abbrev completed : Values
  completed = with (values_of Kernel us) v.atilde v.btilde v.sigma

  same_values : v ≡ completed
  same_values =
      at_words (λ ws.
      let v : Values = values_of Certificate ws in
      ValuesBelow v → v ≡ with (values_of Kernel (kernel_of ws)) v.atilde v.btilde v.sigma)
      (λ b. same refl (sym (value_below Kernel b.a)) (sym (value_below Kernel b.b)) refl refl refl refl) known.below

  same_half : half (values_of Kernel us) ≡ d
  same_half = sym (ap half same_values)

  -- the coefficients of g stand three places further on in the certificate
  coefficients : drop 4 us ≡ take (d + 1) (drop 7 ws) ++ word 15 0 ∷ []
  coefficients = at_words (λ ws. drop 4 (kernel_of ws) ≡ take (half (values_of Certificate ws) + 1) (drop 7 ws) ++ word 15 0 ∷ []) refl

  coefficient_count : length (take (d + 1) (drop 7 ws)) ≡ d + 1
  coefficient_count = omega (arith, length-take (d + 1) (drop 7 ws), length-drop 7 ws, certificate_length ws accepted)

  kernel_count : length us ≡ d + 6
  kernel_count = omega (arith, length-drop 4 us, ap length coefficients, length-append (take (d + 1) (drop 7 ws)) (word 15 0 ∷ []), coefficient_count)

  kernel_word : (i : ℕ) → 4 ≤ i → i < 4 + (d + 1) → get_or us i 0 ≡ get_or ws (i + 3) 0
  kernel_word i l m =
      let x : List ℕ = take (d + 1) (drop 7 ws) in
      ap (λ j. get_or us j 0) (omega arith) ∙ sym (get_or-drop 4 us (i - 4) 0) ∙ ap (λ (xs : List ℕ). get_or xs (i - 4) 0) coefficients
      ∙ get_or-append x (word 15 0 ∷ []) 0 (i - 4) (omega (arith, coefficient_count))
      ∙ get_or-take (d + 1) (drop 7 ws) (i - 4) 0 (omega arith) ∙ get_or-drop 7 ws (i - 4) 0 ∙ ap (λ j. get_or ws j 0) (omega arith)

  kernel_end : get_or us (4 + (d + 1)) 0 ≡ word 15 0
  kernel_end =
      sym (get_or-drop 4 us (d + 1) 0) ∙ ap (λ (xs : List ℕ). get_or xs (d + 1) 0) coefficients
      ∙ get_or_at (take (d + 1) (drop 7 ws)) (word 15 0) [] 0 (d + 1) coefficient_count

  same_g : gOf Kernel us ≡ gOf Certificate ws
  same_g =
      let over : (values_of Kernel us).p ≡ v.p = sym (ap (λ (v : Values). v.p) same_values) in
      ap₂ (λ n (xs : List ℕ). map (coefficient_in Kernel (values_of Kernel us).p) (take (n + 1) xs)) same_half coefficients
      ∙ ap₂ (λ q (xs : List ℕ). map (coefficient_in Kernel q) xs) over (take_at (take (d + 1) (drop 7 ws)) (word 15 0 ∷ []) (d + 1) coefficient_count)
      ∙ coefficients_below Kernel v.p (take (d + 1) (drop 7 ws)) (certificate_g ws accepted).reduced

  kernel_headed : Asked2 Kernel us
  unfolding Asked2
  kernel_headed =
      at_words (λ ws. Asked2 Certificate ws → Asked2 Kernel (kernel_of ws)) (λ h. ap (λ (ks : List ℕ). take 3 ks ++ take 1 (drop 5 ks)) h)
      (yes_to (asked Certificate ws) 2 accepted)

  completed_ready : Ready completed
  completed_ready = subst Ready same_values known

  completed_curves : Curves Certificate completed
  completed_curves = subst (Curves Certificate) same_values curves

  kernel_last : last Kernel (half (values_of Kernel us)) ≡ d + 5
  kernel_last = omega (arith, kernel_words (half (values_of Kernel us)), same_half)

  -- the words of g are of kind 8 on both sheets
  kernel_kind : (i : ℕ) → 4 ≤ i → i < d + 5 → get_or (kinds_of Kernel (half (values_of Kernel us))) i 0 ≡ 8
  kernel_kind i l m = g_section Kernel (half (values_of Kernel us)) (15 ∷ []) refl i l (omega (arith, same_half))

  kernel_positive : 0 < (values_of Kernel us).p
  kernel_positive = prime_pos completed_ready.prime.prime

  kernel_exact : Asked6 Kernel us
  unfolding Sections
  kernel_exact =
      let words : Words6 Certificate v.p d ws = asked6_words Certificate ws (yes_to (asked Certificate ws) 6 accepted) in
      words_asked6 Kernel us (record {
        count = kernel_count ∙ omega (arith, kernel_words (half (values_of Kernel us)), same_half);
        end = ap (λ i. get_or us i 0) (omega (arith, kernel_last)) ∙ kernel_end;
        sections = λ i l m.
            let e : get_or us i 0 ≡ get_or ws (i + 3) 0 = kernel_word i l (omega (arith, kernel_last)) in
            let both = words.sections (i + 3) (omega arith) (omega (arith, kernel_last, certificate_words_lem d)) in
            let eight = g_section Certificate d _ refl (i + 3) (omega arith) (omega (arith, kernel_last)) in (
              ap kind_of e ∙ both.0 ∙ eight ∙ sym (kernel_kind i l (omega (arith, kernel_last))),
              λ _. value_reduced Kernel kernel_modulo kernel_positive (value_of (get_or us i 0)),
            );
      })

  kernel_asked : AllYes (asked Kernel us)
  kernel_asked = (
    kernel_headed,
    (
      completed_ready.prime,
      (
        completed_ready.degree,
        (
          five_always Kernel kernel_modulo us kernel_positive,
          (kernel_exact, (record { domain = completed_curves.domain; codomain = λ t. absurd (false≢true t) }, tt)),
        ),
      ),
    ),
  )

  -- the sheet's question with any σ: the number on the certificate, and R1's
  abbrev with_sigma : Elt completed.p → Rules.Question (Zmod completed.p)
  with_sigma σ = record {
    A = mk completed.p completed.a;
    B = mk completed.p completed.b;
    Ã = mk completed.p completed.atilde;
    B̃ = mk completed.p completed.btilde;
    d = half completed;
    σ = σ;
  }

  abbrev G : Seq (Zmod completed.p)
  G = poly completed.p (gOf Kernel us)

  kernel_meets : Meets (Zmod completed.p) (question completed) G
  kernel_meets =
      subst (λ (γ : List ℕ). Meets (Zmod completed.p) (question completed) (poly completed.p γ)) (sym same_g)
      (subst (λ v. Meets (Zmod v.p) (question v) (poly v.p (gOf Certificate ws))) same_values (certificate_meets ws passes))

  kernel_passing : Passing (values_of Kernel us) (gOf Kernel us)
  kernel_passing = record {
    Ã = mk completed.p v.atilde;
    B̃ = mk completed.p v.btilde;
    passes = (
      completed_curves.codomain refl,
      subst (λ σ. R3 (Zmod completed.p) (with_sigma σ) G (N (Zmod completed.p) (with_sigma σ) G)) kernel_meets.r1.sigma kernel_meets.r3,
    );
  }

  -- The certificate is a right answer of kernel to its kernel sheet,
  pub kernel_right : (before : List ℕ) → Room (length before) → KernelRight us before (ws ++ drop (length ws) before) (Ok (length ws))
  unfolding held
  kernel_right before room =
      let after : List ℕ = ws ++ drop (length ws) before in
      let with_g : (f : CertificateIn completed before after (length ws)) × (f.g ≡ gOf Kernel us) =
      subst (λ v. (f : CertificateIn v before after (length ws)) × (f.g ≡ gOf Kernel us)) same_values (held before, sym same_g) in (
        (
          room,
          all_all (asked Kernel us) (last_ask (values_of Kernel us) (gOf Kernel us)) kernel_asked (kernel_meets.r1.leading, (kernel_passing, tt)),
        ),
        record {
          ã = v.atilde;
          b̃ = v.btilde;
          σ = v.sigma;
          ã-below = completed_ready.below.atilde;
          b̃-below = completed_ready.below.btilde;
          σ_below = completed_ready.below.sigma;
          nonsingular = completed_curves.codomain refl;
          certificate = with_g.0;
          same_g = with_g.1;
        },
      )

  -- so kernel, given the domain, the degree and the g of a certificate that passes, answers with it, codomain included.
  pub kernel_again : (before after : List ℕ) (r : Result ℕ Refusal) → Room (length before) → KernelRight (kernel_of ws) before after r
      → (r ≡ Ok (length ws)) × (after ≡ ws ++ drop (length ws) before)
  kernel_again before after r room h = kernel_unique (kernel_of ws) before after _ r (Ok (length ws)) h (kernel_right before room)

-- ── one certificate

-- Two certificates that pass, with the same p, curves, ℓ and σ on them, are the same words.
pub same_certificate : (ws us : List ℕ) → AllYes (check_asks ws) → AllYes (check_asks us) → values_of Certificate ws ≡ values_of Certificate us → ws ≡ us
same_certificate ws us passes passes' e = sym (alone ws) ∙ one.1 ∙ alone us
  where
    -- in an empty buffer there is nothing behind it
    alone : (xs : List ℕ) → xs ++ drop (length xs) [] ≡ xs
    alone xs = ap (λ (ys : List ℕ). xs ++ ys) (drop_of_length-le [] {i = length xs} (omega arith)) ∙ append-nil xs

    one : (length ws ≡ length us) × (ws ++ drop (length ws) [] ≡ us ++ drop (length us) [])
    one =
        one_certificate (values_of Certificate us) (known us passes') [] (ws ++ drop (length ws) []) (us ++ drop (length us) []) (length ws) (length us)
        (subst (λ v. CertificateIn v [] (ws ++ drop (length ws) []) (length ws)) e (held ws passes [])) (held us passes' [])
