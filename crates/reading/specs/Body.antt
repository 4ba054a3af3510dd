-- Question 6 word by word: how many words there are, the end, and the kind and bound of each word between the header and the end.
-- Assumes nothing.
use Rattle.std.specs.Prelude.{◌≡◌, ℕ, ◌+◌, ◌-◌, ◌*◌, ◌^◌, ◌<◌, ◌≤◌, ◌↔◌, List, [], ◌∷◌, ◌++◌, map, length, drop, replicate, slice_index, slice_index_or, refl}
use Rattle.std.proofs.Common.{sym, ◌∙◌, subst, length-append, length-drop, ext_get_or, get_or-drop, get_or-append-add}
use Rattle.std.proofs.Math.Path.{ap}
use Rattle.std.proofs.Math.Decide.{dec_lt}
use native.Mathlib.Omega.{arith}
use Rattle.std.proofs.lemmas.List.{length-map}
use Rattle.std.proofs.Math.ListN.{get_or-map}
use Rattle.sheet.specs.declared.Form.{Form}
use Rattle.sheet.specs.declared.Form.TheVariants.{Question, Certificate, Kernel}
use Rattle.sheet.specs.Word.{kind_of, value_of}
use Rattle.sheet.specs.Form.{header, laid, body, kinds_of}
use Rattle.sheet.specs.Lengths.{last, certificate_words_lem, kernel_words}
use Rattle.sheet.specs.Values.{values_of, half, coefficient_in}
use Rattle.sheet.specs.Asked.{Asked6}
use Rattle.reading.specs.Leaf.{Sections}

-- ── the end is the last

laid_some : (ss : List (ℕ × ℕ)) → 1 ≤ length (laid ss)
laid_some [] = omega arith
laid_some (s ∷ ss) = omega (arith, length-append (replicate s.1 s.0) (laid ss), laid_some ss)

laid_last : (ss : List (ℕ × ℕ)) → slice_index (laid ss) (length (laid ss) - 1) ≡ 15
laid_last [] = refl
laid_last (s ∷ ss) =
    let run = replicate s.1 s.0 in
    let some = laid_some ss in
    ap (λ n. slice_index (run ++ laid ss) n) (omega (arith, length-append run (laid ss))) ∙ get_or-append-add run (laid ss) (length (laid ss) - 1) 0 ∙ laid_last ss

module _ (form : Form) (d : ℕ) where
  pub body_some : 1 ≤ length (body form d)
  body_some = go form
    where
      go : (form : Form) → 1 ≤ length (body form d)
      go Question = omega arith
      go Certificate = omega (arith, certificate_words_lem d, length-append (header Certificate) (body Certificate d))
      go Kernel = omega (arith, kernel_words d, length-append (header Kernel) (body Kernel d))

  -- a word of the body
  kind_after : (i : ℕ) → length (header form) ≤ i → slice_index (kinds_of form d) i ≡ slice_index (body form d) (i - length (header form))
  kind_after i l =
      let e : i ≡ length (header form) + (i - length (header form)) = omega arith in
      ap (λ n. slice_index (kinds_of form d) n) e ∙ get_or-append-add (header form) (body form d) (i - length (header form)) 0

  pub last_after : length (header form) ≤ last form d
  last_after = omega (arith, length-append (header form) (body form d), body_some)

  pub last_kind : slice_index_or (kinds_of form d) (last form d) 0 ≡ 15
  last_kind =
      kind_after (last form d) last_after ∙ ap (λ n. slice_index (body form d) n) (omega (arith, length-append (header form) (body form d), body_some)) ∙ end form
    where
      end : (form : Form) → slice_index (body form d) (length (body form d) - 1) ≡ 15
      end Question = laid_last []
      end Certificate = laid_last ((8, d + 1) ∷ (9, 2 * d + 2) ∷ (10, 1) ∷ [])
      end Kernel = laid_last ((8, d + 1) ∷ [])

  -- ── the kinds of the words after the header

  module _ (ws : List ℕ) where
    abbrev Kinds : Type 0
    Kinds = map kind_of (drop (length (header form)) ws) ≡ body form d

    pub kinds_length : Kinds → length ws ≡ length (kinds_of form d)
    kinds_length e =
        omega (
          arith,
          ap length e,
          length-map (drop (length (header form)) ws) kind_of,
          length-drop (length (header form)) ws,
          length-append (header form) (body form d),
          body_some,
        )

    kind_is : (j : ℕ) → slice_index (map kind_of (drop (length (header form)) ws)) j ≡ kind_of (slice_index ws (length (header form) + j))
    kind_is j = get_or-map kind_of (drop (length (header form)) ws) j 0 ∙ ap kind_of (get_or-drop (length (header form)) ws j 0)

    pub kinds_at : Kinds → (i : ℕ) → length (header form) ≤ i → kind_of (slice_index ws i) ≡ slice_index (kinds_of form d) i
    kinds_at e i l =
        let at : length (header form) + (i - length (header form)) ≡ i = omega arith in
        sym (kind_is (i - length (header form)) ∙ ap (λ n. kind_of (slice_index ws n)) at)
        ∙ ap (λ (xs : List ℕ). slice_index xs (i - length (header form))) e ∙ sym (kind_after i l)

    at_kinds : length ws ≡ length (kinds_of form d)
        → ((i : ℕ) → length (header form) ≤ i → i < length ws → kind_of (slice_index ws i) ≡ slice_index (kinds_of form d) i) → Kinds
    at_kinds count same =
        let h = length (header form) in
        let len : length (map kind_of (drop h ws)) ≡ length (body form d) =
        omega (arith, length-map (drop h ws) kind_of, length-drop h ws, count, length-append (header form) (body form d)) in
        ext_get_or 0 (map kind_of (drop h ws)) (body form d) len (λ j l.
        kind_is j ∙ same (h + j) (omega arith) (omega (arith, len, count, length-append (header form) (body form d)))
        ∙ get_or-append-add (header form) (body form d) j 0)

-- a word of kind 15 and value 0
end_word : (w : ℕ) → (w ≡ 15 * 2 ^ 28) ↔ ((kind_of w ≡ 15) × (value_of w ≡ 0))
end_word w = (λ e. (omega arith, omega arith), λ h. omega (arith, h.0, h.1))

-- ── question 6

-- it by words, for any p and d; below for those of the sheet
pub record Words6 (form : Form) (p d : ℕ) (ws : List ℕ) : Type 0 where
  pub count : length ws ≡ length (kinds_of form d)
  pub end : slice_index_or ws (last form d) 0 ≡ 15 * 2 ^ 28
  pub sections : Sections form d (length (header form)) (last form d) p ws

module _ (form : Form) (ws : List ℕ) where
  abbrev d : ℕ
  d = half (values_of form ws)

  pub asked6_words : Asked6 form ws → Words6 form (values_of form ws).p d ws
  unfolding Sections
  asked6_words a =
      let count = kinds_length form d ws a.kinds in
      let some = body_some form d in
      record {
        count = count;
        end = (end_word (slice_index ws (last form d))).1
            (kinds_at form d ws a.kinds (last form d) (last_after form d) ∙ last_kind form d, ap (λ n. value_of (slice_index ws n)) (omega arith) ∙ a.end);
        sections = λ i l m. let is = kinds_at form d ws a.kinds i l in (is, λ few. a.below i l (omega arith) (subst (λ k. k < 10) (sym is) few));
      }

  pub words_asked6 : Words6 form (values_of form ws).p d ws → Asked6 form ws
  unfolding Sections
  words_asked6 w =
      let count = w.count in
      let end = (end_word (slice_index ws (last form d))).0 w.end in
      record {
        kinds = at_kinds form d ws count (λ i l m. same end i l (dec_lt i (last form d)) (omega (arith, count)));
        below = λ i l m few. coefficient i l few (dec_lt i (last form d)) (omega (arith, count)) end;
        end = ap (λ n. value_of (slice_index ws n)) (omega (arith, count)) ∙ end.1;
      }
    where
      coefficient : (i : ℕ) → length (header form) ≤ i → kind_of (slice_index ws i) < 10 → Dec (i < last form d) → i ≤ last form d
          → (kind_of (slice_index ws (last form d)) ≡ 15) × (value_of (slice_index ws (last form d)) ≡ 0)
          → coefficient_in form (values_of form ws).p (slice_index ws i) < (values_of form ws).p
      coefficient i l few (yes m) n end =
          let word = w.sections i l m in
          word.1 (subst (λ k. k < 10) word.0 few)
      coefficient i l few (no m) n end =
          let e : i ≡ last form d = omega arith in
          absurd (omega (arith, few, end.0, ap (λ n. kind_of (slice_index ws n)) e))

      same : (kind_of (slice_index ws (last form d)) ≡ 15) × (value_of (slice_index ws (last form d)) ≡ 0) → (i : ℕ) → length (header form) ≤ i
          → Dec (i < last form d) → i ≤ last form d → kind_of (slice_index ws i) ≡ slice_index (kinds_of form d) i
      same end i l (yes m) n = (w.sections i l m).0
      same end i l (no m) n =
          let e : i ≡ last form d = omega arith in
          ap (λ n. kind_of (slice_index ws n)) e ∙ end.0 ∙ sym (ap (λ n. slice_index (kinds_of form d) n) e ∙ last_kind form d)
