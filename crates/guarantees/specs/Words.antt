-- The words of a sheet that passes questions 2 to 7 as a certificate: they are the words of the certificate of its values, its g, its N and its count
-- of rational abscissas, and each of them has 32 bits.
-- Assumes nothing.
use Rattle.std.specs.Prelude.{◌≡◌, refl, ℕ, zero, suc, ◌+◌, ◌*◌, ◌-◌, ◌^◌, ◌<◌, ◌≤◌, length, take, drop, replicate}
use Rattle.std.proofs.Math.Path.{sym, ap, ap₂}
use Rattle.std.proofs.Common.{◌∙◌, not-suc-le-zero, le_of_suc-le-suc, take-append-drop, drop_of_length-le, get_or-drop, drop-drop, drop-cons, get_or-append-add}
use mathlib.Core.List.{List, [], ◌∷◌, ◌++◌, map, append_assoc}
use native.Mathlib.Omega.{arith}
use Rattle.std.proofs.Math.Decide.{dec_lt}
use Rattle.std.proofs.Math.Dec.{ltb, ltb→lt}
use Rattle.std.proofs.Math.ListN.{get_or, length-take, get_or-map, get_or-eq_default}
use Rattle.std.proofs.lemmas.List.{length-replicate}
use Rattle.std.proofs.Math.Seq.{get_or-take}
use Rattle.slices.specs.Filling.{tab, filled_tab}
use Rattle.zmod.specs.Residues.{Reduced}
use Rattle.questions.specs.Questions.{AllYes}
use Rattle.questions.specs.Numbered.{yes_to}
use Rattle.sheet.specs.declared.Form.{Form}
use Rattle.sheet.specs.declared.Form.TheVariants.{Certificate}
use Rattle.sheet.specs.Word.{kind_of, value_of, word}
use Rattle.sheet.specs.Form.{header, body, kinds_of, certificate_words}
use Rattle.sheet.specs.Values.{values_of, half, gOf, n_of, abscissas_of}
use Rattle.sheet.specs.Asked.{Asked2, asked}
use Rattle.sheet.specs.Table.{at}
use Rattle.sheet.specs.Lengths.{last, certificate_words_lem}
use Rattle.sheet.specs.Places.{count_place}
use Rattle.reading.specs.Leaf.{Stands, Sections}
use Rattle.reading.specs.Header.{asked2_stands}
use Rattle.reading.specs.Body.{Words6, asked6_words}
use Rattle.reading.specs.Accepted.{certificate_length}
use Rattle.certificate.specs.Certificate.{certificate, header_words}

-- a word is that of its kind and value
word_back : (k w : ℕ) → kind_of w ≡ k → w ≡ word k (value_of w)
word_back k w e = omega arith

section_back : (k : ℕ) (xs : List ℕ) → ((i : ℕ) → i < length xs → kind_of (get_or xs i 0) ≡ k) → xs ≡ map (word k) (map value_of xs)
section_back k [] h = refl
section_back k (x ∷ xs) h = ap₂ ◌∷◌ (word_back k x (h 0 (omega arith))) (section_back k xs (λ i l. h (suc i) (omega arith)))

-- a run of one kind at the front of a list
run_at : (n k i : ℕ) (xs : List ℕ) → i < n → get_or (replicate n k ++ xs) i 0 ≡ k
run_at zero k i xs l = absurd (not-suc-le-zero l)
run_at (suc n) k zero xs l = refl
run_at (suc n) k (suc i) xs l = run_at n k i xs (le_of_suc-le-suc l)

run_past : (n k i : ℕ) (xs : List ℕ) → get_or (replicate n k ++ xs) (n + i) 0 ≡ get_or xs i 0
run_past n k i xs =
    ap (λ m. get_or (replicate n k ++ xs) (m + i) 0) (sym (length-replicate n k)) ∙ get_or-append-add (replicate n k) xs i 0

-- the section of g, behind the header of a form that has one
pub g_section : (form : Form) (d : ℕ) (rest : List ℕ) → body form d ≡ replicate (d + 1) 8 ++ rest → (i : ℕ) → length (header form) ≤ i
    → i < length (header form) + (d + 1) → get_or (kinds_of form d) i 0 ≡ 8
g_section form d rest is i l m =
    let h : ℕ = length (header form) in
    let e : i ≡ length (header form) + (i - length (header form)) = omega arith in
    ap (λ j. get_or (kinds_of form d) j 0) e ∙ get_or-append-add (header form) (body form d) (i - length (header form)) 0
    ∙ ap (λ (xs : List ℕ). get_or xs (i - length (header form)) 0) is ∙ run_at (d + 1) 8 (i - length (header form)) rest (omega arith)

module _ (ws : List ℕ) (all : AllYes (asked Certificate ws)) where
  abbrev d : ℕ
  d = half (values_of Certificate ws)

  words : Words6 Certificate (values_of Certificate ws).p d ws
  words = asked6_words Certificate ws (yes_to (asked Certificate ws) 6 all)

  word_count : length ws ≡ certificate_words d
  word_count = certificate_length ws all

  last_is : last Certificate d + 1 ≡ certificate_words d
  last_is = omega (arith, certificate_words_lem d)

  -- ── the header

  has_kind : (k : ℕ) → Stands Certificate k ws
  has_kind = asked2_stands Certificate ws (yes_to (asked Certificate ws) 2 all)

  header_back : take 7 ws ≡ header_words (values_of Certificate ws)
  unfolding Stands tab
  header_back =
      filled_tab (λ i. get_or ws i 0) (take 7 ws) 7 (omega (arith, length-take 7 ws, word_count)) (λ j l. get_or-take 7 ws j 0 l)
      ∙ ap₂ ◌∷◌ (word_back 1 _ (has_kind 1 refl).1)
      (ap₂ ◌∷◌ (word_back 2 _ (has_kind 2 refl).1)
      (ap₂ ◌∷◌ (word_back 3 _ (has_kind 3 refl).1)
      (ap₂ ◌∷◌ (word_back 4 _ (has_kind 4 refl).1)
      (ap₂ ◌∷◌ (word_back 5 _ (has_kind 5 refl).1)
      (ap₂ ◌∷◌ (word_back 6 _ (has_kind 6 refl).1) (ap (λ w. w ∷ []) (word_back 7 _ (has_kind 7 refl).1)))))))

  -- ── the coefficients

  part_back : (k from count : ℕ) → ((i : ℕ) → from ≤ i → i < from + count → kind_of (get_or ws i 0) ≡ k)
      → take count (drop from ws) ≡ map (word k) (map value_of (take count (drop from ws)))
  part_back k from count h =
      section_back k (take count (drop from ws)) λ i l.
      let inside : i < count = omega (arith, length-take count (drop from ws)) in
      ap kind_of (get_or-take count (drop from ws) i 0 inside ∙ get_or-drop from ws i 0) ∙ h (from + i) (omega arith) (omega arith)

  -- the kinds of the two sections
  g_kind : (i : ℕ) → 7 ≤ i → i < 7 + (d + 1) → get_or (kinds_of Certificate d) i 0 ≡ 8
  g_kind = g_section Certificate d (replicate (2 * d + 2) 9 ++ 10 ∷ 15 ∷ []) refl

  n_kind : (i : ℕ) → 7 + (d + 1) ≤ i → i < 7 + (d + 1) + (2 * d + 2) → get_or (kinds_of Certificate d) i 0 ≡ 9
  n_kind i l m =
      let j : ℕ = i - (7 + (d + 1)) in
      let e : i ≡ 7 + (d + 1 + (i - (7 + (d + 1)))) = omega arith in
      ap (λ j. get_or (kinds_of Certificate d) j 0) e ∙ get_or-append-add (header Certificate) (body Certificate d) (d + 1 + (i - (7 + (d + 1)))) 0
      ∙ run_past (d + 1) 8 (i - (7 + (d + 1))) (replicate (2 * d + 2) 9 ++ 10 ∷ 15 ∷ [])
      ∙ run_at (2 * d + 2) 9 (i - (7 + (d + 1))) (10 ∷ 15 ∷ []) (omega arith)

  kind_is : (i : ℕ) → 7 ≤ i → i + 1 < certificate_words d → kind_of (get_or ws i 0) ≡ get_or (kinds_of Certificate d) i 0
  unfolding Sections
  kind_is i l m = (words.sections i l (omega (arith, last_is))).0

  g_words : take (d + 1) (drop 7 ws) ≡ map (word 8) (gOf Certificate ws)
  g_words = part_back 8 7 (d + 1) λ i l m. kind_is i l (omega arith) ∙ g_kind i l m

  n_words : take (2 * d + 2) (drop (7 + (d + 1)) ws) ≡ map (word 9) (n_of Certificate ws)
  n_words = part_back 9 (7 + (d + 1)) (2 * d + 2) λ i l m. kind_is i (omega arith) (omega arith) ∙ n_kind i l m

  -- ── the count, the end, and all of them

  abbrev after_n : ℕ
  after_n = 7 + (d + 1) + (2 * d + 2)

  count_kind : get_or (kinds_of Certificate d) after_n 0 ≡ 10
  count_kind =
      let e : after_n ≡ 7 + (d + 1 + (2 * d + 2 + 0)) = omega arith in
      ap (λ j. get_or (kinds_of Certificate d) j 0) e
      ∙ get_or-append-add (header Certificate) (body Certificate d) (d + 1 + (2 * d + 2 + 0)) 0
      ∙ run_past (d + 1) 8 (2 * d + 2 + 0) (replicate (2 * d + 2) 9 ++ 10 ∷ 15 ∷ []) ∙ run_past (2 * d + 2) 9 0 (10 ∷ 15 ∷ [])

  count_word : get_or ws after_n 0 ≡ word 10 (abscissas_of ws)
  count_word =
      word_back 10 (get_or ws after_n 0) (kind_is after_n (omega arith) (omega arith) ∙ count_kind)
      ∙ ap (λ j. word 10 (value_of (get_or ws j 0))) (omega (arith, count_place d 0))

  end_word : get_or ws (suc after_n) 0 ≡ word 15 0
  end_word = ap (λ j. get_or ws j 0) (omega (arith, last_is)) ∙ words.end

  tail_back : drop after_n ws ≡ word 10 (abscissas_of ws) ∷ word 15 0 ∷ []
  tail_back =
      drop-cons ws after_n 0 (omega (arith, word_count))
      ∙ ap₂ ◌∷◌ count_word
      (drop-cons ws (suc after_n) 0 (omega (arith, word_count))
      ∙ ap₂ ◌∷◌ end_word (drop_of_length-le ws {i = suc (suc after_n)} (omega (arith, word_count))))

  rest_back : drop 7 ws ≡ map (word 8) (gOf Certificate ws) ++ map (word 9) (n_of Certificate ws) ++ word 10 (abscissas_of ws) ∷ word 15 0 ∷ []
  rest_back =
      sym (take-append-drop (d + 1) (drop 7 ws))
      ∙ ap₂ ◌++◌ g_words
      (drop-drop (d + 1) 7 ws ∙ sym (take-append-drop (2 * d + 2) (drop (7 + (d + 1)) ws))
      ∙ ap₂ ◌++◌ n_words (drop-drop (2 * d + 2) (7 + (d + 1)) ws ∙ tail_back))
      ∙ sym (append_assoc (map (word 8) (gOf Certificate ws)) (map (word 9) (n_of Certificate ws)) (word 10 (abscissas_of ws) ∷ word 15 0 ∷ []))

  pub certificate_back : ws ≡ certificate (values_of Certificate ws) (gOf Certificate ws) (n_of Certificate ws) (abscissas_of ws)
  certificate_back = sym (take-append-drop 7 ws) ∙ ap₂ ◌++◌ header_back rest_back

  -- ── 32 bits

  kind_small : (i : ℕ) → kind_of (get_or ws i 0) < 16
  unfolding Asked2
  kind_small i = go (dec_lt i 7) (dec_lt i (7 + (d + 1))) (dec_lt i after_n) (dec_lt i (suc after_n)) (dec_lt i (length ws))
    where
      in_header : (i : ℕ) → i < 7 → kind_of (get_or ws i 0) < 16
      in_header i l =
          let e : kind_of (get_or ws i 0) ≡ get_or (header Certificate) i 0 =
          ap kind_of (sym (get_or-take 7 ws i 0 l)) ∙ sym (get_or-map kind_of (take 7 ws) i 0)
          ∙ ap (λ (ks : List ℕ). get_or ks i 0) (yes_to (asked Certificate ws) 2 all) in
          let small : get_or (header Certificate) i 0 < 16 = ltb→lt _ _ (at (λ i. ltb (get_or (header Certificate) i 0) 16) 7 tt i l) in
          omega arith

      go : Dec (i < 7) → Dec (i < 7 + (d + 1)) → Dec (i < after_n) → Dec (i < suc after_n) → Dec (i < length ws) → kind_of (get_or ws i 0) < 16
      go (yes l) _ _ _ _ = in_header i l
      go (no l) (yes m) _ _ _ = omega (arith, kind_is i (omega arith) (omega arith), g_kind i (omega arith) m)
      go (no l) (no m) (yes k) _ _ = omega (arith, kind_is i (omega arith) (omega arith), n_kind i (omega arith) k)
      go (no l) (no m) (no k) (yes h) _ =
          let at_count : i ≡ after_n = omega arith in
          omega (arith, kind_is i (omega arith) (omega arith), ap (λ j. get_or (kinds_of Certificate d) j 0) at_count, count_kind)
      go (no l) (no m) (no k) (no h) (yes j) =
          let e : get_or ws i 0 ≡ 15 * 2 ^ 28 = ap (λ j. get_or ws j 0) (omega (arith, word_count)) ∙ end_word in
          omega arith
      go (no l) (no m) (no k) (no h) (no j) =
          let e : get_or ws i 0 ≡ 0 = get_or-eq_default ws 0 (omega arith) in
          omega arith

  pub words_small : Reduced (2 ^ 32) ws
  words_small i = omega (arith, kind_small i)
