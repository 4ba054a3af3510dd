-- Reading back the words of a certificate gives what was written, and the words pass questions 2 to 7.
-- Assumes nothing.
use Rattle.std.specs.Prelude.{◌≡◌, refl, ℕ, zero, suc, ◌+◌, ◌*◌, ◌-◌, ◌^◌, ◌<◌, ◌≤◌, length, get_or, take, drop, replicate}
use Rattle.std.proofs.Common.{sym, ◌∙◌, ap, subst, arith, length-append, get_or-drop, take_at, drop_at, drop-drop, get_or-append-add}
use Rattle.std.proofs.Math.Path.{ap₂}
use mathlib.Core.List.{List, [], ◌∷◌, ◌++◌, map, append_assoc}
use Rattle.std.proofs.Math.Decide.{dec_lt}
use Rattle.std.proofs.lemmas.List.{length-map, get_or_at}
use Rattle.std.proofs.Math.ListN.{get_or-map, get_or-append}
use Rattle.zmod.specs.Residues.{Reduced}
use Rattle.sheet.specs.declared.Form.TheVariants.{Certificate}
use Rattle.sheet.specs.declared.Values.{Values}
use Rattle.sheet.specs.Word.{kind_of, value_of, word}
use Rattle.sheet.specs.Form.{certificate_words}
use Rattle.sheet.specs.Place.{place_of}
use Rattle.sheet.specs.Places.{count_place}
use Rattle.sheet.specs.Values.{values_of, half, gOf, n_of, abscissas_of}
use Rattle.sheet.specs.Fields.{same}
use Rattle.sheet.specs.Asked.{Asked2, Asked6, Curves, asked}
use Rattle.sheet.specs.Ready.{Ready, HoldsG, HoldsN}
use Rattle.questions.specs.Questions.{AllYes}
use Rattle.certificate.specs.Certificate.{certificate, Stored}
use Rattle.certificate.specs.Fits.{ValuesFit, values_fit, g_fit, n_fit}

-- ── one word

pub kind_word : (k x : ℕ) → x < 2 ^ 28 → kind_of (word k x) ≡ k
kind_word k x h = omega arith

pub value_word : (k x : ℕ) → x < 2 ^ 28 → value_of (word k x) ≡ x
value_word k x h = omega arith

-- ── a section

tail_fits : {p : ℕ} (x : ℕ) (xs : List ℕ) → Reduced p (x ∷ xs) → Reduced p xs
tail_fits x xs h i = h (suc i)

kinds_section : (k : ℕ) (xs : List ℕ) → Reduced (2 ^ 28) xs → map kind_of (map (word k) xs) ≡ replicate (length xs) k
kinds_section k [] h = refl
kinds_section k (x ∷ xs) h = ap₂ ◌∷◌ (kind_word k x (h 0)) (kinds_section k xs (tail_fits x xs h))

values_section : (k : ℕ) (xs : List ℕ) → Reduced (2 ^ 28) xs → map value_of (map (word k) xs) ≡ xs
values_section k [] h = refl
values_section k (x ∷ xs) h = ap₂ ◌∷◌ (value_word k x (h 0)) (values_section k xs (tail_fits x xs h))

map-append : (f : ℕ → ℕ) (xs ys : List ℕ) → map f (xs ++ ys) ≡ map f xs ++ map f ys
map-append f [] ys = refl
map-append f (x ∷ xs) ys = ap (λ (r : List ℕ). f x ∷ r) (map-append f xs ys)

reduced_append : {p : ℕ} (xs ys : List ℕ) → Reduced p xs → Reduced p ys → Reduced p (xs ++ ys)
reduced_append [] ys h k i = k i
reduced_append (x ∷ xs) ys h k zero = h 0
reduced_append (x ∷ xs) ys h k (suc i) = reduced_append xs ys (tail_fits x xs h) k i

module _ (v : Values) (ready : Ready v) (g n : List ℕ) (c : ℕ) where
  fit : ValuesFit v
  fit = values_fit v ready

  abbrev ws : List ℕ
  ws = certificate v g n c

  pub values_back : values_of Certificate ws ≡ v
  values_back =
      same (value_word 1 v.p fit.p) (value_word 2 v.a fit.a) (value_word 3 v.b fit.b) (value_word 4 v.atilde fit.atilde)
      (value_word 5 v.btilde fit.btilde) (value_word 6 v.degree fit.degree) (value_word 7 v.sigma fit.sigma)

  abbrev d : ℕ
  d = half (values_of Certificate ws)

  half_back : d ≡ half v
  half_back = ap half values_back

  asked2_back : Asked2 Certificate ws
  unfolding Asked2
  asked2_back =
      ap₂ ◌∷◌ (kind_word 1 v.p fit.p)
      (ap₂ ◌∷◌ (kind_word 2 v.a fit.a)
      (ap₂ ◌∷◌ (kind_word 3 v.b fit.b)
      (ap₂ ◌∷◌ (kind_word 4 v.atilde fit.atilde)
      (ap₂ ◌∷◌ (kind_word 5 v.btilde fit.btilde)
      (ap₂ ◌∷◌ (kind_word 6 v.degree fit.degree) (ap (λ k. k ∷ []) (kind_word 7 v.sigma fit.sigma)))))))

  -- the count and the end, and all words after the header
  abbrev tail : List ℕ
  tail = word 10 c ∷ word 15 0 ∷ []

  abbrev rest : List ℕ
  rest = map (word 8) g ++ map (word 9) n ++ tail

  module _ (g_holds : HoldsG v g) (n_holds : HoldsN v n) (c_fits : c < 2 ^ 28) where
    g_words : length (map (word 8) g) ≡ d + 1
    g_words = length-map g (word 8) ∙ g_holds.count ∙ ap (λ d. d + 1) (sym half_back)

    n_words : length (map (word 9) n) ≡ 2 * d + 2
    n_words = length-map n (word 9) ∙ n_holds.count ∙ ap (λ d. 2 * d + 2) (sym half_back)

    pub g_back : gOf Certificate ws ≡ g
    g_back =
        ap (λ (l : List ℕ). map value_of (take (d + 1) l)) (append_assoc (map (word 8) g) (map (word 9) n) tail)
        ∙ ap (map value_of) (take_at (map (word 8) g) (map (word 9) n ++ tail) (d + 1) g_words)
        ∙ values_section 8 g (g_fit v ready g g_holds)

    pub n_back : n_of Certificate ws ≡ n
    n_back =
        ap (λ (l : List ℕ). map value_of (take (2 * d + 2) l))
        (sym (drop-drop (d + 1) 7 ws)
        ∙ ap (drop (d + 1)) (append_assoc (map (word 8) g) (map (word 9) n) tail)
        ∙ drop_at (map (word 8) g) (map (word 9) n ++ tail) (d + 1) g_words)
        ∙ ap (map value_of) (take_at (map (word 9) n) tail (2 * d + 2) n_words)
        ∙ values_section 9 n (n_fit v ready n n_holds)

    kinds_rest : map kind_of rest ≡ replicate (d + 1) 8 ++ (replicate (2 * d + 2) 9 ++ 10 ∷ 15 ∷ [])
    kinds_rest =
        map-append kind_of (map (word 8) g ++ map (word 9) n) tail
        ∙ ap (λ k. map kind_of (map (word 8) g ++ map (word 9) n) ++ k ∷ 15 ∷ []) (kind_word 10 c c_fits)
        ∙ ap (λ (l : List ℕ). l ++ 10 ∷ 15 ∷ []) (map-append kind_of (map (word 8) g) (map (word 9) n))
        ∙ ap₂ (λ (a b : List ℕ). a ++ b ++ 10 ∷ 15 ∷ [])
        (kinds_section 8 g (g_fit v ready g g_holds) ∙ ap (λ k. replicate k 8) (sym (length-map g (word 8)) ∙ g_words))
        (kinds_section 9 n (n_fit v ready n n_holds) ∙ ap (λ k. replicate k 9) (sym (length-map n (word 9)) ∙ n_words))
        ∙ append_assoc (replicate (d + 1) 8) (replicate (2 * d + 2) 9) (10 ∷ 15 ∷ [])

    values_rest : map value_of rest ≡ g ++ n ++ c ∷ 0 ∷ []
    values_rest =
        map-append value_of (map (word 8) g ++ map (word 9) n) tail
        ∙ ap (λ x. map value_of (map (word 8) g ++ map (word 9) n) ++ x ∷ 0 ∷ []) (value_word 10 c c_fits)
        ∙ ap (λ (l : List ℕ). l ++ c ∷ 0 ∷ []) (map-append value_of (map (word 8) g) (map (word 9) n))
        ∙ ap₂ (λ (a b : List ℕ). a ++ b ++ c ∷ 0 ∷ []) (values_section 8 g (g_fit v ready g g_holds)) (values_section 9 n (n_fit v ready n n_holds))

    rest_length : length rest ≡ length (g ++ n) + 2
    rest_length = sym (length-map rest value_of) ∙ ap length values_rest ∙ length-append (g ++ n) (c ∷ 0 ∷ [])

    -- the value of a word after the header
    value_at_is : (i : ℕ) → 7 ≤ i → value_of (get_or ws i 0) ≡ get_or (g ++ n ++ c ∷ 0 ∷ []) (i - 7) 0
    value_at_is i l =
        let e : 7 + (i - 7) ≡ i = omega arith in
        ap (λ j. value_of (get_or ws j 0)) (sym e) ∙ ap value_of (sym (get_or-drop 7 ws (i - 7) 0)) ∙ sym (get_or-map value_of rest (i - 7) 0)
        ∙ ap (λ (l : List ℕ). get_or l (i - 7) 0) values_rest

    len : length ws ≡ 7 + length rest
    len = omega arith

    coefficients : length (g ++ n) + 9 ≡ certificate_words (half v)
    coefficients = omega (arith, length-append g n, g_holds.count, n_holds.count)

    pub count_back : length ws ≡ certificate_words (half v)
    count_back = omega (arith, len, rest_length, coefficients)

    -- the count stands behind the coefficients
    pub abscissas_back : abscissas_of ws ≡ c
    abscissas_back =
        let at = place_of Certificate 10 d 0 in
        let e : at ≡ 7 + length (g ++ n) = omega (arith, count_place d 0, ap certificate_words half_back, coefficients) in
        value_at_is at (omega (arith, e)) ∙ get_or_at (g ++ n) c (0 ∷ []) 0 (at - 7) (omega (arith, e))

    -- a word that is no coefficient has another kind
    other_kind : (i : ℕ) → 7 ≤ i → length (g ++ n) ≤ i - 7 → i < length ws → 10 ≤ kind_of (get_or ws i 0)
    other_kind i l m inside =
        let sections = map (word 8) g ++ map (word 9) n in
        let long : length sections ≡ length (g ++ n) =
        omega (arith, length-append (map (word 8) g) (map (word 9) n), length-map g (word 8), length-map n (word 9), length-append g n) in
        let j = i - 7 - length (g ++ n) in
        let e : i ≡ 7 + (length sections + j) = omega (arith, long) in
        let is : get_or ws i 0 ≡ get_or tail j 0 =
        ap (λ k. get_or ws k 0) e ∙ sym (get_or-drop 7 ws (length sections + j) 0) ∙ get_or-append-add sections tail j 0 in
        subst (λ w. 10 ≤ kind_of w) (sym is) (tail_kind j (omega (arith, len, rest_length)))
      where
        tail_kind : (j : ℕ) → j < 2 → 10 ≤ kind_of (get_or tail j 0)
        tail_kind zero h = omega (arith, kind_word 10 c c_fits)
        tail_kind (suc zero) h = omega arith
        tail_kind (suc (suc j)) h = absurd (omega arith)

    asked6_back : Asked6 Certificate ws
    asked6_back = record {
      kinds = kinds_rest;
      below = λ i l m few. small i l m few (dec_lt (i - 7) (length (g ++ n)));
      end =
          value_at_is (length ws - 1) (omega (arith, len, rest_length))
          ∙ ap (λ k. get_or (g ++ n ++ c ∷ 0 ∷ []) k 0) (omega (arith, len, rest_length)) ∙ get_or-append-add (g ++ n) (c ∷ 0 ∷ []) 1 0;
    }
      where
        small : (i : ℕ) → 7 ≤ i → i < length ws → kind_of (get_or ws i 0) < 10 → Dec (i - 7 < length (g ++ n))
            → value_of (get_or ws i 0) < (values_of Certificate ws).p
        small i l inside few (yes m) =
            let b : get_or (g ++ n) (i - 7) 0 < v.p = reduced_append g n g_holds.reduced n_holds.reduced (i - 7) in
            let e = value_at_is i l ∙ get_or-append (g ++ n) (c ∷ 0 ∷ []) 0 (i - 7) m in
            omega (arith, e, b, value_word 1 v.p fit.p)
        small i l inside few (no m) = absurd (omega (arith, few, other_kind i l (omega arith) inside))

    -- a certificate of two curves passes questions 2 to 7
    pub all_back : Curves Certificate v → AllYes (asked Certificate ws)
    all_back curves =
        let back : Ready (values_of Certificate ws) = subst Ready (sym values_back) ready in
        (asked2_back, (back.prime, (back.degree, (back.below, (asked6_back, (subst (Curves Certificate) (sym values_back) curves, tt))))))

-- what the writer left, cut off at its count
pub stored_front : (v : Values) (g n : List ℕ) (c : ℕ) (before after : List ℕ) (r : ℕ) → length (certificate v g n c) ≡ r → Stored v g n c before after r
    → take r after ≡ certificate v g n c
stored_front v g n c before after r e h = ap (take r) h.words ∙ take_at (certificate v g n c) (drop r before) r e
