-- The whole certificate, as the writer stores it: the header, the sections of g and of N, the count and the end, one after the other.
-- Assumes nothing.
use mathlib.Core.Path.{◌≡◌, refl, sym, ◌∙◌, ap, ap₂}
use mathlib.Core.List.{List, [], ◌∷◌, ◌++◌, map, append_assoc}
use Prim.Native.Nat.{ℕ, zero, suc, ◌+◌, ◌*◌, ◌<◌, ◌≤◌}
use native.Mathlib.Omega.{arith}
use lib.Dec.{eqb, eqb→eq}
use lib.ListN.{length, get_or, set, take, drop, length-append, length-map, get_or-map}
use lib.Seq.{paste}
use Rattle.std.specs.Prelude.{Option, Some, is_some, unwrap_or, true}
use Rattle.sheet.specs.declared.Form.TheVariants.{Certificate}
use Rattle.sheet.specs.declared.Kind.{Kind}
use Rattle.sheet.specs.declared.Kind.TheVariants.{P}
use Rattle.sheet.specs.declared.Values.{Values}
use Rattle.sheet.specs.Code.{code}
use Rattle.sheet.specs.Table.{at, T_true}
use Rattle.sheet.specs.Word.{word}
use Rattle.sheet.specs.Form.{header, certificate_words}
use Rattle.sheet.specs.Lengths.{certificate_words_lem}
use Rattle.sheet.specs.Place.{placed, place_of, at_place}
use Rattle.sheet.specs.Places.{g_placed, n_placed, count_placed, end_placed}
use Rattle.sheet.specs.Values.{half}
use Rattle.certificate.specs.Certificate.{header_words, value_at, Writable, Stored}
use Rattle.certificate.proofs.Stores.{Front, front_more, front_paste, front_one}

-- ── the header

in_header : (v : Values) (i : ℕ) → i < 7 → get_or (header_words v) i 0 ≡ word (suc i) (value_at v (suc i))
in_header v zero h = refl
in_header v (suc zero) h = refl
in_header v (suc (suc zero)) h = refl
in_header v (suc (suc (suc zero))) h = refl
in_header v (suc (suc (suc (suc zero)))) h = refl
in_header v (suc (suc (suc (suc (suc zero))))) h = refl
in_header v (suc (suc (suc (suc (suc (suc zero)))))) h = refl
in_header v (suc (suc (suc (suc (suc (suc (suc i))))))) h = absurd (omega arith)

-- kind i + 1 of the header stands at place i
module _ (kinds : List Kind) (is_header : map code kinds ≡ header Certificate) {i : ℕ} (inside : i < length kinds) where
  abbrev kind : ℕ
  kind = code (get_or kinds i P)

  in_seven : i < 7
  in_seven = omega (arith, inside, length-map kinds code, ap length is_header)

  kind_is : kind ≡ suc i
  kind_is =
      sym (get_or-map code kinds i P) ∙ ap (λ (ks : List ℕ). get_or ks i 1) is_header
      ∙ eqb→eq _ _ (at (λ i. eqb (get_or (header Certificate) i 1) (suc i)) 7 tt i in_seven)

  pub of_header : 1 ≤ kind
  of_header = omega (arith, kind_is)

  pub has_place : {place : Option ℕ} → place ≡ placed Certificate kind 0 → is_some place ≡ true
  has_place e =
      ap is_some e ∙ ap (λ k. is_some (placed Certificate k 0)) kind_is ∙ T_true _ (at (λ i. is_some (placed Certificate (suc i) 0)) 7 tt i in_seven)

  pub at_header : {place : Option ℕ} {at_kind : ℕ} → place ≡ placed Certificate kind 0 → place ≡ Some at_kind → at_kind ≡ i
  at_header e is =
      at_place Certificate kind 0 0 e is ∙ ap (λ k. place_of Certificate k 0 0) kind_is
      ∙ eqb→eq _ _ (at (λ i. eqb (place_of Certificate (suc i) 0 0) i) 7 tt i in_seven)

  pub header_more : (v : Values) (before : List ℕ) {out : List ℕ} {at_kind w x : ℕ} → 7 ≤ length before → out ≡ take i (header_words v) ++ drop i before
      → at_kind ≡ i → w ≡ word kind x → x ≡ value_at v kind → set out at_kind w ≡ take (i + 1) (header_words v) ++ drop (i + 1) before
  header_more v before {out} {at_kind} {w} room out_is at_is w_is x_is =
      let is : w ≡ get_or (header_words v) i 0 =
      w_is ∙ ap (word kind) x_is ∙ ap (λ k. word k (value_at v k)) kind_is ∙ sym (in_header v i in_seven) in
      ap₂ (λ (o : List ℕ) (w : ℕ). set o at_kind w) out_is is
      ∙ ap (λ n. set (take i (header_words v) ++ drop i before) n (get_or (header_words v) i 0)) at_is
      ∙ front_more (header_words v) before i in_seven (omega (arith, in_seven, room))

-- ── the places that the table gave

-- the one that a kind has, where it is known
place_known : {want place : Option ℕ} {n at : ℕ} → want ≡ Some n → place ≡ want → place ≡ Some at → at ≡ n
place_known w e is = ap (λ (o : Option ℕ). unwrap_or o 0) (sym is ∙ e ∙ w)

module _ (v : Values) {d : ℕ} (d_is : d ≡ half v) {place : Option ℕ} {at : ℕ} where
  pub at_g : place ≡ placed Certificate 8 d → place ≡ Some at → at ≡ 7
  at_g = place_known (g_placed d)

  pub at_n : place ≡ placed Certificate 9 d → place ≡ Some at → at ≡ half v + 8
  at_n e is = place_known (n_placed d) e is ∙ ap (λ d. d + 8) d_is

  pub at_count : place ≡ placed Certificate 10 d → place ≡ Some at → at ≡ 3 * half v + 10
  at_count e is = place_known (count_placed d) e is ∙ ap (λ d. 3 * d + 10) d_is

  pub at_end : place ≡ placed Certificate 15 d → place ≡ Some at → at ≡ 3 * half v + 11
  at_end e is = omega (arith, place_known (end_placed Certificate d) e is, certificate_words_lem d, d_is)

-- ── the whole certificate

module _ (v : Values) (g n before : List ℕ) (c : ℕ) (can : Writable v g n c (length before)) where
  -- where the sections of g and of N end
  abbrev g_end : ℕ
  g_end = 7 + length g

  abbrev n_end : ℕ
  n_end = 7 + length g + length n

  abbrev sections : List ℕ
  sections = header_words v ++ map (word 8) g ++ map (word 9) n

  length₂ : length (header_words v ++ map (word 8) g) ≡ g_end
  length₂ = length-append (header_words v) (map (word 8) g) ∙ ap (λ n. 7 + n) (length-map g (word 8))

  length₃ : length sections ≡ n_end
  length₃ = length-append (header_words v ++ map (word 8) g) (map (word 9) n) ∙ ap₂ ◌+◌ length₂ (length-map n (word 9))

  words : n_end + 2 ≡ certificate_words (half v)
  words = omega (arith, can.g_words.count, can.n_words.count)

  module _ {e₈ e₉ e₁₀ e₁₅ : ℕ} (at₈ : e₈ ≡ 7) (at₉ : e₉ ≡ half v + 8) (at₁₀ : e₁₀ ≡ 3 * half v + 10) (at₁₅ : e₁₅ ≡ 3 * half v + 11) {o₁ o₂ o₃ : List ℕ}
      (headed : o₁ ≡ header_words v ++ drop 7 before) (put_g : o₂ ≡ paste o₁ e₈ (map (word 8) g) (length g))
      (put_n : o₃ ≡ paste o₂ e₉ (map (word 9) n) (length n)) where
    front₃ : Front before sections o₃
    front₃ =
        front_paste before (header_words v ++ map (word 8) g) (map (word 9) n) e₉ (length n) (sym (length-map n (word 9)))
        (omega (arith, at₉, length₂, can.g_words.count))
        (front_paste before (header_words v) (map (word 8) g) e₈ (length g) (sym (length-map g (word 8))) at₈ headed put_g) put_n

    -- the count, and the end
    pub written : {w w' : ℕ} → w ≡ word 10 c → w' ≡ word 15 0 → Stored v g n c before (set (set o₃ e₁₀ w) e₁₅ w') (e₁₅ + 1)
    written {w} {w'} is_count is_end =
        let counted = sections ++ word 10 c ∷ [] in
        let length₄ : length counted ≡ n_end + 1 = length-append sections (word 10 c ∷ []) ∙ ap (λ k. k + 1) length₃ in
        let here : e₁₀ ≡ n_end = omega (arith, at₁₀, words) in
        let end : e₁₅ ≡ n_end + 1 = omega (arith, at₁₅, words) in
        let front₄ : Front before counted (set o₃ e₁₀ w) =
        ap (set o₃ e₁₀) is_count ∙ front_one before sections e₁₀ (word 10 c) (here ∙ sym length₃) (omega (arith, here, words, can.enough)) front₃ in
        let whole : length (counted ++ word 15 0 ∷ []) ≡ e₁₅ + 1 = length-append counted (word 15 0 ∷ []) ∙ omega (arith, length₄, end) in
        record {
          count = omega (arith, end, words);
          words =
              ap (set (set o₃ e₁₀ w) e₁₅) is_end
              ∙ front_one before counted e₁₅ (word 15 0) (end ∙ sym length₄) (omega (arith, end, words, can.enough)) front₄
              ∙ ap₂ (λ (a : List ℕ) (k : ℕ). a ++ drop k before) (append_assoc sections (word 10 c ∷ []) (word 15 0 ∷ [])) whole;
        }
