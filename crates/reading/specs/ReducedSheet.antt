-- A question or a kernel sheet, and the same sheet with its values reduced: questions 2 to 7 are answered alike, and what is read is the same.
-- Assumes nothing.
use Rattle.std.specs.Prelude.{◌≡◌, ℕ, zero, suc, ◌+◌, ◌*◌, ◌%◌, ◌^◌, ◌<◌, ◌≤◌, Bool, true, false, cond, ◌↔◌, List, [], ◌∷◌, map, length, take, drop, slice_index, slice_index_or}
use Rattle.std.proofs.Math.Path.{refl, sym, ap, subst}
use Rattle.std.proofs.Common.{◌∙◌, ap₂, arith}
use Rattle.std.proofs.Math.Nat.{mod-le, mod-mod}
use Rattle.std.proofs.Math.ListN.{length-map, get_or-map}
use Rattle.questions.specs.Alike.{Alike}
use Rattle.sheet.specs.declared.Form.{Form}
use Rattle.sheet.specs.declared.Form.TheVariants.{Question, Certificate, Kernel}
use Rattle.sheet.specs.declared.Values.{Values}
use Rattle.sheet.specs.Word.{kind_of, value_of, word}
use Rattle.sheet.specs.Form.{header, entry, value_in, position, holds}
use Rattle.sheet.specs.Values.{value_at, values_of, half, coefficient_in, gOf}
use Rattle.sheet.specs.Asked.{Asked2, Asked6, asked}
use Rattle.sheet.specs.Reduction.{Modulo, value_zero}
use Rattle.sheet.specs.Fields.{same}
use Rattle.sheet.specs.Lengths.{last}
use Rattle.reading.specs.AskedAlike.{asked_alike}
use Rattle.reading.specs.Leaf.{Stands, Sections}
use Rattle.reading.specs.Header.{asked2_stands}
use Rattle.reading.specs.Body.{Words6, asked6_words, words_asked6}

-- the kinds whose values are taken modulo p: those of A, B, Ã, B̃, σ and g
abbrev residue_kind : ℕ → Bool
residue_kind k = holds k (2 ∷ 3 ∷ 4 ∷ 5 ∷ 7 ∷ 8 ∷ [])

-- a word of such a kind with its value modulo p; any other stands
abbrev pub reduce_word : ℕ → ℕ → ℕ
reduce_word p w = cond (residue_kind (kind_of w)) (word (kind_of w) (value_of w % p)) w

-- the sheet with its values reduced; p is the value of its first word
abbrev pub reduced : List ℕ → List ℕ
reduced ws = map (reduce_word (value_of (slice_index ws 0))) ws

-- ── one word

module _ (p w : ℕ) where
  small : value_of w % p ≤ value_of w
  small = mod-le (value_of w) p

  kind_kept : kind_of (reduce_word p w) ≡ kind_of w
  kind_kept = go (residue_kind (kind_of w))
    where
      go : (t : Bool) → kind_of (cond t (word (kind_of w) (value_of w % p)) w) ≡ kind_of w
      go true = omega (arith, small)
      go false = refl

  value_kept : value_of (reduce_word p w) % p ≡ value_of w % p
  value_kept = go (residue_kind (kind_of w))
    where
      go : (t : Bool) → value_of (cond t (word (kind_of w) (value_of w % p)) w) % p ≡ value_of w % p
      go true =
          let e : value_of (word (kind_of w) (value_of w % p)) ≡ value_of w % p = omega (arith, small) in
          ap (λ x. x % p) e ∙ mod-mod (value_of w) p
      go false = refl

  -- the residue itself is in it
  becomes : (k : ℕ) → residue_kind k ≡ true → kind_of w ≡ k → value_of (reduce_word p w) ≡ value_of w % p
  becomes k e is = ap (λ t. value_of (cond t (word (kind_of w) (value_of w % p)) w)) (ap residue_kind is ∙ e) ∙ omega (arith, small)

  -- p, ℓ and the end stand
  stays : (k : ℕ) → residue_kind k ≡ false → kind_of w ≡ k → reduce_word p w ≡ w
  stays k e is = ap (λ t. cond t (word (kind_of w) (value_of w % p)) w) (ap residue_kind is ∙ e)

  read_alike : (form : Form) → Modulo form → coefficient_in form p (reduce_word p w) ≡ coefficient_in form p w
  read_alike form modulo = modulo p (value_of (reduce_word p w)) ∙ value_kept ∙ sym (modulo p (value_of w))

-- ── runs of words

module _ (p : ℕ) where
  -- what each word keeps
  all_kept : (f : ℕ → ℕ) → ((w : ℕ) → f (reduce_word p w) ≡ f w) → (ws : List ℕ) → map f (map (reduce_word p) ws) ≡ map f ws
  all_kept f kept [] = refl
  all_kept f kept (w ∷ ws) = ap₂ ◌∷◌ (kept w) (all_kept f kept ws)

  take_reduced : (n : ℕ) (ws : List ℕ) → take n (map (reduce_word p) ws) ≡ map (reduce_word p) (take n ws)
  take_reduced zero ws = refl
  take_reduced (suc n) [] = refl
  take_reduced (suc n) (w ∷ ws) = ap (λ (us : List ℕ). reduce_word p w ∷ us) (take_reduced n ws)

  drop_reduced : (n : ℕ) (ws : List ℕ) → drop n (map (reduce_word p) ws) ≡ map (reduce_word p) (drop n ws)
  drop_reduced zero ws = refl
  drop_reduced (suc n) [] = refl
  drop_reduced (suc n) (w ∷ ws) = drop_reduced n ws

  word_is : (ws : List ℕ) (i : ℕ) → slice_index (map (reduce_word p) ws) i ≡ reduce_word p (slice_index ws i)
  word_is ws i = get_or-map (reduce_word p) ws i 0

-- ── a sheet

module _ (form : Form) (modulo : Modulo form) (ws : List ℕ) where
  abbrev p : ℕ
  p = value_of (slice_index ws 0)

  abbrev us : List ℕ
  us = reduced ws

  two : map kind_of (take (length (header form)) us) ≡ map kind_of (take (length (header form)) ws)
  two = ap (map kind_of) (take_reduced p (length (header form)) ws) ∙ all_kept p kind_of (kind_kept p) (take (length (header form)) ws)

  -- the first word is p's on every form
  prime_first : entry form 1 ws ≡ p
  prime_first = go form
    where
      go : (form : Form) → entry form 1 ws ≡ value_of (slice_index ws 0)
      go Question = refl
      go Certificate = refl
      go Kernel = refl

  -- a value of the header, modulo p
  entry_read : (k : ℕ) → value_in form p (entry form k us) ≡ value_in form p (entry form k ws)
  entry_read k = go (holds k (header form)) (position k (header form))
    where
      go : (t : Bool) (at : ℕ) → value_in form p (cond t (value_of (slice_index us at)) 0) ≡ value_in form p (cond t (value_of (slice_index ws at)) 0)
      go true at = ap (coefficient_in form p) (word_is p ws at) ∙ read_alike p (slice_index ws at) form modulo
      go false at = refl

  -- p and ℓ, once question 2 is answered with yes
  module _ (headed : Asked2 form ws) where
    entry_stays : (k : ℕ) → residue_kind k ≡ false → entry form k us ≡ entry form k ws
    unfolding Stands
    entry_stays k e = go (holds k (header form)) refl
      where
        go : (t : Bool) → holds k (header form) ≡ t
            → cond t (value_of (slice_index us (position k (header form)))) 0 ≡ cond t (value_of (slice_index ws (position k (header form)))) 0
        go true has =
            ap value_of (word_is p ws (position k (header form))
            ∙ stays p (slice_index ws (position k (header form))) k e (asked2_stands form ws headed k has).1)
        go false has = refl

    pub values_same : values_of form us ≡ values_of form ws
    values_same =
        let over : entry form 1 us ≡ p = entry_stays 1 refl ∙ prime_first in
        let read : (k : ℕ) → value_at form k us ≡ value_at form k ws =
        λ k. ap (λ q. value_in form q (entry form k us)) over ∙ entry_read k ∙ ap (λ q. value_in form q (entry form k ws)) (sym prime_first) in
        same (entry_stays 1 refl) (read 2) (read 3) (read 4) (read 5) (entry_stays 6 refl) (read 7)

    pub g_same : gOf form us ≡ gOf form ws
    g_same =
        ap (λ (v : Values). map (coefficient_in form v.p) (take (half v + 1) (drop (length (header form)) us))) values_same
        ∙ ap (map (coefficient_in form (values_of form ws).p))
        (ap (take (half (values_of form ws) + 1)) (drop_reduced p (length (header form)) ws)
        ∙ take_reduced p (half (values_of form ws) + 1) (drop (length (header form)) ws))
        ∙ subst (λ q. map (coefficient_in form q) (map (reduce_word p) rest) ≡ map (coefficient_in form q) rest) (sym prime_first)
        (all_kept p (coefficient_in form p) (λ w. read_alike p w form modulo) rest)
      where
        rest : List ℕ
        rest = take (half (values_of form ws) + 1) (drop (length (header form)) ws)

    -- ── what the words of the reduced sheet hold is what is read

    entry_becomes : (k : ℕ) → residue_kind k ≡ true → entry form k us ≡ value_at form k ws
    unfolding Stands
    entry_becomes k e = go (holds k (header form)) (position k (header form)) λ has. (asked2_stands form ws headed k has).1
      where
        go : (t : Bool) (at : ℕ) → (t ≡ true → kind_of (slice_index ws at) ≡ k)
            → cond t (value_of (slice_index us at)) 0 ≡ value_in form (entry form 1 ws) (cond t (value_of (slice_index ws at)) 0)
        go true at is =
            ap value_of (word_is p ws at) ∙ becomes p (slice_index ws at) k e (is refl)
            ∙ ap (λ q. value_of (slice_index ws at) % q) (sym prime_first) ∙ sym (modulo (entry form 1 ws) (value_of (slice_index ws at)))
        go false at is = sym (value_zero form (entry form 1 ws))

    -- The words of A, B, Ã, B̃ and σ on the reduced sheet hold the values that are read,
    pub entries_reduced : (entry form 2 us ≡ (values_of form ws).a) × (entry form 3 us ≡ (values_of form ws).b) × (entry form 4 us ≡ (values_of form ws).atilde)
        × (entry form 5 us ≡ (values_of form ws).btilde) × (entry form 7 us ≡ (values_of form ws).sigma)
    entries_reduced = (entry_becomes 2 refl, entry_becomes 3 refl, entry_becomes 4 refl, entry_becomes 5 refl, entry_becomes 7 refl)

    -- and so does each word of g.
    pub coefficient_reduced : (i : ℕ) → kind_of (slice_index ws i) ≡ 8 → value_of (slice_index us i) ≡ coefficient_in form (values_of form ws).p (slice_index ws i)
    coefficient_reduced i is =
        ap value_of (word_is p ws i) ∙ becomes p (slice_index ws i) 8 refl is
        ∙ ap (λ q. value_of (slice_index ws i) % q) (sym prime_first) ∙ sym (modulo (values_of form ws).p (value_of (slice_index ws i)))

    -- ── question 6

    -- the end's word is the same, if either is the end's
    end_kept : (i : ℕ) → (slice_index us i ≡ 15 * 2 ^ 28) ↔ (slice_index ws i ≡ 15 * 2 ^ 28)
    end_kept i =
        let at : slice_index_or us i 0 ≡ reduce_word p (slice_index ws i) = word_is p ws i in (
          λ e.
              let kind : kind_of (slice_index ws i) ≡ 15 = sym (kind_kept p (slice_index ws i)) ∙ ap kind_of (sym at ∙ e) in
              sym (stays p (slice_index ws i) 15 refl kind) ∙ sym at ∙ e,
          λ e. at ∙ stays p (slice_index ws i) 15 refl (ap kind_of e) ∙ e,
        )

    -- the kind and the coefficient of one word
    kind_at : (i : ℕ) → kind_of (slice_index us i) ≡ kind_of (slice_index ws i)
    kind_at i = ap kind_of (word_is p ws i) ∙ kind_kept p (slice_index ws i)

    coefficient_same : (i : ℕ) → coefficient_in form (values_of form ws).p (slice_index us i) ≡ coefficient_in form (values_of form ws).p (slice_index ws i)
    coefficient_same i =
        subst (λ q. coefficient_in form q (slice_index us i) ≡ coefficient_in form q (slice_index ws i)) (sym prime_first)
        (ap (coefficient_in form p) (word_is p ws i) ∙ read_alike p (slice_index ws i) form modulo)

    abbrev v : Values
    v = values_of form ws

    words_same : Words6 form v.p (half v) us ↔ Words6 form v.p (half v) ws
    unfolding Sections
    words_same = (
      λ r. record {
        count = sym (length-map ws (reduce_word p)) ∙ r.count;
        end = (end_kept (last form (half v))).0 r.end;
        sections = λ i l m. (sym (kind_at i) ∙ (r.sections i l m).0, λ few. subst (λ x. x < v.p) (coefficient_same i) ((r.sections i l m).1 few));
      },
      λ r. record {
        count = length-map ws (reduce_word p) ∙ r.count;
        end = (end_kept (last form (half v))).1 r.end;
        sections = λ i l m. (kind_at i ∙ (r.sections i l m).0, λ few. subst (λ x. x < v.p) (sym (coefficient_same i)) ((r.sections i l m).1 few));
      },
    )

    six : Asked6 form us ↔ Asked6 form ws
    six = (
      λ a. words_asked6 form ws (words_same.0 (subst (λ (v : Values). Words6 form v.p (half v) us) values_same (asked6_words form us a))),
      λ a. words_asked6 form us (subst (λ (v : Values). Words6 form v.p (half v) us) (sym values_same) (words_same.1 (asked6_words form ws a))),
    )

  -- Questions 2 to 7 are answered for the reduced sheet as for the sheet.
  pub reduced_alike : Alike (asked form us) (asked form ws)
  unfolding Asked2
  reduced_alike = asked_alike form us ws (λ h. sym two ∙ h, λ h. two ∙ h) values_same (λ headed _. six headed)
