-- The reader's way from the end of a sheet down to its header: the count, then the words of N, then those of g.
-- Assumes nothing.
use Rattle.std.proofs.Common.{◌≡◌, ℕ, suc, ◌+◌, ◌*◌, ◌-◌, ◌^◌, ◌<◌, ◌≤◌, ◌↔◌, List, Option, Some, unwrap_or, length}
use Rattle.std.proofs.Common.{get_or, take, drop, sym, refl, ap, ◌∙◌, subst, arith, length-append, length-drop, length-take-le, get_or-take, get_or-drop}
use native.Mathlib.Decide.{dec_lt}
use Rattle.sheet.specs.declared.Form.{Form}
use Rattle.sheet.specs.Word.{kind_of, value_of}
use Rattle.sheet.specs.declared.Values.{Values}
use Rattle.sheet.specs.Form.{header, body, kinds_of}
use Rattle.sheet.specs.Place.{place_of, placed, placed_or, at_place}
use Rattle.sheet.specs.Kinds.{below, below_mono, kind_at, kinds_rise, header_first, place_from}
use Rattle.sheet.specs.Values.{values_of, half, coefficient_in}
use Rattle.sheet.specs.Asked.{Asked6}
use Rattle.sheet.specs.Lengths.{last}
use Rattle.sheet.specs.Places.{end_place, count_last}
use Rattle.reading.specs.Leaf.{Fits, EachFits, Section, Sections, Bounds}
use Rattle.reading.specs.Body.{last_after, body_some, asked6_words, words_asked6}

-- ── a part of the words

abbrev part : List ℕ → ℕ → ℕ → List ℕ
part ws from to = take (to - from) (drop from ws)

module _ (ws : List ℕ) (from to k bound : ℕ) (order : from ≤ to) (inside : to ≤ length ws) where
  count : length (part ws from to) ≡ to - from
  count = length-take-le (to - from) (drop from ws) (omega (arith, length-drop from ws))

  word : (i : ℕ) → i < to - from → get_or (part ws from to) i 0 ≡ get_or ws (from + i) 0
  word i l = get_or-take (to - from) (drop from ws) i 0 l ∙ get_or-drop from ws i 0

  part_fits : EachFits k bound (part ws from to) ↔ Section ws from to k bound
  unfolding EachFits Section
  part_fits = (
    λ h i l m.
        let at : from + (i - from) ≡ i = omega arith in
        subst (Fits k bound) (word (i - from) (omega arith) ∙ ap (λ n. get_or ws n 0) at) (h (i - from) (omega (arith, count))),
    λ h i l. let few : i < to - from = omega (arith, count) in subst (Fits k bound) (sym (word i few)) (h (from + i) (omega arith) (omega arith)),
  )

-- ── the three sections

-- the words between the header and the end by their kinds, where the count stands at c, and the words of N and g begin at n and g
pub record ByKinds (form : Form) (d p end : ℕ) (ws : List ℕ) (bound c n g : ℕ) : Type 0 where
  pub g_before : g ≤ n
  pub n_before : n ≤ c
  pub c_before : c ≤ end
  pub sections : Sections form d (length (header form)) end p ws
      ↔ (EachFits 8 bound (part ws g n) × EachFits 9 bound (part ws n c) × EachFits 10 (2 ^ 28) (part ws c end))

module _ (form : Form) (d p end : ℕ) (ws : List ℕ) (is_last : end ≡ last form d) (enough : end < length ws) where
  abbrev kinds : List ℕ
  kinds = kinds_of form d

  -- the end stands where kind 15 begins, behind the word of kind 10
  from_end : end ≡ below 15 kinds
  from_end = is_last ∙ sym (end_place d (below 16 kinds) form) ∙ place_from form d 15 (below 16 kinds) refl

  none_yet : Sections form d end end p ws
  unfolding Sections
  none_yet i l m = absurd (omega arith)

  -- one kind: its words stand from `from` up to `to`, and the bound is what question 6 asks of their values
  module _ (k to from : ℕ) (few : k < 15) (to_is : to ≡ below (suc k) kinds) (from_is : from ≡ below k kinds) where
    module _ (bound : ℕ) (bounds : (w : ℕ) → (value_of w < bound) ↔ (k < 10 → coefficient_in form p w < p)) where
      own_kind : (i : ℕ) → from ≤ i → i < to → get_or kinds i 0 ≡ k
      own_kind i l m = kind_at k 0 i kinds (kinds_rise form d) (omega (arith, from_is)) (omega (arith, to_is))

      more : Section ws from to k bound → Sections form d to end p ws → Sections form d from end p ws
      unfolding Section Sections
      more here later i l m = go (dec_lt i to)
        where
          go : Dec (i < to) → (kind_of (get_or ws i 0) ≡ get_or kinds i 0) × (get_or kinds i 0 < 10 → coefficient_in form p (get_or ws i 0) < p)
          go (yes n) =
              let own = own_kind i l n in
              ((here i l n).0 ∙ sym own, λ small. (bounds (get_or ws i 0)).0 (here i l n).1 (subst (λ k. k < 10) own small))
          go (no n) = later i (omega arith) m

      one : 8 ≤ k → Sections form d (length (header form)) end p ws → Section ws from to k bound
      unfolding Section Sections
      one l all i m n =
          let after : length (header form) ≤ i = omega (arith, from_is, header_first form d, below_mono 8 k kinds l) in
          let inside : i < end = omega (arith, to_is, from_end, below_mono (suc k) 15 kinds (omega arith)) in
          let h = all i after inside in
          let own = own_kind i m n in
          (h.0 ∙ own, (bounds (get_or ws i 0)).1 (λ small. h.1 (subst (λ k. k < 10) (sym own) small)))

  module _ (bound : ℕ) (bounds : Bounds form p bound) where
    -- a coefficient is below p exactly if its value is below the bound; of the count nothing is asked
    word_bound : (k : ℕ) → k < 10 → (w : ℕ) → (value_of w < bound) ↔ (k < 10 → coefficient_in form p w < p)
    unfolding Bounds
    word_bound k few w = let b = bounds (value_of w) (omega arith) in (λ l _. b.0 l, λ h. b.1 (h few))

    any_value : (w : ℕ) → (value_of w < 2 ^ 28) ↔ (10 < 10 → coefficient_in form p w < p)
    any_value w = (λ _ few. absurd (omega arith), λ _. omega arith)

    -- from the places that were asked for
    module _ {c n g : ℕ} {c_at n_at g_at : Option ℕ} (c_found : c_at ≡ placed form 10 d) (c_is : c ≡ unwrap_or c_at end)
        (n_found : n_at ≡ placed form 9 d) (n_is : n ≡ unwrap_or n_at c) (g_found : g_at ≡ placed form 8 d) (g_is : g ≡ unwrap_or g_at n) where
      from : (kind none : ℕ) {at : Option ℕ} {place : ℕ} → at ≡ placed form kind d → place ≡ unwrap_or at none → place ≡ place_of form kind d none
      from kind none found is = is ∙ ap (λ (o : Option ℕ). unwrap_or o none) found ∙ placed_or form kind d none

      after_c : end ≡ below 11 kinds
      after_c = from_end ∙ count_last form d

      from_c : c ≡ below 10 kinds
      from_c = from 10 end c_found c_is ∙ place_from form d 10 end after_c

      from_n : n ≡ below 9 kinds
      from_n = from 9 c n_found n_is ∙ place_from form d 9 c from_c

      from_g : g ≡ below 8 kinds
      from_g = from 8 n g_found g_is ∙ place_from form d 8 n from_n

      g_inside : g ≤ n
      g_inside = omega (arith, from_g, from_n, below_mono 8 9 kinds (omega arith))

      n_inside : n ≤ c
      n_inside = omega (arith, from_n, from_c, below_mono 9 10 kinds (omega arith))

      c_inside : c ≤ end
      c_inside = omega (arith, from_c, from_end, below_mono 10 15 kinds (omega arith))

      -- all words between the header and the end, by kinds
      three_sections : Sections form d (length (header form)) end p ws
          ↔ (EachFits 8 bound (part ws g n) × EachFits 9 bound (part ws n c) × EachFits 10 (2 ^ 28) (part ws c end))
      three_sections =
          let g_bound = word_bound 8 (omega arith) in
          let n_bound = word_bound 9 (omega arith) in
          let of_g = part_fits ws g n 8 bound g_inside (omega (arith, n_inside, c_inside)) in
          let of_n = part_fits ws n c 9 bound n_inside (omega (arith, c_inside)) in
          let of_c = part_fits ws c end 10 (2 ^ 28) c_inside (omega arith) in (
            λ all. (
              of_g.1 (one 8 n g (omega arith) from_n from_g bound g_bound (omega arith) all),
              of_n.1 (one 9 c n (omega arith) from_c from_n bound n_bound (omega arith) all),
              of_c.1 (one 10 end c (omega arith) after_c from_c (2 ^ 28) any_value (omega arith) all),
            ),
            λ h. subst (λ i. Sections form d i end p ws) (from_g ∙ header_first form d)
                (more 8 n g (omega arith) from_n from_g bound g_bound (of_g.0 h.0)
                (more 9 c n (omega arith) from_c from_n bound n_bound (of_n.0 h.1)
                (more 10 end c (omega arith) after_c from_c (2 ^ 28) any_value (of_c.0 h.2) none_yet))),
          )

      pub by_kinds : ByKinds form d p end ws bound c n g
      by_kinds = record { g_before = g_inside; n_before = n_inside; c_before = c_inside; sections = three_sections }

-- ── question 6 as the reader asks it

pub record Rest (form : Form) (ws : List ℕ) (p d end : ℕ) : Type 0 where
  pub count : length ws ≡ end + 1
  pub end_word : get_or ws end 0 ≡ 15 * 2 ^ 28
  pub sections : Sections form d (length (header form)) end p ws

module _ (form : Form) (ws : List ℕ) where
  abbrev v : Values
  v = values_of form ws

  whole : Asked6 form ws ↔ Rest form ws v.p (half v) (last form (half v))
  whole =
      let some = last_after form (half v) in
      let long = length-append (header form) (body form (half v)) in
      let some' = body_some form (half v) in (
        λ a. let w = asked6_words form ws a in record { count = omega (arith, w.count); end_word = w.end; sections = w.sections },
        λ r. words_asked6 form ws (record { count = omega (arith, r.count); end = r.end_word; sections = r.sections }),
      )

  module _ {w : Values} {d end : ℕ} {end_at : Option ℕ} (w_is : w ≡ v) (d_is : d ≡ half w) (end_found : end_at ≡ placed form 15 d)
      (end_is : end_at ≡ Some end) where
    pub end_last : end ≡ last form d
    end_last = at_place form 15 d 0 end_found end_is ∙ end_place d 0 form

    pub rest : Asked6 form ws ↔ Rest form ws w.p d end
    rest =
        let half_is : d ≡ half v = d_is ∙ ap half w_is in
        let end_at : end ≡ last form (half v) = end_last ∙ ap (last form) half_is in
        subst (λ w. Asked6 form ws ↔ Rest form ws w.p d end) (sym w_is)
        (subst (λ d. Asked6 form ws ↔ Rest form ws v.p d end) (sym half_is)
        (subst (λ e. Asked6 form ws ↔ Rest form ws v.p (half v) e) (sym end_at) whole))
