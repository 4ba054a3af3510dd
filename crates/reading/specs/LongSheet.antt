-- A sheet longer than any lawful one gets its answer from its front: questions 2 to 5 look at seven words at most, and 6 is answered with no for the
-- front as for the whole, as long as the front is longer than the largest certificate.
-- Assumes nothing.
use Rattle.std.specs.Prelude.{◌≡◌, ℕ, ◌<◌, ◌≤◌, Bool, true, false, cond, ◌↔◌, List, map, length, take, slice_index, refl}
use Rattle.std.proofs.Math.Path.{sym}
use Rattle.std.proofs.Common.{◌∙◌, ap, ap₂, subst, arith, get_or-take, take-take, take_all, length-take-le}
use Rattle.std.proofs.Math.Decide.{dec_lt}
use Rattle.questions.specs.Questions.{AllYes, FirstNo}
use Rattle.questions.specs.Numbered.{yes_to}
use Rattle.questions.specs.Alike.{Alike, alike_no, alike_yes, alike_sym}
use Rattle.sheet.specs.declared.Form.{Form}
use Rattle.sheet.specs.Word.{kind_of, value_of}
use Rattle.sheet.specs.Form.{header, entry, value_in, holds, position, most_words}
use Rattle.sheet.specs.Values.{value_at, values_of, half}
use Rattle.sheet.specs.Asked.{Asked2, Asked6, DegreeAllowed, asked}
use Rattle.sheet.specs.Fields.{same}
use Rattle.sheet.specs.Lengths.{words_most}
use Rattle.reading.specs.AskedAlike.{Degree, asked_alike}
use Rattle.reading.specs.Header.{position_inside, short_header}
use Rattle.reading.specs.Body.{kinds_length}

-- no lawful sheet is longer than the largest certificate
lawful_length : (form : Form) (ws : List ℕ) → DegreeAllowed (values_of form ws).degree (values_of form ws).p → Asked6 form ws → length ws ≤ most_words
lawful_length form ws a4 a6 =
    let few : half (values_of form ws) ≤ 127 = omega (arith, a4.most) in
    omega (arith, kinds_length form (half (values_of form ws)) ws a6.kinds, words_most form (half (values_of form ws)) few)

module _ (form : Form) (ws : List ℕ) (n : ℕ) (long : most_words < n) where
  entry_front : (k : ℕ) → entry form k (take n ws) ≡ entry form k ws
  entry_front k = go (holds k (header form)) refl
    where
      go : (t : Bool) → holds k (header form) ≡ t
          → cond t (value_of (slice_index (take n ws) (position k (header form)))) 0 ≡ cond t (value_of (slice_index ws (position k (header form)))) 0
      go true e =
          let i : position k (header form) < length (header form) = position_inside k (header form) e in
          ap value_of (get_or-take n ws (position k (header form)) 0 (omega (arith, short_header form)))
      go false e = refl

  pub values_front : values_of form (take n ws) ≡ values_of form ws
  values_front =
      let read : (k : ℕ) → value_at form k (take n ws) ≡ value_at form k ws = λ k. ap₂ (value_in form) (entry_front 1) (entry_front k) in
      same (entry_front 1) (read 2) (read 3) (read 4) (read 5) (entry_front 6) (read 7)

  front2 : map kind_of (take (length (header form)) (take n ws)) ≡ map kind_of (take (length (header form)) ws)
  front2 = ap (map kind_of) (take-take (length (header form)) n ws (omega (arith, short_header form)))

  -- a lawful sheet is its own front
  front6 : Degree (values_of form ws) → Asked6 form (take n ws) ↔ Asked6 form ws
  front6 a4 = go (dec_lt n (length ws))
    where
      go : Dec (n < length ws) → Asked6 form (take n ws) ↔ Asked6 form ws
      go (yes l) = (
        λ a6. absurd (omega (arith, lawful_length form (take n ws) (subst Degree (sym values_front) a4) a6, length-take-le n ws (omega arith))),
        λ a6. absurd (omega (arith, lawful_length form ws a4 a6)),
      )
      go (no l) =
          let e : take n ws ≡ ws = take_all n ws (omega arith) in
          (λ a6. subst (Asked6 form) e a6, λ a6. subst (Asked6 form) (sym e) a6)

  pub alike : Alike (asked form (take n ws)) (asked form ws)
  unfolding Asked2
  alike = asked_alike form (take n ws) ws (λ h. sym front2 ∙ h, λ h. front2 ∙ h) (λ _. values_front) (λ _. front6)

  pub front_yes : AllYes (asked form (take n ws)) ↔ AllYes (asked form ws)
  front_yes = (
    alike_yes (asked form (take n ws)) (asked form ws) alike,
    alike_yes (asked form ws) (asked form (take n ws)) (alike_sym (asked form (take n ws)) (asked form ws) alike),
  )

  pub front_no : (m : ℕ) → FirstNo (asked form (take n ws)) m ↔ FirstNo (asked form ws) m
  front_no m = (
    alike_no (asked form (take n ws)) (asked form ws) m alike,
    alike_no (asked form ws) (asked form (take n ws)) m (alike_sym (asked form (take n ws)) (asked form ws) alike),
  )

  -- an accepted sheet is no longer than its front
  pub front_all : AllYes (asked form ws) → take n ws ≡ ws
  front_all all = take_all n ws (omega (arith, lawful_length form ws (yes_to (asked form ws) 4 all) (yes_to (asked form ws) 6 all)))
