-- What holds of a sheet that passes questions 2 to 7: its length, and its coefficients.
-- Assumes nothing.
use Rattle.std.specs.Prelude.{◌≡◌, ℕ, ◌+◌, ◌*◌, ◌<◌, ◌≤◌, List, map, length, take, drop, slice_index, slice_index_or}
use Rattle.std.proofs.Common.{sym, ◌∙◌, ap, subst, arith, get_or-take, get_or-drop}
use Rattle.std.proofs.Math.Decide.{dec_lt}
use Rattle.std.proofs.Math.ListN.{get_or-eq_default}
use Rattle.zmod.specs.Residues.{Reduced}
use Rattle.questions.specs.Questions.{AllYes}
use Rattle.questions.specs.Numbered.{yes_to}
use Rattle.sheet.specs.declared.Form.{Form}
use Rattle.sheet.specs.declared.Form.TheVariants.{Question, Certificate, Kernel}
use Rattle.sheet.specs.Form.{header, kinds_of, certificate_words}
use Rattle.sheet.specs.Values.{values_of, half, coefficient_in, gOf, n_of}
use Rattle.sheet.specs.Asked.{asked}
use Rattle.sheet.specs.Ready.{HoldsG, HoldsN}
use Rattle.sheet.specs.Kinds.{below, kind_before, kinds_rise}
use Rattle.sheet.specs.Lengths.{certificate_words_lem, kernel_words}
use Rattle.sheet.specs.Places.{coefficients_end, kernel_coefficients_end}
use Rattle.sheet.specs.Reduction.{coefficient_at, part_length}
use Rattle.reading.specs.Body.{kinds_length, kinds_at}

-- ── a part of the words

module _ (form : Form) (p : ℕ) (ws : List ℕ) (from count : ℕ) (room : from + count ≤ length ws) where
  abbrev read : List ℕ
  read = map (coefficient_in form p) (take count (drop from ws))

  -- coefficients below p
  pub part_reduced : 0 < p → ((i : ℕ) → from ≤ i → i < from + count → coefficient_in form p (slice_index ws i) < p) → Reduced p read
  part_reduced pos small i = go (dec_lt i count)
    where
      go : Dec (i < count) → slice_index read i < p
      go (yes l) =
          let e : slice_index_or read i 0 ≡ coefficient_in form p (slice_index ws (from + i)) =
          coefficient_at form p (take count (drop from ws)) i
          ∙ ap (coefficient_in form p) (get_or-take count (drop from ws) i 0 l ∙ get_or-drop from ws i 0) in
          omega (arith, e, small (from + i) (omega arith) (omega arith))
      go (no l) = let z : slice_index_or read i 0 ≡ 0 = get_or-eq_default read 0 (omega (arith, part_length form p ws from count room)) in omega arith

-- ── an accepted sheet

module _ (form : Form) (ws : List ℕ) (all : AllYes (asked form ws)) where
  abbrev d : ℕ
  d = half (values_of form ws)

  pub words_count : length ws ≡ length (kinds_of form d)
  words_count = kinds_length form d ws (yes_to (asked form ws) 6 all).kinds

  -- a section of coefficients: it ends before the kinds from 10 on begin
  reduced_section : (from count : ℕ) → length (header form) ≤ from → from + count ≤ below 10 (kinds_of form d) → from + count ≤ length ws
      → Reduced (values_of form ws).p (map (coefficient_in form (values_of form ws).p) (take count (drop from ws)))
  reduced_section from count l m n =
      part_reduced form (values_of form ws).p ws from count n (omega (arith, (yes_to (asked form ws) 3 all).least)) (λ i a b.
      let six = yes_to (asked form ws) 6 all in
      let few : slice_index_or (kinds_of form d) i 0 < 10 = kind_before 10 0 i (kinds_of form d) (kinds_rise form d) (omega arith) in
      six.below i (omega arith) (omega arith) (subst (λ k. k < 10) (sym (kinds_at form d ws six.kinds i (omega arith))) few))

module _ (ws : List ℕ) (all : AllYes (asked Certificate ws)) where
  abbrev e : ℕ
  e = half (values_of Certificate ws)

  pub certificate_length : length ws ≡ certificate_words e
  certificate_length = words_count Certificate ws all ∙ certificate_words_lem e

  certificate_g_length : length (gOf Certificate ws) ≡ e + 1
  certificate_g_length = part_length Certificate (values_of Certificate ws).p ws 7 (e + 1) (omega (arith, certificate_length))

  certificate_g_reduced : Reduced (values_of Certificate ws).p (gOf Certificate ws)
  certificate_g_reduced = reduced_section Certificate ws all 7 (e + 1) (omega arith) (omega (arith, coefficients_end e)) (omega (arith, certificate_length))

  certificate_n_length : length (n_of Certificate ws) ≡ 2 * e + 2
  certificate_n_length = part_length Certificate (values_of Certificate ws).p ws (7 + (e + 1)) (2 * e + 2) (omega (arith, certificate_length))

  certificate_n_reduced : Reduced (values_of Certificate ws).p (n_of Certificate ws)
  certificate_n_reduced =
      reduced_section Certificate ws all (7 + (e + 1)) (2 * e + 2) (omega arith) (omega (arith, coefficients_end e)) (omega (arith, certificate_length))

  -- the coefficients on it
  pub certificate_g : HoldsG (values_of Certificate ws) (gOf Certificate ws)
  certificate_g = record { count = certificate_g_length; reduced = certificate_g_reduced }

  pub certificate_n : HoldsN (values_of Certificate ws) (n_of Certificate ws)
  certificate_n = record { count = certificate_n_length; reduced = certificate_n_reduced }

module _ (ws : List ℕ) (all : AllYes (asked Kernel ws)) where
  abbrev k : ℕ
  k = half (values_of Kernel ws)

  pub kernel_length : length ws ≡ k + 6
  kernel_length = words_count Kernel ws all ∙ kernel_words k

  kernel_g_length : length (gOf Kernel ws) ≡ k + 1
  kernel_g_length = part_length Kernel (values_of Kernel ws).p ws 4 (k + 1) (omega (arith, kernel_length))

  kernel_g_reduced : Reduced (values_of Kernel ws).p (gOf Kernel ws)
  kernel_g_reduced = reduced_section Kernel ws all 4 (k + 1) (omega arith) (omega (arith, kernel_coefficients_end k)) (omega (arith, kernel_length))

  pub kernel_g : HoldsG (values_of Kernel ws) (gOf Kernel ws)
  kernel_g = record { count = kernel_g_length; reduced = kernel_g_reduced }

pub question_length : (ws : List ℕ) → AllYes (asked Question ws) → length ws ≡ 8
question_length ws all = words_count Question ws all
