-- The places of the kinds in the forms: each is linear in d, so it is told by the place at d = 0 and by how far it rises to d = 1.
-- Assumes nothing.
use Rattle.std.specs.Prelude.{◌≡◌, refl, Bool, true, false, cond, List, [], ◌∷◌, ℕ, suc, ◌+◌, ◌*◌, ◌-◌, ◌<◌, length, Option, Some, None, unwrap_or}
use Rattle.std.proofs.Common.{sym, ◌∙◌, ap, ap₂, arith}
use Rattle.std.proofs.lemmas.Option.{none-some}
use Rattle.sheet.specs.declared.Form.{Form}
use Rattle.sheet.specs.declared.Form.TheVariants.{Question, Certificate, Kernel}
use Rattle.sheet.specs.Form.{header, kinds_of, certificate_words, position, holds}
use Rattle.sheet.specs.Place.{place_of, placed, stepped}
use Rattle.sheet.specs.Kinds.{below, absent as absent_kind, place_from}
use Rattle.sheet.specs.Lengths.{last, certificate_words_lem, kernel_words}
use Rattle.sheet.specs.Linear.{Section, section, expand, has, base, slope, holds_sections, position_sections, base_most}

-- ── the forms in sections

abbrev sections : Form → List Section
sections Question = section 1 0 0 ∷ section 2 0 0 ∷ section 3 0 0 ∷ section 4 0 0 ∷ section 5 0 0 ∷ section 6 0 0 ∷ section 7 0 0 ∷ section 15 0 0 ∷ []
sections Certificate =
    section 1 0 0 ∷ section 2 0 0 ∷ section 3 0 0 ∷ section 4 0 0 ∷ section 5 0 0 ∷ section 6 0 0 ∷ section 7 0 0 ∷ section 8 0 1 ∷ section 9 1 2
    ∷ section 10 0 0 ∷ section 15 0 0 ∷ []
sections Kernel = section 1 0 0 ∷ section 2 0 0 ∷ section 3 0 0 ∷ section 6 0 0 ∷ section 8 0 1 ∷ section 15 0 0 ∷ []

-- how many words follow the first one of a section
no_more : (d : ℕ) → 0 + 0 * d ≡ 0
no_more d = omega arith

g_more : (d : ℕ) → d + 1 ≡ suc (0 + 1 * d)
g_more d = omega arith

n_more : (d : ℕ) → 2 * d + 2 ≡ suc (1 + 2 * d)
n_more d = omega arith

in_sections : (form : Form) (d : ℕ) → kinds_of form d ≡ expand d (sections form)
in_sections Question d = simp no_more
in_sections Certificate d = simp (no_more, g_more, n_more)
in_sections Kernel d = simp (no_more, g_more)

-- no form has a kind from 11 to 14, so the word of kind 10, or where it would stand, is the last before the end
abbrev Lacks : Form → ℕ → Type 0
Lacks form k = has k (sections form) ≡ false

lacking : (form : Form) → Lacks form 11 × Lacks form 12 × Lacks form 13 × Lacks form 14
lacking Question = (refl, refl, refl, refl)
lacking Certificate = (refl, refl, refl, refl)
lacking Kernel = (refl, refl, refl, refl)

module _ (form : Form) (d : ℕ) where
  skipped : (k : ℕ) → Lacks form k → below (suc k) (kinds_of form d) ≡ below k (kinds_of form d)
  skipped k e = absent_kind k (kinds_of form d) (ap (holds k) (in_sections form d) ∙ holds_sections k d (sections form) ∙ e)

  pub count_last : below 15 (kinds_of form d) ≡ below 11 (kinds_of form d)
  count_last =
      let lacks = lacking form in
      skipped 14 lacks.3 ∙ skipped 13 lacks.2 ∙ skipped 12 lacks.1 ∙ skipped 11 lacks.0

-- a number + a number · d
module _ (form : Form) (k : ℕ) where
  pub placed_is : (d : ℕ) → placed form k d ≡ cond (has k (sections form)) (Some (base k (sections form) + slope k (sections form) * d)) None
  placed_is d =
      ap₂ (λ (t : Bool) (n : ℕ). cond t (Some n) None)
      (ap (holds k) (in_sections form d) ∙ holds_sections k d (sections form))
      (ap (position k) (in_sections form d) ∙ position_sections k d (sections form))

  pub place_is : (d none : ℕ) → place_of form k d none ≡ cond (has k (sections form)) (base k (sections form) + slope k (sections form) * d) none
  place_is d none =
      ap₂ (λ (t : Bool) (n : ℕ). cond t n none)
      (ap (holds k) (in_sections form d) ∙ holds_sections k d (sections form))
      (ap (position k) (in_sections form d) ∙ position_sections k d (sections form))

-- ── a place from the place at d = 0 and the rise

early : (form : Form) (k : ℕ) → base k (sections form) < 255
early Question k = omega (arith, base_most k (sections Question))
early Certificate k = omega (arith, base_most k (sections Certificate))
early Kernel k = omega (arith, base_most k (sections Kernel))

-- by whether the form has the kind
module _ (t : Bool) (b s d none : ℕ) (small : b < 255) where
  absent : cond t (b + s * 0) 255 ≡ 255 → cond t (b + s * d) none ≡ none
  absent e = go t e
    where
      go : (t : Bool) → cond t (b + s * 0) 255 ≡ 255 → cond t (b + s * d) none ≡ none
      go true e = absurd (omega arith)
      go false e = refl

  present : (cond t (b + s * 0) 255 ≡ 255 → ⊥) → cond t (b + s * 0) 255 + (cond t (b + s * 1) 255 - cond t (b + s * 0) 255) * d ≡ cond t (b + s * d) none
  present n = go t n
    where
      go : (t : Bool) → (cond t (b + s * 0) 255 ≡ 255 → ⊥)
          → cond t (b + s * 0) 255 + (cond t (b + s * 1) 255 - cond t (b + s * 0) 255) * d ≡ cond t (b + s * d) none
      go true n = let r : b + s * 1 - (b + s * 0) ≡ s = omega arith in ap₂ (λ x y. x + y * d) (omega arith) r
      go false n = absurd (n refl)

module _ (form : Form) (k d none : ℕ) where
  pub nowhere : place_of form k 0 255 ≡ 255 → place_of form k d none ≡ none
  nowhere e =
      place_is form k d none ∙ absent (has k (sections form)) (base k (sections form)) (slope k (sections form)) d none (early form k)
      (sym (place_is form k 0 255) ∙ e)

  pub somewhere : (place_of form k 0 255 ≡ 255 → ⊥) → place_of form k 0 255 + (place_of form k 1 255 - place_of form k 0 255) * d ≡ place_of form k d none
  somewhere n =
      ap₂ (λ x y. x + (y - x) * d) (place_is form k 0 255) (place_is form k 1 255)
      ∙ present (has k (sections form)) (base k (sections form)) (slope k (sections form)) d none (early form k) (λ e. n (place_is form k 0 255 ∙ e))
      ∙ sym (place_is form k d none)

-- the same of a place that may be nowhere, as the table has it
abbrev Step : Bool → ℕ → ℕ → Option (ℕ × ℕ)
Step t b s = cond t (Some (b + s * 0, b + s * 1 - (b + s * 0))) None

module _ (b s d : ℕ) where
  unrisen : (t : Bool) → Step t b s ≡ None → cond t (Some (b + s * d)) None ≡ None
  unrisen true e = absurd (none-some _ (sym e))
  unrisen false e = refl

  risen : (t : Bool) {start rise : ℕ} → Step t b s ≡ Some (start, rise) → cond t (Some (b + s * d)) None ≡ Some (start + rise * d)
  risen true {start} {rise} e =
      let both : (b + s * 0, b + s * 1 - (b + s * 0)) ≡ (start, rise) = ap (λ (o : Option (ℕ × ℕ)). unwrap_or o (0, 0)) e in
      let first : b ≡ start = omega (arith, ap (λ (q : ℕ × ℕ). q.0) both) in
      let second : s ≡ rise = omega (arith, ap (λ (q : ℕ × ℕ). q.1) both) in
      ap₂ (λ x y. Some (x + y * d)) first second
  risen false e = absurd (none-some _ e)

module _ (form : Form) (k d : ℕ) where
  stepped_is : stepped form k ≡ Step (has k (sections form)) (base k (sections form)) (slope k (sections form))
  stepped_is =
      ap₂ (λ (t : Bool) (q : ℕ × ℕ). cond t (Some q) None)
      (ap (holds k) (in_sections form 0) ∙ holds_sections k 0 (sections form))
      (ap₂ (λ (x y : ℕ). (x, y - x))
      (ap (position k) (in_sections form 0) ∙ position_sections k 0 (sections form))
      (ap (position k) (in_sections form 1) ∙ position_sections k 1 (sections form)))

  pub nowhere_placed : stepped form k ≡ None → placed form k d ≡ None
  nowhere_placed e = placed_is form k d ∙ unrisen (base k (sections form)) (slope k (sections form)) d (has k (sections form)) (sym stepped_is ∙ e)

  pub somewhere_placed : {start rise : ℕ} → stepped form k ≡ Some (start, rise) → placed form k d ≡ Some (start + rise * d)
  somewhere_placed e = placed_is form k d ∙ risen (base k (sections form)) (slope k (sections form)) d (has k (sections form)) (sym stepped_is ∙ e)

-- ── the places that the reader and the writer ask for

module _ (d none : ℕ) where
  pub end_place : (form : Form) → place_of form 15 d none ≡ last form d
  end_place Question = place_is Question 15 d none ∙ omega arith
  end_place Certificate = place_is Certificate 15 d none ∙ omega (arith, certificate_words_lem d)
  end_place Kernel = place_is Kernel 15 d none ∙ omega (arith, kernel_words d)

  -- where the form has no coefficients of g, they would stand at the end
  pub g_place : (form : Form) → none ≡ last form d → place_of form 8 d none ≡ length (header form)
  g_place Question e = place_is Question 8 d none ∙ omega arith
  g_place Certificate e = place_is Certificate 8 d none ∙ omega arith
  g_place Kernel e = place_is Kernel 8 d none ∙ omega arith

  pub n_place : place_of Certificate 9 d none ≡ d + 8
  n_place = place_is Certificate 9 d none ∙ omega arith

  pub count_place : place_of Certificate 10 d none + 2 ≡ certificate_words d
  count_place = omega (arith, place_is Certificate 10 d none)

-- each form has an end, and a certificate has all kinds
pub end_placed : (form : Form) (d : ℕ) → placed form 15 d ≡ Some (last form d)
end_placed Question d = placed_is Question 15 d ∙ ap Some (omega arith)
end_placed Certificate d = placed_is Certificate 15 d ∙ ap Some (omega (arith, certificate_words_lem d))
end_placed Kernel d = placed_is Kernel 15 d ∙ ap Some (omega (arith, kernel_words d))

pub g_placed : (d : ℕ) → placed Certificate 8 d ≡ Some 7
g_placed d = placed_is Certificate 8 d ∙ ap Some (omega arith)

pub n_placed : (d : ℕ) → placed Certificate 9 d ≡ Some (d + 8)
n_placed d = placed_is Certificate 9 d ∙ ap Some (omega arith)

pub count_placed : (d : ℕ) → placed Certificate 10 d ≡ Some (3 * d + 10)
count_placed d = placed_is Certificate 10 d ∙ ap Some (omega arith)

pub end_small : (d : ℕ) (form : Form) → last form d < certificate_words d
end_small d Question = omega arith
end_small d Certificate = omega (arith, certificate_words_lem d)
end_small d Kernel = omega (arith, kernel_words d)

-- the kinds from 10 on begin after all coefficients
module _ (d : ℕ) where
  pub coefficients_end : below 10 (kinds_of Certificate d) + 2 ≡ certificate_words d
  coefficients_end =
      let next = below 11 (kinds_of Certificate d) in
      omega (arith, place_from Certificate d 10 next refl, count_place d next)

  pub kernel_coefficients_end : below 10 (kinds_of Kernel d) ≡ d + 5
  kernel_coefficients_end =
      let kinds = kinds_of Kernel d in
      sym (skipped Kernel d 10 refl) ∙ sym (count_last Kernel d) ∙ sym (place_from Kernel d 15 (below 16 kinds) refl) ∙ end_place d (below 16 kinds) Kernel
      ∙ omega (arith, kernel_words d)
