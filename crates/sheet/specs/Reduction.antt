-- What follows from how a form reads a value (`value_in`): on a question or a kernel sheet every value is read as one below p.
-- Assumes nothing.
use Rattle.std.specs.Prelude.{◌≡◌, refl, ◌↔◌, List, [], ◌∷◌, map, ℕ, suc, ◌+◌, ◌-◌, ◌%◌, ◌<◌, ◌≤◌, length, get_or, take, drop}
use Rattle.std.proofs.Common.{sym, ◌∙◌, ap, ap₂, subst, mod-lt, mod-eq_of_lt, arith, length-drop, length-take-le}
use Rattle.std.proofs.Math.Nat.{zero-mod}
use Rattle.std.proofs.lemmas.List.{length-map}
use Rattle.std.proofs.Math.ListN.{get_or-map}
use Rattle.zmod.specs.Residues.{Reduced}
use Rattle.sheet.specs.declared.Form.{Form}
use Rattle.sheet.specs.declared.Form.TheVariants.{Question, Certificate, Kernel}
use Rattle.sheet.specs.Word.{kind_of, value_of}
use Rattle.sheet.specs.Form.{header, body, entry, value_in}
use Rattle.sheet.specs.Values.{values_of, half, coefficient_in}
use Rattle.sheet.specs.Asked.{ValuesBelow, Asked6}

-- ── the forms on which values are taken modulo p: all but the certificate

abbrev pub Modulo : Form → Type 0
Modulo form = (p x : ℕ) → value_in form p x ≡ x % p

pub question_modulo : Modulo Question
question_modulo p x = refl

pub kernel_modulo : Modulo Kernel
kernel_modulo p x = refl

-- ── one value

-- below p it is read as it stands
pub value_below : (form : Form) {p x : ℕ} → x < p → value_in form p x ≡ x
value_below Question l = mod-eq_of_lt l
value_below Certificate l = refl
value_below Kernel l = mod-eq_of_lt l

-- on those forms whatever is read is below p
pub value_reduced : (form : Form) → Modulo form → {p : ℕ} → 0 < p → (x : ℕ) → value_in form p x < p
value_reduced form modulo {p} pos x = subst (λ r. r < p) (sym (modulo p x)) (mod-lt x pos)

pub value_zero : (form : Form) (p : ℕ) → value_in form p 0 ≡ 0
value_zero Question p = zero-mod p
value_zero Certificate p = refl
value_zero Kernel p = zero-mod p

-- ── coefficients

-- one among those that are read; past the last one it reads 0
pub coefficient_at : (form : Form) (p : ℕ) (ws : List ℕ) (i : ℕ) → get_or (map (coefficient_in form p) ws) i 0 ≡ coefficient_in form p (get_or ws i 0)
coefficient_at form p ws i =
    ap (λ z. get_or (map (coefficient_in form p) ws) i z) (sym (value_zero form p)) ∙ get_or-map (coefficient_in form p) ws i 0

-- so many of the words from `from` on have so many
pub part_length : (form : Form) (p : ℕ) (ws : List ℕ) (from count : ℕ) → from + count ≤ length ws
    → length (map (coefficient_in form p) (take count (drop from ws))) ≡ count
part_length form p ws from count room =
    length-map (take count (drop from ws)) (coefficient_in form p) ∙ length-take-le count (drop from ws) (omega (arith, length-drop from ws))

-- below p they are read as they stand
pub coefficients_below : (form : Form) (p : ℕ) (ws : List ℕ) → Reduced p (map value_of ws) → map (coefficient_in form p) ws ≡ map value_of ws
coefficients_below form p [] small = refl
coefficients_below form p (w ∷ ws) small = ap₂ ◌∷◌ (value_below form (small 0)) (coefficients_below form p ws (λ i. small (suc i)))

-- ── a sheet

-- p and ℓ are never reduced
pub never_reduced : (form : Form) (ws : List ℕ) → ((values_of form ws).p ≡ entry form 1 ws) × ((values_of form ws).degree ≡ entry form 6 ws)
never_reduced form ws = (refl, refl)

-- questions 5 and 6 where values are taken modulo p

module _ (form : Form) (modulo : Modulo form) (ws : List ℕ) (positive : 0 < (values_of form ws).p) where
  -- 5 is answered with yes whatever the values are,
  pub five_always : ValuesBelow (values_of form ws)
  five_always =
      let read : (x : ℕ) → value_in form (values_of form ws).p x < (values_of form ws).p = value_reduced form modulo positive in
      record { a = read _; b = read _; atilde = read _; btilde = read _; sigma = read _ }

  -- and 6 whatever those of the coefficients are, if the kinds after the header and the end are right
  pub six_kinds : Asked6 form ws
      ↔ ((map kind_of (drop (length (header form)) ws) ≡ body form (half (values_of form ws))) × (value_of (get_or ws (length ws - 1) 0) ≡ 0))
  six_kinds = (
    λ a. (a.kinds, a.end),
    λ h. record { kinds = h.0; below = λ i _ _ _. value_reduced form modulo positive (value_of (get_or ws i 0)); end = h.1 },
  )
