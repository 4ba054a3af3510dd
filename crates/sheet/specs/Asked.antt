-- Document 01's questions 2 to 7. Those about values are asked of the values as they are read, 2 and 6 of the words. Values that are taken modulo p are
-- below it, so on a question or a kernel sheet 5 says nothing, and 6 nothing of the size of g's coefficients (`Reduction`).
-- Assumes nothing.
use Rattle.std.specs.Prelude.{◌≡◌, true, List, [], ◌∷◌, map, ℕ, ◌*◌, ◌-◌, ◌%◌, ◌^◌, ◌<◌, ◌≤◌, length, get_or, take, drop}
use Rattle.zmod.specs.Zmod.{Zmod, mk}
use Rattle.zmod.specs.Prime.{Prime}
use Rattle.isogeny.specs.Curve.{Nonsingular}
use Rattle.questions.specs.Questions.{Questions}
use Rattle.sheet.specs.declared.Form.{Form}
use Rattle.sheet.specs.declared.Values.{Values}
use Rattle.sheet.specs.Word.{kind_of, value_of}
use Rattle.sheet.specs.Form.{header, body, holds}
use Rattle.sheet.specs.Values.{values_of, half, coefficient_in}

-- 2: each word of the header is there, and of its kind
unfoldable pub Asked2 : Form → List ℕ → Type 0
Asked2 form ws = map kind_of (take (length (header form)) ws) ≡ header form

-- 3: which p are allowed
pub record PrimeAllowed (p : ℕ) : Type 0 where
  pub prime : Prime p
  pub least : 11 ≤ p
  pub most : p < 2 ^ 28

-- 4: which degrees are allowed over p
pub record DegreeAllowed (ℓ p : ℕ) : Type 0 where
  pub odd : ℓ % 2 ≡ 1
  pub least : 3 ≤ ℓ
  pub most : ℓ ≤ 255
  pub small : 2 * ℓ - 1 < p

-- 5: the values of the curves, and σ, are below p; a value that the form has not is 0
pub record ValuesBelow (v : Values) : Type 0 where
  pub a : v.a < v.p
  pub b : v.b < v.p
  pub atilde : v.atilde < v.p
  pub btilde : v.btilde < v.p
  pub sigma : v.sigma < v.p

-- 6: the words after the header are those of the form; the coefficients, which are of the kinds 8 and 9, are read as values below p, and the end's value is 0
pub record Asked6 (form : Form) (ws : List ℕ) : Type 0 where
  pub kinds : map kind_of (drop (length (header form)) ws) ≡ body form (half (values_of form ws))
  pub below : (i : ℕ) → length (header form) ≤ i → i < length ws → kind_of (get_or ws i 0) < 10
      → coefficient_in form (values_of form ws).p (get_or ws i 0) < (values_of form ws).p
  pub end : value_of (get_or ws (length ws - 1) 0) ≡ 0

-- 7: the domain is a curve, and so is the codomain, if the header has it
pub record Curves (form : Form) (v : Values) : Type 0 where
  pub domain : Nonsingular (Zmod v.p) (mk v.p v.a) (mk v.p v.b)
  pub codomain : holds 4 (header form) ≡ true → Nonsingular (Zmod v.p) (mk v.p v.atilde) (mk v.p v.btilde)

-- in this order
abbrev pub asked : Form → List ℕ → Questions
asked form ws =
    (2, Asked2 form ws)
    ∷ (3, PrimeAllowed (values_of form ws).p)
    ∷ (4, DegreeAllowed (values_of form ws).degree (values_of form ws).p)
    ∷ (5, ValuesBelow (values_of form ws))
    ∷ (6, Asked6 form ws)
    ∷ (7, Curves form (values_of form ws))
    ∷ []
