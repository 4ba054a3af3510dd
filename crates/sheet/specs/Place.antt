-- Where the words of a kind stand in a sheet of a form: what the table of places holds.
-- Assumes nothing.
use Rattle.std.specs.Prelude.{◌≡◌, refl, Bool, true, false, cond, List, ℕ, ◌-◌, ◌<◌, get_or, Option, Some, None, unwrap_or}
use Rattle.std.proofs.Common.{sym, ◌∙◌, ap}
use Rattle.sheet.specs.declared.Form.{Form}
use Rattle.sheet.specs.Form.{kinds_of, position, holds}

-- the place of the first word of a kind, if the form has such a word
abbrev pub placed : Form → ℕ → ℕ → Option ℕ
placed form kind d = cond (holds kind (kinds_of form d)) (Some (position kind (kinds_of form d))) None

-- the same, with `none` for nowhere
abbrev pub place_of : Form → ℕ → ℕ → ℕ → ℕ
place_of form kind d none = cond (holds kind (kinds_of form d)) (position kind (kinds_of form d)) none

pub placed_or : (form : Form) (kind d none : ℕ) → unwrap_or (placed form kind d) none ≡ place_of form kind d none
placed_or form kind d none = go (holds kind (kinds_of form d))
  where
    go : (t : Bool) → unwrap_or (cond t (Some (position kind (kinds_of form d))) None) none ≡ cond t (position kind (kinds_of form d)) none
    go true = refl
    go false = refl

-- a word that is there has its place whatever stands for nowhere
pub at_place : (form : Form) (kind d none : ℕ) {place : Option ℕ} {at : ℕ} → place ≡ placed form kind d → place ≡ Some at → at ≡ place_of form kind d none
at_place form kind d none e is = sym (ap (λ (o : Option ℕ). unwrap_or o none) (sym e ∙ is)) ∙ placed_or form kind d none

-- the place of a kind at d = 0 and how far it rises from d = 0 to d = 1, if the form has such a word
abbrev pub stepped : Form → ℕ → Option (ℕ × ℕ)
stepped form kind =
    let start = position kind (kinds_of form 0) in
    cond (holds kind (kinds_of form 0)) (Some (start, position kind (kinds_of form 1) - start)) None

-- a form's part of the table has these
abbrev pub PlacesOf : Form → List (Option (ℕ × ℕ)) → Type 0
PlacesOf form table = (kind : ℕ) → kind < 16 → get_or table kind None ≡ stepped form kind
