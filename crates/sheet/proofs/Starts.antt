-- Where the coefficients of g and of N begin, from the places that were asked for.
-- Assumes nothing.
use Rattle.std.proofs.Common.{Option, Some, ap, length, unwrap_or, ℕ, ◌+◌, ◌∙◌, ◌≡◌}
use Rattle.sheet.specs.declared.Form.{Form}
use Rattle.sheet.specs.declared.Form.TheVariants.{Certificate}
use Rattle.sheet.specs.Form.{header}
use Rattle.sheet.specs.Place.{placed, at_place, placed_or}
use Rattle.sheet.specs.Places.{end_place, g_place, n_place}

-- behind the header; where the form has no g, that is the end
pub g_from : (form : Form) (d : ℕ) {last place : Option ℕ} {end from : ℕ} → last ≡ placed form 15 d → last ≡ Some end → place ≡ placed form 8 d
    → from ≡ unwrap_or place end → from ≡ length (header form)
g_from form d {end = end} e is f from_is =
    from_is ∙ ap (λ (o : Option ℕ). unwrap_or o end) f ∙ placed_or form 8 d end ∙ g_place d end form (at_place form 15 d 0 e is ∙ end_place d 0 form)

-- behind the words of g
pub n_from : (d : ℕ) {place : Option ℕ} {from : ℕ} → place ≡ placed Certificate 9 d → place ≡ Some from → from ≡ d + 8
n_from d e is = at_place Certificate 9 d 0 e is ∙ n_place d 0
