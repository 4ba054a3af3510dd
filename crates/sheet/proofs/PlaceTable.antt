-- The table of places, as code has it, holds the places that the forms have.
-- Assumes nothing.
use mathlib.Core.Path.{◌≡◌, refl, ap₂}
use mathlib.Core.Bool.{Bool, true, false}
use mathlib.Core.List.{List, [], ◌∷◌}
use Prim.Native.Nat.{ℕ}
use lib.Dec.{T, eqb, eqb→eq}
use lib.ListN.{get_or}
use Rattle.std.specs.Prelude.{Option, Some, None}
use Rattle.sheet.specs.declared.Form.{Form}
use Rattle.sheet.specs.declared.Form.TheVariants.{Question, Certificate, Kernel}
use Rattle.sheet.specs.Place.{stepped, PlacesOf}
use Rattle.sheet.specs.Table.{at, every, both, both_left, both_right}

abbrev pub question : List (Option (ℕ × ℕ))
question =
    None ∷ Some (0, 0) ∷ Some (1, 0) ∷ Some (2, 0) ∷ Some (3, 0) ∷ Some (4, 0) ∷ Some (5, 0) ∷ Some (6, 0) ∷ None ∷ None ∷ None ∷ None ∷ None ∷ None ∷
    None ∷ Some (7, 0) ∷ []

abbrev pub certificate : List (Option (ℕ × ℕ))
certificate =
    None ∷ Some (0, 0) ∷ Some (1, 0) ∷ Some (2, 0) ∷ Some (3, 0) ∷ Some (4, 0) ∷ Some (5, 0) ∷ Some (6, 0) ∷ Some (7, 0) ∷ Some (8, 1) ∷
    Some (10, 3) ∷ None ∷ None ∷ None ∷ None ∷ Some (11, 3) ∷ []

abbrev pub kernel : List (Option (ℕ × ℕ))
kernel =
    None ∷ Some (0, 0) ∷ Some (1, 0) ∷ Some (2, 0) ∷ None ∷ None ∷ Some (3, 0) ∷ None ∷ Some (4, 0) ∷ None ∷ None ∷ None ∷ None ∷ None ∷ None ∷
    Some (5, 1) ∷ []

abbrev same : Option (ℕ × ℕ) → Option (ℕ × ℕ) → Bool
same None None = true
same None (Some y) = false
same (Some x) None = false
same (Some x) (Some y) = both (eqb x.0 y.0) (eqb x.1 y.1)

same_is : (a b : Option (ℕ × ℕ)) → T (same a b) → a ≡ b
same_is None None t = refl
same_is None (Some y) t = absurd t
same_is (Some x) None t = absurd t
same_is (Some x) (Some y) t =
    let first = eqb→eq x.0 y.0 (both_left (eqb x.0 y.0) (eqb x.1 y.1) t) in
    let second = eqb→eq x.1 y.1 (both_right (eqb x.0 y.0) (eqb x.1 y.1) t) in
    ap₂ (λ (i j : ℕ). Some (i, j)) first second

-- by a computed test of all kinds
tested : (form : Form) (table : List (Option (ℕ × ℕ))) → T (every (λ k. same (get_or table k None) (stepped form k)) 16) → PlacesOf form table
tested form table t k h = same_is _ _ (at (λ k. same (get_or table k None) (stepped form k)) 16 t k h)

pub question_places : PlacesOf Question question
question_places = tested Question question tt

pub certificate_places : PlacesOf Certificate certificate
certificate_places = tested Certificate certificate tt

pub kernel_places : PlacesOf Kernel kernel
kernel_places = tested Kernel kernel tt
