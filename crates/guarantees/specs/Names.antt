-- Which curves bear the same name, by what name answers.
-- Assumes nothing.
use Rattle.std.specs.Prelude.{◌≡◌, ◌↔◌, ℕ, Ok}
use Rattle.std.proofs.Common.{sym, ◌∙◌, subst}
use Rattle.zmod.specs.Zmod.{Zmod, mk, mk_apart}
use Rattle.zmod.specs.Prime.{Prime, prime_pos}
use Rattle.isogeny.specs.Curve.{Nonsingular, SameName, JValue}
use Rattle.isogeny.proofs.Theorems.{j_unique}
use Rattle.questions.specs.Numbered.{yes_to}
use Rattle.promises.specs.Asked.{name_asks}
use Rattle.promises.specs.Answer.{NameRight}

-- Two curves over one prime that name answers with values bear the same name exactly when these values are equal.
pub same_name : (p a b a' b' j j' : ℕ) → NameRight p a b (Ok j) → NameRight p a' b' (Ok j')
    → SameName (Zmod p) (mk p a) (mk p b) (mk p a') (mk p b') ↔ (j ≡ j')
same_name p a b a' b' j j' (all, (below, value)) (all', (below', value')) = (there, back)
  where
    P : Prime p
    P = (yes_to (name_asks p a b) 3 all).prime

    curve : Nonsingular (Zmod p) (mk p a) (mk p b)
    curve = yes_to (name_asks p a b) 7 all

    curve' : Nonsingular (Zmod p) (mk p a') (mk p b')
    curve' = yes_to (name_asks p a' b') 7 all'

    there : SameName (Zmod p) (mk p a) (mk p b) (mk p a') (mk p b') → j ≡ j'
    there same =
        mk_apart (prime_pos P) j j' below below'
        (j_unique P (mk p a) (mk p b) curve (mk p j) same.j value same.first
        ∙ sym (j_unique P (mk p a') (mk p b') curve' (mk p j') same.j value' same.second))

    back : j ≡ j' → SameName (Zmod p) (mk p a) (mk p b) (mk p a') (mk p b')
    back e = record { j = mk p j; first = value; second = subst (λ i. JValue (Zmod p) (mk p a') (mk p b') (mk p i)) (sym e) value' }
