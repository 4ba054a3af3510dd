-- What a customer can cite of name: one answer is right and no other.
-- Assumes nothing.
use Rattle.std.specs.Prelude.{◌≡◌, ℕ, ◌<◌, Result}
use Rattle.zmod.specs.Zmod.{Zmod, mk, mk_apart}
use Rattle.zmod.specs.Prime.{prime_pos}
use Rattle.isogeny.specs.Curve.{JValue}
use Rattle.isogeny.proofs.Theorems as T
use Rattle.questions.specs.Answers.{answers_unique}
use Rattle.questions.specs.Numbered.{yes_to}
use Rattle.questions.specs.Number.{outcome, same_outcome}
use Rattle.questions.specs.declared.refusal.Refusal.{Refusal}
use Rattle.promises.specs.Asked.{name_asks}
use Rattle.promises.specs.Answer.{NameRight}

pub name_unique : (p a b : ℕ) (r r' : Result ℕ Refusal) → NameRight p a b r → NameRight p a b r' → r ≡ r'
name_unique p a b r r' h k =
    same_outcome r r'
    (answers_unique (name_asks p a b) (λ j. (j < p) × JValue (Zmod p) (mk p a) (mk p b) (mk p j)) (λ all i j e f.
    let P = (yes_to (name_asks p a b) 3 all).prime in
    mk_apart (prime_pos P) i j e.0 f.0 (T.j_unique P (mk p a) (mk p b) (yes_to (name_asks p a b) 7 all) (mk p i) (mk p j) e.1 f.1))
    (outcome r) (outcome r') h k)
