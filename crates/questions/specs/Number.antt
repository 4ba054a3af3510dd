-- The number of a question that a sheet does not pass, by which two of them are told apart; and what a service's `Result` stands for: its result, or the
-- number of the refusal.
-- Assumes nothing.
use Rattle.std.specs.Prelude.{◌≡◌, refl, ℕ, cond, eqb, Result, Ok, Err}
use Rattle.std.proofs.Common.{sym, ◌∙◌, ap}
use Rattle.questions.specs.Answers.{Outcome, result, refused, apart}
use Rattle.questions.specs.declared.refusal.Refusal.{Refusal}
use Rattle.questions.specs.declared.refusal.Refusal.TheVariants.{
  Room,
  Header,
  Prime,
  Degree,
  Values,
  Words,
  Singular,
  KernelPolynomial,
  Numerator,
  Equation,
  NoIsogeny,
  Point,
  Joint,
  Product,
}

abbrev pub number : Refusal → ℕ
number Room = 1
number Header = 2
number Prime = 3
number Degree = 4
number Values = 5
number Words = 6
number Singular = 7
number KernelPolynomial = 8
number Numerator = 9
number Equation = 10
number NoIsogeny = 11
number Point = 12
number Joint = 13
number Product = 14

-- the refusal of a number
abbrev pub numbered : ℕ → Refusal
numbered n =
    cond (eqb n 1) Room (cond (eqb n 2) Header (cond (eqb n 3) Prime (cond (eqb n 4) Degree (cond (eqb n 5) Values (cond (eqb n 6) Words
    (cond (eqb n 7) Singular (cond (eqb n 8) KernelPolynomial (cond (eqb n 9) Numerator (cond (eqb n 10) Equation (cond (eqb n 11) NoIsogeny
    (cond (eqb n 12) Point (cond (eqb n 13) Joint Product))))))))))))

pub numbered_number : (q : Refusal) → numbered (number q) ≡ q
numbered_number Room = refl
numbered_number Header = refl
numbered_number Prime = refl
numbered_number Degree = refl
numbered_number Values = refl
numbered_number Words = refl
numbered_number Singular = refl
numbered_number KernelPolynomial = refl
numbered_number Numerator = refl
numbered_number Equation = refl
numbered_number NoIsogeny = refl
numbered_number Point = refl
numbered_number Joint = refl
numbered_number Product = refl

-- no two have one number
pub number_injective : (q r : Refusal) → number q ≡ number r → q ≡ r
number_injective q r e = sym (numbered_number q) ∙ ap numbered e ∙ numbered_number r

-- what a service's `Result` stands for
abbrev pub outcome : {A : Type 0} → Result A Refusal → Outcome A
outcome (Ok a) = result a
outcome (Err q) = refused (number q)

-- it is fixed by that
pub same_outcome : {A : Type 0} (r s : Result A Refusal) → outcome r ≡ outcome s → r ≡ s
same_outcome (Ok a) (Ok b) e = cc
same_outcome (Ok a) (Err q) e = absurd (apart a (number q) e)
same_outcome (Err q) (Ok b) e = absurd (apart b (number q) (sym e))
same_outcome (Err q) (Err r) e = ap Err (number_injective q r (go e))
  where
    go : {A : Type 0} {m n : ℕ} → ◌≡◌ {A = Outcome A} (refused m) (refused n) → m ≡ n
    go e = cc
