-- The questions that each service puts, in the order of documents 01 and 02: 2 to 7 are those of the sheet's form, and 1 and 8 to 14 are here, each asked of
-- values and coefficients; a sheet is asked by what it says.
-- Assumes nothing.
use Rattle.std.specs.Prelude.{◌≡◌, List, [], ◌∷◌, ◌++◌, ℕ, ◌*◌, ◌-◌, ◌<◌, ◌≤◌}
use Rattle.zmod.specs.Zmod.{Elt, Zmod, mk}
use Rattle.zmod.specs.Residues.{poly}
use Rattle.series.specs.Series.{Seq}
use Rattle.isogeny.specs.Curve.{Nonsingular, OnCurve}
use Rattle.isogeny.specs.Kernel.{Passes}
use Rattle.isogeny.specs.Rules as Rules
use Rattle.isogeny.specs.Rules.{N, R1, R3, Meets}
use Rattle.questions.specs.Questions.{Questions}
use Rattle.sheet.specs.declared.Form.{Form}
use Rattle.sheet.specs.declared.Form.TheVariants.{Question, Certificate, Kernel}
use Rattle.sheet.specs.declared.Values.{Values}
use Rattle.sheet.specs.Form.{most_words}
use Rattle.sheet.specs.Values.{values_of, half, question, gOf, n_of, abscissas_of}
use Rattle.sheet.specs.Asked.{PrimeAllowed, asked}
use Rattle.promises.specs.Abscissas.{rational_abscissas_of}
use Rattle.promises.specs.declared.Point.{Point}
use Rattle.promises.specs.declared.Point.TheVariants.{Affine, Infinity}

-- 1: the answer buffer has room for the largest certificate
abbrev pub Room : ℕ → Type 0
Room room = most_words ≤ room

-- 8, 9 and 10 of a certificate: g meets R1, N is that of R2 and c the count of rational abscissas, R3 holds
abbrev pub rules_ask : Values → List ℕ → List ℕ → ℕ → Questions
rules_ask v g n c =
    (8, R1 (Zmod v.p) (question v) (poly v.p g))
    ∷ (9, ((poly v.p n ≡ N (Zmod v.p) (question v) (poly v.p g)) × (c ≡ rational_abscissas_of v g)))
    ∷ (10, R3 (Zmod v.p) (question v) (poly v.p g) (poly v.p n))
    ∷ []

-- these of what is on the sheet itself
abbrev pub certificate_rules : List ℕ → Questions
certificate_rules ws = rules_ask (values_of Certificate ws) (gOf Certificate ws) (n_of Certificate ws) (abscissas_of ws)

-- check: 2 to 10
abbrev pub check_asks : List ℕ → Questions
check_asks ws = asked Certificate ws ++ certificate_rules ws

-- 11 of a question: some g meets the rules
pub record Solvable (v : Values) : Type 0 where
  pub g : Seq (Zmod v.p)
  pub meets : Meets (Zmod v.p) (question v) g

-- solve: 1, 2 to 7 of a question, 11
abbrev pub solve_asks : List ℕ → ℕ → Questions
solve_asks ws room = (1, Room room) ∷ asked Question ws ++ (11, Solvable (values_of Question ws)) ∷ []

-- 8 of a kernel sheet: the leading coefficient is 1
abbrev pub Leading : Values → List ℕ → Type 0
Leading v g = poly v.p g (half v) ≡ mk v.p 1

-- 11 of a kernel sheet: some codomain is a curve to which R3 holds
pub record Passing (v : Values) (g : List ℕ) : Type 0 where
  pub Ã : Elt v.p
  pub B̃ : Elt v.p
  pub passes : Passes (Zmod v.p) (question v).A (question v).B (half v) (poly v.p g) Ã B̃

abbrev pub last_ask : Values → List ℕ → Questions
last_ask v g = (8, Leading v g) ∷ (11, Passing v g) ∷ []

-- kernel: 1, 2 to 7 of a kernel sheet, 8, 11
abbrev pub kernel_asks : List ℕ → ℕ → Questions
kernel_asks ws room = (1, Room room) ∷ asked Kernel ws ++ last_ask (values_of Kernel ws) (gOf Kernel ws)

-- 12: the coordinates of an affine point are below p, and they meet the domain's equation; of infinity nothing is asked
pub record OnDomain (v : Values) (x y : ℕ) : Type 0 where
  pub x_below : x < v.p
  pub y_below : y < v.p
  pub on : OnCurve (Zmod v.p) (question v).A (question v).B (mk v.p x) (mk v.p y)

abbrev pub Given : Values → Point → Type 0
Given v (Affine x y) = OnDomain v x y
Given v Infinity = Unit {0}

-- push: what check asks, and 12
abbrev pub push_asks : List ℕ → Point → Questions
push_asks ws point = check_asks ws ++ (12, Given (values_of Certificate ws) point) ∷ []

-- 13: both have the same prime, and the first codomain is the second domain
pub record ComposableValues (v w : Values) : Type 0 where
  pub p : v.p ≡ w.p
  pub a : v.atilde ≡ w.a
  pub b : v.btilde ≡ w.b

-- 14: the degrees' product is not too large, for a sheet and for p
pub record ProductAllowed (v w : Values) : Type 0 where
  pub most : v.degree * w.degree ≤ 255
  pub small : 2 * (v.degree * w.degree) - 1 < v.p

abbrev pub join_asks : Values → Values → Questions
join_asks v w = (13, ComposableValues v w) ∷ (14, ProductAllowed v w) ∷ []

-- compose: 1, what check asks of the first certificate, the same of the second, 13, 14
abbrev pub compose_asks : List ℕ → List ℕ → ℕ → Questions
compose_asks first second room =
    (1, Room room) ∷ check_asks first ++ check_asks second ++ join_asks (values_of Certificate first) (values_of Certificate second)

-- name: 3, 5 and 7 of one curve
abbrev pub name_asks : ℕ → ℕ → ℕ → Questions
name_asks p a b = (3, PrimeAllowed p) ∷ (5, ((a < p) × (b < p))) ∷ (7, Nonsingular (Zmod p) (mk p a) (mk p b)) ∷ []

-- ── what a sheet says, for statements about sheets

-- p
abbrev pub prime : Form → List ℕ → ℕ
prime form ws = (values_of form ws).p

-- the question that it puts, and the polynomials g and N on it
abbrev pub put : (form : Form) (ws : List ℕ) → Rules.Question (Zmod (prime form ws))
put form ws = question (values_of form ws)

abbrev pub g : (form : Form) (ws : List ℕ) → Seq (Zmod (prime form ws))
g form ws = poly (prime form ws) (gOf form ws)

abbrev pub n : (form : Form) (ws : List ℕ) → Seq (Zmod (prime form ws))
n form ws = poly (prime form ws) (n_of form ws)
