-- A table of document 01's marked sheets, and of document 02's cases: a row is a sheet, by the numbers that the document lists, with what it says of it;
-- `Claim` states the row in terms of what the services have to answer, or of R2's terms.
-- Assumes nothing.
use Rattle.std.specs.Prelude.{List, [], ◌∷◌, ◌++◌, map, ◌≡◌, ℕ, ◌+◌, ◌*◌, length, drop, Result, Ok, Err}
use Rattle.zmod.specs.Zmod.{Zmod}
use Rattle.series.specs.Series.{Seq}
use Rattle.zmod.specs.Residues.{poly}
use Rattle.isogeny.specs.Rules.{linear_part_of, first_logarithmic_part_of, second_logarithmic_part_of, R3}
use Rattle.sheet.specs.declared.Values.{Values}
use Rattle.sheet.specs.Word.{word}
use Rattle.sheet.specs.Form.{certificate_words}
use Rattle.certificate.specs.Certificate.{certificate}
use Rattle.rules.specs.Words.{Whole}
use Rattle.sheet.specs.Values.{question, half}
use Rattle.questions.specs.declared.refusal.Refusal.{Refusal}
use Rattle.promises.specs.declared.Point.{Point}
use Rattle.promises.specs.Asked.{Room}
use Rattle.promises.specs.Answer.{CheckRight, SolveRight, KernelRight, ComposeRight, PushRight, NameRight}

-- p, A, B, Ã, B̃, ℓ, σ, in the order in which document 01 lists them
abbrev pub Q : ℕ → ℕ → ℕ → ℕ → ℕ → ℕ → ℕ → Values
Q p A B Ã B̃ ℓ σ = record { p = p; a = A; b = B; atilde = Ã; btilde = B̃; degree = ℓ; sigma = σ }

-- Polynomials are lists of coefficients, the constant term first.

-- what is on a certificate
pub record Printed : Type 0 where
  pub values : Values
  pub g : List ℕ
  pub n : List ℕ
  pub abscissas : ℕ

pub data Row : Type 0 where
  -- solve answers the question of the first values with the certificate of the second, g, N and the count of rational abscissas
  solves : Values → Values → List ℕ → List ℕ → ℕ → Row
  -- solve refuses the question
  unsolved : Values → Refusal → Row
  -- through the certificate of g, N and the count, a point goes to a point
  pushes : Values → List ℕ → List ℕ → ℕ → Point → Result Point Refusal → Row
  -- kernel answers the sheet of the first p, A, B, ℓ and g with the certificate of the second values, g, N and the count
  kernel : Values → List ℕ → Values → List ℕ → List ℕ → ℕ → Row
  -- kernel refuses the sheet of p, A, B, ℓ and g; of the values, no others are on the sheet
  no_kernel : Values → List ℕ → Refusal → Row
  -- compose answers the first two certificates with the third
  composes : Printed → Printed → Printed → Row
  -- compose refuses two certificates
  no_composite : Printed → Printed → Refusal → Row
  -- check refuses the certificate of g, N and the count
  refused : Values → List ℕ → List ℕ → ℕ → Refusal → Row
  -- the same, though R3 holds
  refused_though : Values → List ℕ → List ℕ → ℕ → Refusal → Row
  -- name refuses p, A and B
  unnamed : ℕ → ℕ → ℕ → Refusal → Row
  -- R2's N for g has these three parts, in the order of source document 001's formula (13)
  parts : Values → List ℕ → List ℕ → List ℕ → List ℕ → Row

-- ── the words

abbrev pub question_words : Values → List ℕ
question_words v =
    word 1 v.p ∷ word 2 v.a ∷ word 3 v.b ∷ word 4 v.atilde ∷ word 5 v.btilde ∷ word 6 v.degree ∷ word 7 v.sigma ∷ word 15 0 ∷ []

abbrev pub kernel_words : Values → List ℕ → List ℕ
kernel_words v g = word 1 v.p ∷ word 2 v.a ∷ word 3 v.b ∷ word 6 v.degree ∷ map (word 8) g ++ word 15 0 ∷ []

abbrev pub printed_words : Printed → List ℕ
printed_words s = certificate s.values s.g s.n s.abscissas

-- how many words the certificate has, and a certificate in a lent buffer
abbrev pub count : Values → ℕ
count v = certificate_words (half v)

abbrev pub filled : Values → List ℕ → List ℕ → ℕ → List ℕ → List ℕ
filled v g n c before = certificate v g n c ++ drop (count v) before

-- ── what a row says, for every buffer that is large enough where one is lent

-- all 2d + 2 coefficients that N has room for, each below p, and a has no others
abbrev pub Listed : (v : Values) → Seq (Zmod v.p) → List ℕ → Type 0
Listed v a xs = (length xs ≡ 2 * half v + 2) × Whole v.p a xs

unfoldable pub Claim : Row → Type 0
Claim (solves q v g n c) =
    (before : List ℕ) → Room (length before) → SolveRight (question_words q) before (filled v g n c before) (Ok (count v))
Claim (unsolved v q) = (before : List ℕ) → Room (length before) → SolveRight (question_words v) before before (Err q)
Claim (pushes v g n c from to) = PushRight (certificate v g n c) from to
Claim (kernel q h v g n c) =
    (before : List ℕ) → Room (length before) → KernelRight (kernel_words q h) before (filled v g n c before) (Ok (count v))
Claim (no_kernel v g q) = (before : List ℕ) → Room (length before) → KernelRight (kernel_words v g) before before (Err q)
Claim (composes s t u) =
    (before : List ℕ) → Room (length before)
    → ComposeRight (printed_words s) (printed_words t) before (filled u.values u.g u.n u.abscissas before) (Ok (count u.values))
Claim (no_composite s t q) =
    (before : List ℕ) → Room (length before) → ComposeRight (printed_words s) (printed_words t) before before (Err q)
Claim (refused v g n c q) = CheckRight (certificate v g n c) (Err q)
Claim (refused_though v g n c q) =
    CheckRight (certificate v g n c) (Err q) × R3 (Zmod v.p) (question v) (poly v.p g) (poly v.p n)
Claim (unnamed p a b q) = NameRight p a b (Err q)
Claim (parts v g l m n) =
    Listed v (linear_part_of (Zmod v.p) (question v) (poly v.p g)) l
    × Listed v (first_logarithmic_part_of (Zmod v.p) (question v) (poly v.p g)) m
    × Listed v (second_logarithmic_part_of (Zmod v.p) (question v) (poly v.p g)) n
