-- Document 01's marked sheets (◆ there) and document 02's cases of E1, E2, E5 and E6 as one table, with neighbours that neither document has, and the one
-- theorem that covers it: every row holds, from the rules, by computing.
-- Assumes nothing.
use Rattle.std.specs.Prelude.{Bool, true, List, [], ◌∷◌, ℕ, T, Ok}
use Rattle.ring.specs.Test.{both, both_left, both_right}
use Rattle.sheet.specs.declared.Values.{Values}
use Rattle.promises.specs.declared.Point.TheVariants as point
use Rattle.questions.specs.declared.refusal.Refusal.TheVariants as refusal
use Rattle.marked.specs.Rules.{numerator}
use Rattle.marked.specs.Row.{Row, Q, Printed, Claim}
use Rattle.marked.specs.Row.Row.{solves, unsolved, pushes, kernel, no_kernel, composes, no_composite, refused, refused_though, unnamed, parts}
use Rattle.marked.specs.Holds.{test, row_holds}

-- the first marked question, over 1009: g = x − 23, N = x³ + 963x² + 678x + 949
abbrev pub first : Values
first = Q 1009 1 3 265 877 3 46

abbrev pub first_g : List ℕ
first_g = 986 ∷ 1 ∷ []

abbrev first_n : List ℕ
first_n = 949 ∷ 678 ∷ 963 ∷ 1 ∷ []

-- the three parts of this N, as document 02 has them in E5
abbrev pub part₁ : List ℕ
part₁ = 891 ∷ 676 ∷ 825 ∷ 3 ∷ []

abbrev pub part₂ : List ℕ
part₂ = 46 ∷ 1007 ∷ 138 ∷ 1003 ∷ []

abbrev pub part₃ : List ℕ
part₃ = 12 ∷ 4 ∷ 0 ∷ 4 ∷ []

-- the one of degree 9: g = x⁴ + 2x² + 12x + 336, and N is R2's
abbrev ninth : Values
ninth = Q 1009 1 3 81 169 9 0

abbrev ninth_g : List ℕ
ninth_g = 336 ∷ 12 ∷ 2 ∷ 0 ∷ 1 ∷ []

-- the same curve over 1013, where the points of order 3 have no rational abscissa
abbrev none : Values
none = Q 1013 1 3 81 161 9 0

abbrev none_g : List ℕ
none_g = 675 ∷ 12 ∷ 2 ∷ 0 ∷ 1 ∷ []

-- a question over 11 for g = x², which has its root twice
abbrev twice : Values
twice = Q 11 0 1 0 1 5 0

-- the one over 11: g = x, N = x³ + 4
abbrev eleven : Values
eleven = Q 11 0 1 0 6 3 0

abbrev x : List ℕ
x = 0 ∷ 1 ∷ []

abbrev x² : List ℕ
x² = 0 ∷ 0 ∷ 1 ∷ []

abbrev x³+4 : List ℕ
x³+4 = 4 ∷ 0 ∷ 0 ∷ 1 ∷ []

-- E1's certificates: the first marked one, the step behind it with g = x + 69 and R2's N = x³ + 138x² + 560x + 394, and the one of degree 9
abbrev first_step : Printed
first_step = record { values = first; g = first_g; n = first_n; abscissas = 1 }

abbrev second_step : Printed
second_step = record { values = Q 1009 265 877 81 169 3 871; g = 69 ∷ 1 ∷ []; n = 394 ∷ 560 ∷ 138 ∷ 1 ∷ []; abscissas = 1 }

abbrev both_steps : Printed
both_steps = record { values = ninth; g = ninth_g; n = numerator ninth ninth_g; abscissas = 1 }

-- g = x over 11 from (0, 1) to (0, 6) and from there to (0, 3), and over 29 from (0, 6) to (0, 12)
abbrev on_11 : Printed
on_11 = record { values = eleven; g = x; n = x³+4; abscissas = 1 }

abbrev behind_11 : Printed
behind_11 = record { values = Q 11 0 6 0 3 3 0; g = x; n = 2 ∷ 0 ∷ 0 ∷ 1 ∷ []; abscissas = 1 }

abbrev on_29 : Printed
on_29 = record { values = Q 29 0 6 0 12 3 0; g = x; n = 24 ∷ 0 ∷ 0 ∷ 1 ∷ []; abscissas = 1 }

unfoldable pub rows : List Row
rows =
    solves first first first_g first_n 1
    -- another σ, then another B̃: 11 each
    ∷ unsolved (Q 1009 1 3 265 877 3 48) refusal.NoIsogeny
    ∷ unsolved (Q 1009 1 3 265 878 3 46) refusal.NoIsogeny
    ∷ solves ninth ninth ninth_g (numerator ninth ninth_g) 1
    -- a point through the first certificate
    ∷ pushes first first_g first_n 1 (point.Affine 1008 1) (Ok (point.Affine 617 44))
    ∷ solves eleven eleven x x³+4 1
    -- two points through the last certificate, the second where g is 0
    ∷ pushes eleven x x³+4 1 (point.Affine 2 3) (Ok (point.Affine 3 0))
    ∷ pushes eleven x x³+4 1 (point.Affine 0 1) (Ok point.Infinity)
    -- the kernel sheet of g = x over 11 gets the codomain (0, 6)
    ∷ kernel eleven x eleven x x³+4 1
    -- beside it, not marked there: the same with g = x − 1 gets 11; Ã, B̃ and σ are not on a kernel sheet
    ∷ no_kernel (Q 11 0 1 0 0 3 0) (10 ∷ 1 ∷ []) refusal.NoIsogeny
    -- g = x − 1 with an N that meets R3 and not R2
    ∷ refused_though (Q 11 0 1 0 1 3 2) (10 ∷ 1 ∷ []) (0 ∷ 1 ∷ 9 ∷ 1 ∷ []) 1 refusal.Numerator
    -- g = x with R2's N, to a wrong codomain
    ∷ refused (Q 11 0 1 0 7 3 0) x x³+4 1 refusal.Equation
    -- document 02, E2: A = p is read as A = 0; all values are taken modulo p, A = 2^28 − 1 among them; 7 is asked of what they become
    ∷ solves (Q 11 11 1 0 6 3 0) eleven x x³+4 1
    ∷ solves (Q 29 268435455 30 29 31 3 58) (Q 29 0 1 0 2 3 0) x x³+4 1
    ∷ unsolved (Q 11 11 22 0 6 3 0) refusal.Singular
    -- every value of a kernel sheet, a leading coefficient p + 1 among them
    ∷ kernel (Q 11 11 12 0 0 3 0) (268435453 ∷ 12 ∷ []) eleven x x³+4 1
    -- a certificate needs values below p, in the header and after it, and so does name
    ∷ refused (Q 11 11 1 0 6 3 0) x x³+4 1 refusal.Values
    ∷ refused eleven (11 ∷ 1 ∷ []) x³+4 1 refusal.Words
    ∷ unnamed 11 11 1 refusal.Values
    -- E6: a kernel with no rational abscissa
    ∷ solves none none none_g (numerator none none_g) 0
    -- a count that is wrong by one, by p, d in its place, or the largest value of a word; 9 also where R3 fails beside it
    ∷ refused first first_g first_n 0 refusal.Numerator
    ∷ refused first first_g first_n 2 refusal.Numerator
    ∷ refused first first_g first_n 1010 refusal.Numerator
    ∷ refused ninth ninth_g (numerator ninth ninth_g) 4 refusal.Numerator
    ∷ refused eleven x x³+4 268435455 refusal.Numerator
    ∷ refused (Q 11 0 1 0 7 3 0) x x³+4 0 refusal.Numerator
    -- a root is counted once, also where g has it twice: the count 2 is wrong, and with 1 it is R3 that fails
    ∷ refused twice x² (numerator twice x²) 2 refusal.Numerator
    ∷ refused twice x² (numerator twice x²) 1 refusal.Equation
    -- E1: the first marked sheet, and the step behind it, give the one of degree 9; in the other order they do not meet
    ∷ composes first_step second_step both_steps
    ∷ no_composite second_step first_step refusal.Joint
    -- curves that agree in Ã alone, and in both values over another prime; and a product of degrees that is too large for 11
    ∷ no_composite on_11 on_11 refusal.Joint
    ∷ no_composite on_11 on_29 refusal.Joint
    ∷ no_composite on_11 behind_11 refusal.Product
    -- E5: the parts of the first one's N
    ∷ parts first first_g part₁ part₂ part₃
    ∷ []

-- a property of every row
abbrev pub All : (Row → Type 0) → List Row → Type 0
All P [] = Unit {0}
All P (r ∷ rs) = P r × All P rs

abbrev tests : List Row → Bool
tests [] = true
tests (r ∷ rs) = both (test r) (tests rs)

all_hold : (rs : List Row) → T (tests rs) → All Claim rs
all_hold [] t = tt
all_hold (r ∷ rs) t = (row_holds r (both_left (test r) (tests rs) t), all_hold rs (both_right (test r) (tests rs) t))

pub all_marked : All Claim rows
unfolding rows
all_marked = all_hold rows tt

-- its last row by itself
pub first_parts : Claim (parts first first_g part₁ part₂ part₃)
first_parts = row_holds (parts first first_g part₁ part₂ part₃) tt
