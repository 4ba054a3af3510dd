-- That the rules are met where they should be, and not beside it: the first marked question of document 01 has its g and N, and with σ = 48 in place of
-- 46 no polynomial meets the rules.
-- Assumes nothing.
use Rattle.std.specs.Prelude.{◌≡◌, List, [], ◌∷◌, ℕ}
use Rattle.std.proofs.Common.{lit<}
use Rattle.series.specs.Series.{Seq}
use Rattle.zmod.specs.Zmod.{Zmod}
use Rattle.zmod.specs.Residues.{poly}
use Rattle.zmod.specs.Calculation.{prime_yes}
use Rattle.isogeny.specs.Rules.{N, Meets}
use Rattle.sheet.specs.declared.Values.{Values}
use Rattle.sheet.specs.Values.{question}
use Rattle.marked.specs.Rules.{R2_by_computing, meets_by_computing, none_by_computing}

-- Q 1009, 1, 3, 265, 877, 3, σ
abbrev first : ℕ → Values
first σ = record { p = 1009; a = 1; b = 3; atilde = 265; btilde = 877; degree = 3; sigma = σ }

-- x − 23, and x³ + 963x² + 678x + 949
abbrev g : List ℕ
g = 986 ∷ 1 ∷ []

abbrev n : List ℕ
n = 949 ∷ 678 ∷ 963 ∷ 1 ∷ []

pub first_N : poly 1009 n ≡ N (Zmod 1009) (question (first 46)) (poly 1009 g)
first_N = R2_by_computing (first 46) g n (lit< tt) tt

pub first_meets : Meets (Zmod 1009) (question (first 46)) (poly 1009 g)
first_meets = meets_by_computing (first 46) g n (lit< tt) tt

pub shifted_none : (h : Seq (Zmod 1009)) → Meets (Zmod 1009) (question (first 48)) h → ⊥
shifted_none = none_by_computing (first 48) (prime_yes 1009 tt) (lit< tt) tt
