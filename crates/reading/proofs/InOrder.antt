-- The kinds that stand in headers, in the order of their numbers.
-- Assumes nothing.
use Rattle.std.proofs.Common.{◌≡◌, ℕ, suc, ◌-◌, ◌<◌, ◌≤◌, List, [], ◌∷◌, get_or, ◌∙◌, arith}
use Rattle.std.proofs.Math.Dec.{eqb, eqb→eq}
use Rattle.sheet.specs.declared.Kind.{Kind}
use Rattle.sheet.specs.declared.Kind.TheVariants.{P, A, B, Atilde, Btilde, Degree, Sigma}
use Rattle.sheet.specs.Code.{code}
use Rattle.sheet.specs.Table.{at}

abbrev kinds : List Kind
kinds = P ∷ A ∷ B ∷ Atilde ∷ Btilde ∷ Degree ∷ Sigma ∷ []

pub in_order : (k : ℕ) → 1 ≤ k → k < 8 → code (get_or kinds (k - 1) P) ≡ k
in_order k from below =
    let last : suc (k - 1) ≡ k = omega (arith, from) in
    eqb→eq _ _ (at (λ i. eqb (code (get_or kinds i P)) (suc i)) 7 tt (k - 1) (omega (arith, from, below))) ∙ last
