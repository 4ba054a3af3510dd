-- What R3 makes of the expansion of a g that meets R1: 5 h₁ = A − Ã, 7 h₂ = B − B̃ and document 01's recurrence, for every k from 3 on. Nothing is
-- divided by.
-- Assumes nothing.
use Rattle.std.specs.Prelude.{◌≡◌, ℕ, zero, suc, ◌+◌, ◌*◌, ◌-◌, ◌≤◌}
use Rattle.std.proofs.Common.{sym, ◌∙◌, ap, ap₂, arith}
use Rattle.std.proofs.Math.Path.{fun_ext}
use Rattle.ring.specs.Ring.{CRing, cast}
use Rattle.series.specs.Series.{Series, Seq, Euler, const, tail, zeros}
use Rattle.series.specs.ConstantTerm.{cancel_first}
use Rattle.series.specs.Indeterminate.{ind, D_ind, D_const}
use Rattle.isogeny.specs.Rules.{Question, R1, R3, N}
use Rattle.isogeny.specs.Expansion.{sum_to, recurrence, Recurs, power_sums_of, expansion, Short}
use Rattle.isogeny.proofs.Equation as E
use Rattle.isogeny.proofs.Infinity as I
use Rattle.isogeny.proofs.Infinity.{quot, Ψ}
use Rattle.isogeny.proofs.Recurrence as Rec
use Rattle.isogeny.proofs.ExpansionAtInfinity as X
use Rattle.isogeny.proofs.Sums.{square_from, h_is, h_series}

module _ (R : CRing) (q : Question R) (d≥1 : 1 ≤ q.d) (g : Seq R) (r1 : R1 R q g) where
  open q use {A, B, Ã, B̃, d}
  open R use {Car, 𝟘, 𝟙, add as ◌⊕◌, mul as ◌⊗◌, neg}

  infixl 65 ◌⊕◌ ◌⊖◌
  infixl 70 ◌⊗◌
  infix 80 #◌
  abbrev ◌⊖◌ : Car → Car → Car
  a ⊖ b = a ⊕ neg b

  abbrev #◌ : ℕ → Car
  # n = cast R n

  abbrev u : Seq R
  u = quot R q (I.power_sums_of R q g)

  abbrev h : Seq R
  h = expansion R A B (power_sums_of R d g)

  pub u_first : u 0 ≡ 𝟙
  u_first = X.u_zero R q d≥1 g r1

  pub u_second : u 1 ≡ 𝟘
  u_second = X.u_one R q d≥1 g r1

  -- ── document 01's recurrence at k = j + 3 is that of `Recurrence`

  module _ (j : ℕ) where
    abbrev k : ℕ
    k = suc (suc (suc j))

    pub left_is : # (k - 2) ⊗ # (2 * k + 3) ⊗ h k ≡ # (suc j) ⊗ # (2 * j + 9) ⊗ u (suc k)
    left_is =
        ap₂ (λ m n. # m ⊗ # n ⊗ h k) (omega arith) (omega arith) ∙ ap (λ x. # (suc j) ⊗ # (2 * j + 9) ⊗ x) (h_is R q d≥1 g r1 k)

    pub right_is : recurrence R A B h k ≡ Rec.right R q u j
    right_is =
        ap₂ (λ l m. # 3 ⊗ sum_to R (λ i. h i ⊗ h (l - i)) m ⊖ # m ⊗ # (2 * k - 3) ⊗ A ⊗ h m ⊖ # 2 ⊗ # m ⊗ # (k - 3) ⊗ B ⊗ h (k - 3))
        (omega arith) (omega arith)
        ∙ ap₂ (λ m n. # 3 ⊗ sum_to R (λ i. h i ⊗ h (suc (suc j) - i)) (suc j) ⊖ # (suc j) ⊗ # m ⊗ A ⊗ h (suc j) ⊖ # 2 ⊗ # (suc j) ⊗ # n ⊗ B ⊗ h n)
        (omega arith) (omega arith)
        ∙ ap (λ a. # 3 ⊗ sum_to R (λ i. a i ⊗ a (suc (suc j) - i)) (suc j) ⊖ # (suc j) ⊗ # (2 * j + 3) ⊗ A ⊗ a (suc j) ⊖ # 2 ⊗ # (suc j) ⊗ # j ⊗ B ⊗ a j)
        (h_series R q d≥1 g r1)
        ∙ ap (λ x. # 3 ⊗ x ⊖ # (suc j) ⊗ # (2 * j + 3) ⊗ A ⊗ u (suc (suc j)) ⊖ # 2 ⊗ # (suc j) ⊗ # j ⊗ B ⊗ u (suc j))
        (sym (square_from R (tail R u) (suc j) u_second))

  -- ── from R3

  module _ (r3 : R3 R q g (N R q g)) where
    abbrev Φ_zero : I.Φ R q u ≡ zeros R
    Φ_zero = I.Φ_zero R q g r1 r3

    pub Ψ_zero : Ψ R q u ≡ zeros R
    Ψ_zero =
        cancel_first R _ _ (Rec.v_first R q u u_first)
        (E.differentiated (Series R) (Euler R) (ind R) (const R A) (const R B) (const R Ã) (const R B̃) u
        (D_ind R) (fun_ext (D_const R A)) (fun_ext (D_const R B)) (fun_ext (D_const R Ã)) (fun_ext (D_const R B̃)) Φ_zero)

    pub first : # 5 ⊗ h 1 ≡ A ⊖ Ã
    first = ap (λ y. # 5 ⊗ y) (h_is R q d≥1 g r1 1) ∙ Rec.first R q u u_first u_second Φ_zero

    pub second : # 7 ⊗ h 2 ≡ B ⊖ B̃
    second = ap (λ y. # 7 ⊗ y) (h_is R q d≥1 g r1 2) ∙ Rec.second R q u u_first u_second Φ_zero

    pub recurs : (k : ℕ) → 3 ≤ k → Recurs R A B h k
    recurs zero l = absurd (omega arith)
    recurs (suc zero) l = absurd (omega arith)
    recurs (suc (suc zero)) l = absurd (omega arith)
    recurs (suc (suc (suc j))) l = left_is j ∙ Rec.recurrence R q u u_first Ψ_zero j ∙ sym (right_is j)

    pub conditions : Short R q (expansion R A B (power_sums_of R d g))
    conditions = record { first = first; second = second; recurs = λ k l m. recurs k l }
