-- What a kernel sheet puts and gets: a domain (A, B) and a kernel polynomial g of degree d, from which σ is taken and the codomain is found.
-- Assumes nothing.
use Rattle.std.specs.Prelude.{ℕ, ◌-◌}
use Rattle.ring.specs.Ring.{CRing, cast}
use Rattle.series.specs.Series.{Seq}
use Rattle.isogeny.specs.Curve.{Nonsingular}
use Rattle.isogeny.specs.Rules.{Question, R3, N}
use Rattle.isogeny.specs.Expansion.{from_sums}

module _ (R : CRing) (A B : R.Car) where
  open R use {Car, add as ◌⊕◌, mul as ◌⊗◌, neg}

  infixl 65 ◌⊕◌ ◌⊖◌
  infixl 70 ◌⊗◌
  infix 80 #◌
  abbrev ◌⊖◌ : Car → Car → Car
  a ⊖ b = a ⊕ neg b

  abbrev #◌ : ℕ → Car
  # n = cast R n

  -- the question to a codomain (Ã, B̃), with the σ that R1 asks of g (question 8)
  abbrev pub kernel_question : ℕ → Seq R → Car → Car → Question R
  kernel_question d g Ã B̃ = record { A = A; B = B; Ã = Ã; B̃ = B̃; d = d; σ = neg (# 2 ⊗ g (d - 1)) }

  -- question 11 of a kernel sheet, for one codomain: it is a curve, and R3 holds to it
  abbrev pub Passes : ℕ → Seq R → Car → Car → Type 0
  Passes d g Ã B̃ = Nonsingular R Ã B̃ × R3 R (kernel_question d g Ã B̃) g (N R (kernel_question d g Ã B̃) g)

  -- Vélu's codomain: Ã = A − 5h₁ and B̃ = B − 7h₂, with h₁ and h₂ from the power sums s of g
  abbrev pub codomain_A : Seq R → Car
  codomain_A s = A ⊖ # 5 ⊗ from_sums R A B s 1

  abbrev pub codomain_B : Seq R → Car
  codomain_B s = B ⊖ # 7 ⊗ from_sums R A B s 2
