-- What R1 alone gives of the expansion at infinity: the power sums begin ℓ − 1, σ, and N / (x g²) begins 1 + 0 t.
-- Assumes nothing.
use Rattle.std.specs.Prelude.{◌≡◌, ℕ, suc, ◌+◌, ◌*◌, ◌-◌, ◌≤◌}
use Rattle.std.proofs.Math.Path.{sym, ap}
use Rattle.std.proofs.Common.{◌∙◌, ap₂, arith}
use Rattle.ring.specs.Ring
use Rattle.ring.specs.Ring.{CRing, cast, cast_add, cast_mul}
use Rattle.ring.specs.Identity.{solve1}
use Rattle.ring.specs.Identity.Ex.{num, :0, :1, ◌:+◌, ◌:-◌, ◌:*◌, :-◌}
use Rattle.series.specs.Series as S
use Rattle.series.specs.Series.{Seq, const, tail}
use Rattle.series.specs.Indeterminate.{conv_cast, cast_series}
use Rattle.series.specs.Reversal.{rev, rev_at}
use Rattle.isogeny.specs.Rules.{Question, R1}
use Rattle.isogeny.proofs.Numerator.{power}
use Rattle.isogeny.proofs.Newton.{powers, powers_zero, powers_suc}
use Rattle.isogeny.proofs.Infinity.{quot, reversed, power_sums_of}
use Rattle.isogeny.proofs.Coefficients as C

module _ (R : CRing) (q : Question R) (d≥1 : 1 ≤ q.d) (g : Seq R) (r1 : R1 R q g) where
  open q use {d, σ}
  open R use {Car, 𝟘, 𝟙, add as ◌⊕◌, mul as ◌⊗◌, neg}

  infixl 65 ◌⊕◌ ◌⊖◌
  infixl 70 ◌⊗◌
  infix 80 #◌
  abbrev ◌⊖◌ : Car → Car → Car
  a ⊖ b = a ⊕ neg b

  abbrev #◌ : ℕ → Car
  # n = cast R n

  abbrev G : Seq R
  G = reversed R q g

  abbrev P : Seq R
  P = powers R G

  abbrev p : Seq R
  p = power_sums_of R q g

  abbrev u : Seq R
  u = quot R q p

  p_at : (i : ℕ) → p i ≡ # 2 ⊗ (const R (# d) i ⊕ P i)
  unfolding power_sums_of power
  p_at i = conv_cast R 2 _ i ∙ ap (λ f. # 2 ⊗ (f i ⊕ P i)) (cast_series R d)

  pub p_zero : p 0 ≡ # (2 * d)
  p_zero =
      p_at 0 ∙ ap (λ x. # 2 ⊗ (# d ⊕ x)) (powers_zero R G) ∙ solve1 R (λ x. num 2 :* (x :+ :0)) (λ x. num 2 :* x) tt (# d)
      ∙ sym (cast_mul R 2 d)

  pub p_suc : (i : ℕ) → p (suc i) ≡ # 2 ⊗ P (suc i)
  p_suc i = p_at (suc i) ∙ ap (λ x. # 2 ⊗ x) (Ring.zero-add R _)

  -- d - 1 is the number before d
  before : d ≡ (d - 1) + 1
  before = omega arith

  pub p_one : p 1 ≡ σ
  unfolding reversed
  p_one =
      p_suc 0
      ∙ ap (λ x. # 2 ⊗ x) (powers_suc R G 0 ∙ ap (λ x. neg (# 1 ⊗ G 1) ⊖ x) (S.conv_zero R P (tail R G) ∙ ap (λ x. x ⊗ G 1) (powers_zero R G)))
      ∙ solve1 R (λ y. num 2 :* (:- (num 1 :* y) :- :0 :* y)) (λ y. :- (num 2 :* y)) tt (G 1)
      ∙ ap (λ x. neg (# 2 ⊗ x)) (ap (λ n. rev R n g 1) before ∙ rev_at R (d - 1) 1 g) ∙ sym r1.sigma

  pub u_zero : u 0 ≡ 𝟙
  u_zero = C.u_zero R q p ∙ ap₂ ◌⊖◌ (cast_add R (2 * d) 1) p_zero ∙ solve1 R (λ x. x :+ num 1 :- x) (λ x. :1) tt (# (2 * d))

  pub u_one : u 1 ≡ 𝟘
  u_one = C.u_one R q p ∙ ap (λ x. x ⊖ σ) p_one ∙ R.add-neg σ
