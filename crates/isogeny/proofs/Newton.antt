-- The power sums of a series G with constant term 1: P with D G = −P G, which Newton's identities give term by term.
-- (D = t · d/dt. Where G is g reversed, P is the sum over g's roots ρ of ρ t + ρ² t² + ..)
-- Assumes nothing.
use Rattle.std.specs.Prelude.{◌≡◌}
use Rattle.std.proofs.Math.Path.{refl, ap, fun_ext}
use Rattle.std.proofs.Common.{sym, ◌∙◌, ap₂, arith}
use Prim.Native.Nat.{ℕ, zero, suc}
use Rattle.ring.specs.Ring.{CRing, cast}
use Rattle.ring.specs.Identity.{solve1, solve2}
use Rattle.ring.specs.Identity.Ex.{:0, :1, ◌:+◌, ◌:-◌, ◌:*◌, :-◌}
use Rattle.series.specs.Series as S
use Rattle.series.specs.Series.{Seq, conv, negs, tail, D, D_at, D_zero}
use Rattle.series.specs.Local.{conv_local}
use Rattle.series.specs.Recursion.{Local, fix, fix_is}

module _ (R : CRing) where
  open R use {Car, 𝟘, 𝟙, add as ◌⊕◌, mul as ◌⊗◌, neg}

  infixl 65 ◌⊕◌
  infixl 70 ◌⊗◌
  module _ (G : Seq R) where
    -- P₀ = 0, and P_k = −k G_k − (sum of P_j G_(k − j), j from 0 to k − 1)
    unfoldable pub power_step : ℕ → Seq R → Car
    power_step zero p = 𝟘
    power_step (suc n) p = neg (cast R (suc n) ⊗ G (suc n)) ⊕ neg (conv R p (tail R G) n)

    power_local : Local Car power_step
    unfolding power_step
    power_local zero a b h = refl
    power_local (suc n) a b h =
        ap (λ x. neg (cast R (suc n) ⊗ G (suc n)) ⊕ neg x) (conv_local R n a b (tail R G) (tail R G) (λ i g. h i (omega arith)) (λ i g. refl))

    unfoldable pub powers : Seq R
    powers = fix Car 𝟘 power_step

    powers_is : (n : ℕ) → powers n ≡ power_step n powers
    unfolding powers
    powers_is n = fix_is Car 𝟘 power_step power_local n

    pub powers_zero : powers 0 ≡ 𝟘
    unfolding power_step
    powers_zero = powers_is 0

    pub powers_suc : (n : ℕ) → powers (suc n) ≡ neg (cast R (suc n) ⊗ G (suc n)) ⊕ neg (conv R powers (tail R G) n)
    unfolding power_step
    powers_suc n = powers_is (suc n)

    pub newton : G 0 ≡ 𝟙 → D R G ≡ negs R (conv R powers G)
    newton e = fun_ext go
      where
        go : (n : ℕ) → D R G n ≡ neg (conv R powers G n)
        go zero =
            D_zero R G
            ∙ sym (ap neg (S.conv_zero R powers G ∙ ap (λ x. x ⊗ G 0) powers_zero) ∙ solve1 R (λ x. :- (:0 :* x)) (λ x. :0) tt (G 0))
        go (suc n) =
            D_at R G (suc n)
            ∙ sym (ap neg (S.conv_last R powers G n ∙ ap₂ (λ x y. x ⊗ y ⊕ conv R powers (tail R G) n) (powers_suc n) e)
            ∙ solve2 R (λ x y. :- ((:- x :- y) :* :1 :+ y)) (λ x y. x) tt (cast R (suc n) ⊗ G (suc n)) (conv R powers (tail R G) n))
