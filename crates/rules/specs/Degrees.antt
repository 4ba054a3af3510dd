-- How many words a slice needs to hold a whole derivative or product, or more.
-- Assumes nothing.
use Rattle.std.proofs.Common.{◌∙◌, ap, arith}
use Rattle.std.proofs.Math.Path.{fun_ext}
use Rattle.std.specs.Prelude.{ℕ, zero, suc, ◌+◌, ◌≤◌}
use Rattle.ring.specs.Ring
use Rattle.ring.specs.Ring.{CRing, cast}
use Rattle.series.specs.Series.{Seq, conv, ∂, ∂-at, conv_zeros, conv_comm}
use Rattle.series.specs.Degree.{Below, degree_mul}

module _ (R : CRing) where
  pub below_∂ : {m n : ℕ} (a : Seq R) → m ≤ suc n → Below R m a → Below R n (∂ R a)
  below_∂ a le h i l = ∂-at R a i ∙ ap (R.mul (cast R (suc i))) (h (suc i) (omega arith)) ∙ Ring.mul-zero R _

  -- one coefficient less than both factors have together
  pub below_conv : (m n : ℕ) {k : ℕ} (a b : Seq R) → m + n ≤ suc k → Below R m a → Below R n b → Below R k (conv R a b)
  below_conv zero n a b le h h' i l = ap (λ f. conv R f b i) (fun_ext λ j. h j (omega arith)) ∙ conv_zeros R b i
  below_conv (suc m) zero a b le h h' i l =
      conv_comm R a b i ∙ ap (λ f. conv R f a i) (fun_ext λ j. h' j (omega arith)) ∙ conv_zeros R a i
  below_conv (suc m) (suc n) a b le h h' i l = degree_mul R m n a b h h' i (omega arith)
