-- Series with constant term 1: their powers have it too, they are cancelled, and a product with one begins where the other factor does.
-- Assumes nothing.
use Rattle.std.specs.Prelude.{◌≡◌, refl, ℕ, zero, suc, ◌≤◌, ◌<◌}
use Rattle.std.proofs.Common.{sym, ◌∙◌, ap, ap₂, arith}
use Rattle.std.proofs.Math.Path.{fun_ext}
use Rattle.std.proofs.Math.Decide.{dec_le}
use Rattle.ring.specs.Ring
use Rattle.ring.specs.Ring.{CRing, pow, pow-zero, pow-suc}
use Rattle.series.specs.Series as S
use Rattle.series.specs.Series.{Series, Seq, conv, tail, zeros}
use Rattle.series.specs.Local.{conv_local, conv_cancel}
use Rattle.series.specs.Degree.{Below}

module _ (R : CRing) where
  open R use {Car, 𝟘, 𝟙, add as ◌⊕◌, mul as ◌⊗◌, mul-one, add-zero}

  infixl 65 ◌⊕◌
  infixl 70 ◌⊗◌
  pub pow_first : (a : Seq R) → a 0 ≡ 𝟙 → (n : ℕ) → pow (Series R) a n 0 ≡ 𝟙
  pow_first a e zero = ap (λ f. f 0) (pow-zero (Series R) a)
  pow_first a e (suc n) = ap (λ f. f 0) (pow-suc (Series R) a n) ∙ S.conv_zero R _ _ ∙ ap₂ ◌⊗◌ e (pow_first a e n) ∙ mul-one 𝟙

  pub cancel_first : (a b : Seq R) → a 0 ≡ 𝟙 → conv R a b ≡ zeros R → b ≡ zeros R
  cancel_first a b e z =
      conv_cancel R a 𝟙 (ap (λ x. x ⊗ 𝟙) e ∙ mul-one 𝟙) b (zeros R)
      (λ n. ap (λ f. f n) z ∙ sym (S.conv_comm R a (zeros R) n ∙ S.conv_zeros R a n))

  -- a b at n, where b is zero up to n
  conv_null : (n : ℕ) (a b : Seq R) → ((i : ℕ) → i ≤ n → b i ≡ 𝟘) → conv R a b n ≡ 𝟘
  conv_null n a b h = conv_local R n a a b (zeros R) (λ j m. refl) h ∙ S.conv_comm R a (zeros R) n ∙ S.conv_zeros R a n

  -- where a b is a polynomial of degree n, b is zero if its coefficients up to n are
  pub zero_upto : (n : ℕ) (a b : Seq R) → a 0 ≡ 𝟙 → Below R (suc n) (conv R a b) → ((i : ℕ) → i ≤ n → b i ≡ 𝟘) → b ≡ zeros R
  zero_upto n a b e past h = cancel_first a b e (fun_ext λ i. go i (dec_le i n))
    where
      go : (i : ℕ) → Dec (i ≤ n) → conv R a b i ≡ 𝟘
      go i (yes l) = conv_null i a b (λ j m. h j (omega arith))
      go i (no l) = past i (omega arith)

  -- a b begins where b does
  pub begins : (n : ℕ) (a b : Seq R) → a 0 ≡ 𝟙 → ((i : ℕ) → i < n → b i ≡ 𝟘) → conv R a b n ≡ b n
  begins n a b e h = go n h ∙ ap (λ x. x ⊗ b n) e ∙ Ring.one-mul R (b n)
    where
      go : (n : ℕ) → ((i : ℕ) → i < n → b i ≡ 𝟘) → conv R a b n ≡ a 0 ⊗ b n
      go zero h = S.conv_zero R a b
      go (suc n) h = S.conv_suc R a b n ∙ ap (λ x. a 0 ⊗ b (suc n) ⊕ x) (conv_null n (tail R a) b (λ j m. h j (omega arith))) ∙ add-zero _
