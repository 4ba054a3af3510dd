-- What a product's coefficient at n depends on: the factors' coefficients up to n. So truncated series multiply,
-- and a factor whose constant term has an inverse is cancelled.
-- Assumes nothing.
use Rattle.std.specs.Prelude.{◌≡◌, refl, ◌⊎◌, ℕ, zero, suc, ◌≤◌, ◌<◌}
use Rattle.std.proofs.Common.{sym, ◌∙◌, ap, ap₂, inl, inr, arith}
use Rattle.std.proofs.Math.Path.{fun_ext}
use Rattle.std.proofs.Math.Nat as N
use Rattle.ring.specs.Ring
use Rattle.ring.specs.Ring.{CRing}
use Rattle.ring.specs.Identity.{solve3}
use Rattle.ring.specs.Identity.Ex.{◌:*◌}
use Rattle.series.specs.Series.{Seq, conv, tail, conv_zero, conv_suc}

module _ (R : CRing) where
  open R use {Car, 𝟘, 𝟙, add as ◌⊕◌, mul as ◌⊗◌, add-zero, mul_comm}

  infixl 65 ◌⊕◌
  infixl 70 ◌⊗◌
  -- a and b have the same coefficients up to n
  abbrev pub Upto : ℕ → Seq R → Seq R → Type 0
  Upto n a b = (i : ℕ) → i ≤ n → a i ≡ b i

  pub conv_local : (n : ℕ) (a a' b b' : Seq R) → Upto n a a' → Upto n b b' → conv R a b n ≡ conv R a' b' n
  conv_local zero a a' b b' ha hb =
      conv_zero R a b ∙ ap₂ ◌⊗◌ (ha 0 (N.le_refl 0)) (hb 0 (N.le_refl 0)) ∙ sym (conv_zero R a' b')
  conv_local (suc n) a a' b b' ha hb =
      conv_suc R a b n
      ∙ ap₂ ◌⊕◌ (ap₂ ◌⊗◌ (ha 0 (omega arith)) (hb (suc n) (N.le_refl _)))
      (conv_local n (tail R a) (tail R a') b b' (λ i h. ha (suc i) (omega arith)) (λ i h. hb i (omega arith)))
      ∙ sym (conv_suc R a' b' n)

  -- where a's constant term has an inverse u, a b = a c gives b = c
  module _ (a : Seq R) (u : Car) (unit : a 0 ⊗ u ≡ 𝟙) (b c : Seq R) (same : (n : ℕ) → conv R a b n ≡ conv R a c n) where
    undo : (x y : Car) → a 0 ⊗ x ≡ a 0 ⊗ y → x ≡ y
    undo x y e = sym (back x) ∙ ap (λ z. u ⊗ z) e ∙ back y
      where
        back : (x : Car) → u ⊗ (a 0 ⊗ x) ≡ x
        back x = solve3 R (λ u a x. u :* (a :* x)) (λ u a x. a :* u :* x) tt u (a 0) x ∙ ap (λ z. z ⊗ x) unit ∙ Ring.one-mul R x

    upto : (n : ℕ) → Upto n b c
    upto zero zero h = undo (b 0) (c 0) (sym (conv_zero R a b) ∙ same 0 ∙ conv_zero R a c)
    upto zero (suc i) h = absurd (omega arith)
    upto (suc n) i h = go (N.eq-or-lt_of_le h) (upto n)
      where
        top : Upto n b c → b (suc n) ≡ c (suc n)
        top ih =
            undo (b (suc n)) (c (suc n))
            (Ring.add_right_cancel R _ _ (conv R (tail R a) b n)
            (sym (conv_suc R a b n) ∙ same (suc n) ∙ conv_suc R a c n
            ∙ ap (λ x. a 0 ⊗ c (suc n) ⊕ x) (sym (conv_local n (tail R a) (tail R a) b c (λ j g. refl) ih))))

        go : (i ≡ suc n) ⊎ (i < suc n) → Upto n b c → b i ≡ c i
        go (inl e) ih = ap b e ∙ top ih ∙ ap c (sym e)
        go (inr g) ih = ih i (omega arith)

    pub conv_cancel : b ≡ c
    conv_cancel = fun_ext λ n. upto n n (N.le_refl n)
