-- Fermat's little theorem for a prime known only at run time: xᵖ = x in ℤ/p, and so x^(p − 2) is the inverse of a nonzero x.
-- (1 + x)ᵖ = 1 + xᵖ wherever p = 0 and the numbers below p have inverses; the rest is induction on x.
-- Assumes nothing.
use Rattle.std.specs.Prelude.{◌≡◌, refl, ◌⊎◌, ◌≢◌, ℕ, zero, suc, ◌-◌, ◌<◌}
use Rattle.std.proofs.Math.Path.{sym, ap}
use Rattle.std.proofs.Common.{◌∙◌, subst, inl, inr, arith}
use Rattle.std.proofs.Math.Nat as N
use Rattle.std.proofs.Math.Decide.{dec_lt}
use Rattle.ring.specs.Ring
use Rattle.ring.specs.Ring.{CRing, cast, pow, pow-suc}
use Rattle.ring.specs.Identity.{solve1, solve3}
use Rattle.ring.specs.Identity.Ex.{:0, :1, ◌:+◌, ◌:*◌}
use Rattle.ring.specs.Field.{Inverse, unit_cancel}
use Rattle.series.specs.Series.{Series, Seq, sums, const}
use Rattle.series.specs.Degree.{const_below}
use Rattle.series.specs.Indeterminate.{ind}
use Rattle.series.specs.Value.{value, value_same, value_sums}
use Rattle.series.specs.Binomial.{binomial, binomial_zero, binomial_monic, binomial_value, absorb, monic_power, value_power, ind_monic, ind_value, ind_power}
use Rattle.zmod.specs.Zmod.{Elt, Zmod, mk, mk_add, mk_self, cast_mk, onto, plus, times}
use Rattle.zmod.specs.Prime.{Prime, prime_pos, inverse, cast_inverse}

module _ (R : CRing) (m : ℕ) (char : cast R (suc m) ≡ R.𝟘) (inv : (i : ℕ) → i < m → Inverse R (cast R (suc i))) where
  open R use {Car, 𝟘, 𝟙, add as ◌⊕◌, mul as ◌⊗◌}

  infixl 65 ◌⊕◌
  infixl 70 ◌⊗◌
  -- tᵖ, and 1 + tᵖ
  abbrev tᵖ : Seq R
  tᵖ = pow (Series R) (ind R) (suc m)

  same : (i : ℕ) → binomial R (suc m) i ≡ sums R (const R 𝟙) tᵖ i
  same zero = binomial_zero R (suc m) ∙ sym (ap (λ x. 𝟙 ⊕ x) (ind_power R (suc m) 0 (omega arith)) ∙ R.add-zero 𝟙)
  same (suc i) = go (dec_lt i m)
    where
      rest : (m ≡ i) ⊎ (m < i) → binomial R (suc m) (suc i) ≡ sums R (const R 𝟙) tᵖ (suc i)
      rest (inl e) =
          subst (λ j. binomial R (suc m) (suc j) ≡ 𝟘 ⊕ tᵖ (suc j)) e
          ((binomial_monic R (suc m)).one ∙ sym (Ring.zero-add R _ ∙ (monic_power R (ind R) (ind_monic R) (suc m)).one))
      rest (inr g) =
          (binomial_monic R (suc m)).below (suc i) (omega arith)
          ∙ sym (Ring.zero-add R _ ∙ ind_power R (suc m) (suc i) (omega arith))

      go : Dec (i < m) → binomial R (suc m) (suc i) ≡ sums R (const R 𝟙) tᵖ (suc i)
      go (yes h) =
          unit_cancel R (cast R (suc i)) _ (inv i h) (absorb R m i char)
          ∙ sym (Ring.zero-add R _ ∙ ind_power R (suc m) (suc i) (omega arith))
      go (no h) = rest (N.eq-or-lt_of_le (omega arith))

  pub frobenius : (x : Car) → pow R (𝟙 ⊕ x) (suc m) ≡ 𝟙 ⊕ pow R x (suc m)
  unfolding value
  frobenius x =
      sym (binomial_value R (suc m) x)
      ∙ value_same R (suc (suc m)) (suc (suc m)) (binomial R (suc m)) (sums R (const R 𝟙) tᵖ) x (binomial_monic R (suc m)).below
      (λ i l. sym (same i) ∙ (binomial_monic R (suc m)).below i l) same
      ∙ value_sums R (suc (suc m)) (const R 𝟙) tᵖ x
      ∙ ap (λ y. y ⊕ value R (suc (suc m)) tᵖ x) (value_same R (suc (suc m)) 1 (const R 𝟙) (const R 𝟙) x (λ i l. const_below R 𝟙 i (omega arith))
      (const_below R 𝟙) (λ i. refl))
      ∙ ap (λ y. y ⊕ value R (suc (suc m)) tᵖ x) (solve1 R (λ x. :1 :+ x :* :0) (λ x. :1) tt x)
      ∙ ap (λ y. 𝟙 ⊕ y) (value_power R (ind R) (ind_monic R) (suc m) x ∙ ap (λ y. pow R y (suc m)) (ind_value R x))

-- Fermat's little theorem, for p = m + 1
module _ (m : ℕ) (P : Prime (suc m)) where
  abbrev p : ℕ
  p = suc m

  abbrev R : CRing
  R = Zmod (suc m)

  step : (a : ℕ) → pow R (mk p a) p ≡ mk p a
  step zero = pow-suc R _ m ∙ Ring.zero-mul R _
  step (suc a) =
      ap (λ x. pow R x p) next
      ∙ frobenius R m (cast_mk p p ∙ mk_self (prime_pos P)) (λ i h. cast_inverse P (suc i) (omega arith) (omega arith)) (mk p a)
      ∙ ap (plus p (mk p 1)) (step a) ∙ sym next
    where
      next : mk p (suc a) ≡ plus p (mk p 1) (mk p a)
      next = ap (mk p) (omega arith) ∙ mk_add p 1 a

fermat_at : (p : ℕ) → Prime p → (x : Elt p) → pow (Zmod p) x p ≡ x
fermat_at zero P = absurd (N.not-suc-le-zero P.above_one)
fermat_at (suc m) P = onto (suc m) _ (step m P)

pub fermat : {p : ℕ} → Prime p → (x : Elt p) → pow (Zmod p) x p ≡ x
fermat {p} P = fermat_at p P

-- x · x^(p − 2) = y x · (x · x^(p − 2)) = y xᵖ = y x = 1, where y is an inverse of x
pub fermat_inverse : {p : ℕ} → Prime p → (x : Elt p) → x ≢ mk p 0 → times p x (pow (Zmod p) x (p - 2)) ≡ mk p 1
fermat_inverse {p} P x h =
    let i : Inverse (Zmod p) x = inverse P x h in
    let e : suc (suc (p - 2)) ≡ p = omega arith in
    sym (Ring.one-mul (Zmod p) _) ∙ ap (λ z. times p z (times p x (pow (Zmod p) x (p - 2)))) (sym i.1)
    ∙ solve3 (Zmod p) (λ x y w. x :* y :* (x :* w)) (λ x y w. y :* (x :* (x :* w))) tt x i.0 (pow (Zmod p) x (p - 2))
    ∙ ap (times p i.0)
    (ap (times p x) (sym (pow-suc (Zmod p) x (p - 2))) ∙ sym (pow-suc (Zmod p) x (suc (p - 2))) ∙ ap (pow (Zmod p) x) e ∙ fermat P x)
    ∙ (Zmod p).mul_comm _ _ ∙ i.1
