-- Primes, which divisors up to the root decide, and that the integers modulo a prime are a field: every element but zero has an inverse, a product is zero
-- only if a factor is, and so Euclid's lemma.
-- The inverse of a is found from that of r = p % a, as −(p / a) · r⁻¹: a well-founded descent, with no greatest common divisor.
-- Assumes nothing.
use Rattle.std.specs.Prelude.{◌≡◌, ◌⊎◌, ◌≢◌, ℕ, zero, suc, ◌*◌, ◌<◌, ◌≤◌, ◌%◌, ◌/◌}
use Rattle.std.proofs.Common.{sym, ◌∙◌, ap, ap₂, subst, inl, inr, arith}
use Rattle.std.specs.Int.{◌∣◌}
use Rattle.std.proofs.Math.Nat as N
use Rattle.std.proofs.Math.Decide.{dec_le}
use Rattle.ring.specs.Ring.{CRing, cast}
use Rattle.ring.specs.Identity.{solve2, solve4}
use Rattle.ring.specs.Identity.Ex.{:0, ◌:+◌, ◌:-◌, ◌:*◌, :-◌}
use Rattle.ring.specs.Field.{Inverse, Field, unit_cancel}
use Rattle.zmod.specs.Zmod.{
  Elt,
  Zmod,
  val,
  mk,
  mk_add,
  mk_mul,
  mk-val,
  mk_eq,
  eq_mk,
  mk_self,
  mk_nonzero,
  cast_mk,
  plus,
  times,
  minus,
  val-lt,
  same?,
  times_one,
}

-- a number above 1 with no divisor between 1 and itself
pub record Prime (p : ℕ) : Type 0 where
  pub above_one : 1 < p
  pub undivided : (d : ℕ) → 1 < d → d < p → d ∣ p → ⊥

pub prime_pos : {p : ℕ} → Prime p → 0 < p
prime_pos P = omega arith

-- a number without a divisor above 1 up to its root is a prime: of two factors one is at most the root
pub root_prime : (p : ℕ) → 1 < p → ((e : ℕ) → 1 < e → e * e ≤ p → e ∣ p → ⊥) → Prime p
root_prime p big none = record { above_one = big; undivided = λ d l m h. go d l m h (dec_le (d * d) p) }
  where
    go : (d : ℕ) → 1 < d → d < p → d ∣ p → Dec (d * d ≤ p) → ⊥
    go d l m h (yes small) = none d l small h
    go d l m h (no large) =
        let q : ℕ = p / d in
        let e : q * d ≡ p = N.div-mul_cancel d h in
        let less : q < d = N.lt_of_mul-lt-mul_right d (subst (λ n. n < d * d) (sym e) (N.lt_of_not-le large)) in
        let more : 1 < q = N.lt_of_mul-lt-mul_right d (subst (λ n. 1 * d < n) (sym e) (subst (λ n. n < p) (sym (N.one-mul d)) m)) in
        none q more (subst (λ n. q * q ≤ n) e (N.mul-le-mul_left q (N.le_of_lt less))) (subst (λ n. q ∣ n) e (N.dvd-mul_right q d))

-- in any ring: from r + a q = 0 and r b = 1, a · −(q b) = 1
pub step : (R : CRing) (a q r b : R.Car) → R.add r (R.mul a q) ≡ R.𝟘 → R.mul r b ≡ R.𝟙 → R.mul a (R.neg (R.mul q b)) ≡ R.𝟙
step R a q r b e f =
    solve4 R (λ a q r b. a :* (:- (q :* b))) (λ a q r b. r :* b :- (r :+ a :* q) :* b) tt a q r b
    ∙ ap₂ (λ x y. R.add x (R.neg (R.mul y b))) f e
    ∙ solve2 R (λ x b. x :- :0 :* b) (λ x b. x) tt R.𝟙 b

module _ {p : ℕ} (P : Prime p) where
  -- p = (p % a) + a (p / a)
  pub quotient : (a : ℕ) → plus p (mk p (p % a)) (times p (mk p a) (mk p (p / a))) ≡ mk p 0
  quotient a =
      ap (λ x. plus p (mk p (p % a)) x) (sym (mk_mul p a (p / a))) ∙ sym (mk_add p (p % a) (a * (p / a)))
      ∙ ap (mk p) (N.mod-add-div p a) ∙ mk_self (prime_pos P)

  inverse_below : (f a : ℕ) → a ≤ f → 0 < a → a < p → Inverse (Zmod p) (mk p a)
  inverse_below zero a h h0 lt = absurd (omega arith)
  inverse_below (suc f) a h h0 lt = go (N.eq-or-lt_of_le h0) (inverse_below f)
    where
      go : (1 ≡ a) ⊎ (1 < a) → ((r : ℕ) → r ≤ f → 0 < r → r < p → Inverse (Zmod p) (mk p r)) → Inverse (Zmod p) (mk p a)
      go (inl e) rec = (mk p 1, ap (λ n. times p (mk p n) (mk p 1)) (sym e) ∙ times_one p (mk p 1))
      go (inr g) rec =
          let r<a : p % a < a = N.mod-lt p h0 in
          let i : Inverse (Zmod p) (mk p (p % a)) = rec (p % a) (omega arith) (N.emod_pos_of_not-dvd a (P.undivided a g lt)) (omega arith) in
          (minus p (times p (mk p (p / a)) i.0), step (Zmod p) (mk p a) (mk p (p / a)) (mk p (p % a)) i.0 (quotient a) i.1)

  pub inverse : (x : Elt p) → x ≢ mk p 0 → Inverse (Zmod p) x
  inverse x h =
      subst (Inverse (Zmod p)) (mk-val p x)
      (inverse_below p (val p x) (N.le_of_lt (val-lt (prime_pos P) x)) (N.pos_of_ne-zero (λ e. h (sym (mk-val p x) ∙ ap (mk p) e))) (val-lt (prime_pos P) x))

  -- the integers from 1 to p − 1 are invertible
  pub cast_nonzero : (n : ℕ) → 0 < n → n < p → cast (Zmod p) n ≢ mk p 0
  cast_nonzero n h l e = mk_nonzero (prime_pos P) n h l (sym (cast_mk p n) ∙ e)

  pub cast_inverse : (n : ℕ) → 0 < n → n < p → Inverse (Zmod p) (cast (Zmod p) n)
  cast_inverse n h l = inverse (cast (Zmod p) n) (cast_nonzero n h l)

  pub Zmod_field : Field (Zmod p)
  Zmod_field = record {
    zero? = λ x. same? p x (mk p 0);
    invert = inverse;
    apart = mk_nonzero (prime_pos P) 1 (omega arith) P.above_one;
  }

  -- no zero divisors
  pub cancel : (x y : Elt p) → x ≢ mk p 0 → times p x y ≡ mk p 0 → y ≡ mk p 0
  cancel x y h = unit_cancel (Zmod p) x y (inverse x h)

  -- Euclid's lemma
  pub euclid : (a b : ℕ) → (p ∣ a → ⊥) → p ∣ a * b → p ∣ b
  euclid a b h d = zero_divides b (cancel (mk p a) (mk p b) (λ e. h (zero_divides a e)) (sym (mk_mul p a b) ∙ divides_zero (a * b) d))
    where
      zero_divides : (n : ℕ) → mk p n ≡ mk p 0 → p ∣ n
      zero_divides n e = N.dvd_of_mod-eq-zero p (eq_mk (prime_pos P) n 0 e ∙ N.zero-mod p)

      divides_zero : (n : ℕ) → p ∣ n → mk p n ≡ mk p 0
      divides_zero n e = mk_eq (prime_pos P) n 0 (N.mod-eq-zero_of_dvd p e ∙ sym (N.zero-mod p))
