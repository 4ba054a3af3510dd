-- Integers that can be cancelled in a ring: k x = 0 gives x = 0. Modulo a prime p these are all from 1 to p − 1, and from there to 2 p − 1 all but p.
-- Assumes nothing.
use Rattle.std.specs.Prelude.{◌≢◌, ◌≡◌, ℕ, ◌*◌, ◌-◌, ◌≤◌, ◌<◌, ◌%◌}
use Rattle.std.proofs.Common.{sym, ◌∙◌, ap, arith}
use Rattle.std.proofs.Math.Decide.{dec_le}
use Rattle.std.proofs.Math.Nat as Nat
use Rattle.ring.specs.Ring
use Rattle.ring.specs.Ring.{CRing, cast}
use Rattle.ring.specs.Identity.{solve3}
use Rattle.ring.specs.Identity.Ex.{◌:-◌, ◌:*◌}
use Rattle.zmod.specs.Zmod.{Zmod, eq_mk, cast_mk}
use Rattle.zmod.specs.Prime.{Prime, prime_pos, cancel}

-- for k from 1 to n; for all of them but e
abbrev pub Cancels : CRing → ℕ → Type 0
Cancels R n = (k : ℕ) → 1 ≤ k → k ≤ n → (x : R.Car) → R.mul (cast R k) x ≡ R.𝟘 → x ≡ R.𝟘

abbrev pub CancelsBut : CRing → ℕ → ℕ → Type 0
CancelsBut R n e = (k : ℕ) → 1 ≤ k → k ≤ n → k ≢ e → (x : R.Car) → R.mul (cast R k) x ≡ R.𝟘 → x ≡ R.𝟘

-- k x = k y gives x = y
pub cancel_same : (R : CRing) (n : ℕ) → Cancels R n → (k : ℕ) → 1 ≤ k → k ≤ n → (x y : R.Car) → R.mul (cast R k) x ≡ R.mul (cast R k) y → x ≡ y
cancel_same R n cancels k l m x y e =
    Ring.sub-zero R x y
    (cancels k l m (R.add x (R.neg y))
    (solve3 R (λ k x y. k :* (x :- y)) (λ k x y. k :* x :- k :* y) tt (cast R k) x y
    ∙ ap (λ z. R.add z (R.neg (R.mul (cast R k) y))) e ∙ R.add-neg _))

module _ {p : ℕ} (P : Prime p) where
  -- below 2 p only 0 and p are zero
  nonzero : (k : ℕ) → 1 ≤ k → k < 2 * p → k ≢ p → cast (Zmod p) k ≢ (Zmod p).𝟘
  nonzero k l h ne z = go (dec_le p k)
    where
      r : k % p ≡ 0 % p
      r = eq_mk (prime_pos P) k 0 (sym (cast_mk p k) ∙ z)

      n : 0 % p ≡ 0
      n = Nat.zero-mod p

      go : Dec (p ≤ k) → ⊥
      go (yes b) =
          let s : k % p ≡ (k - p) % p = Nat.mod-eq-sub-mod b in
          let t : (k - p) % p ≡ k - p = Nat.mod-eq_of_lt (omega arith) in
          omega (arith, r, n)
      go (no b) =
          let s : k % p ≡ k = Nat.mod-eq_of_lt (omega arith) in
          omega (arith, r, n)

  pub cancels : (n : ℕ) → n < p → Cancels (Zmod p) n
  cancels n small k l h x = cancel P (cast (Zmod p) k) x (nonzero k l (omega arith) (omega arith))

  pub cancels_but : (n : ℕ) → n < 2 * p → CancelsBut (Zmod p) n p
  cancels_but n small k l h ne x = cancel P (cast (Zmod p) k) x (nonzero k l (omega arith) ne)
