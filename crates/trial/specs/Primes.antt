-- Prime divisors: every number above 1 has one, and one that is composite has one up to its root; what the ends of a run of trials say.
-- Assumes nothing.
use Rattle.std.specs.Prelude.{◌≡◌, ◌↔◌, true, ℕ, zero, suc, ◌+◌, ◌-◌, ◌*◌, ◌%◌, ◌≤◌, ◌<◌, eqb}
use Rattle.std.proofs.Common.{ap, subst, arith, eqb-true, eq-eqb}
use Rattle.std.specs.Int.{◌∣◌}
use Rattle.std.proofs.Math.Nat as N
use Rattle.std.proofs.Math.Decide.{dec_lt, ℕ_discrete}
use Rattle.zmod.specs.Prime.{Prime, root_prime}
use Rattle.trial.specs.Divisors.{Odd, Undivided}

-- an even number divides no odd one
even_divides : (k n : ℕ) → k % 2 ≡ 0 → Odd n → k ∣ n → ⊥
even_divides k n e h d =
    let z : n % 2 ≡ 0 = N.mod-eq-zero_of_dvd 2 (N.dvd_trans 2 (N.dvd_of_mod-eq-zero 2 e) d) in
    omega arith

-- a prime above 2 is odd
pub odd_prime : {q : ℕ} → Prime q → 2 < q → Odd q
odd_prime {q} P h = go (ℕ_discrete (q % 2) 0)
  where
    go : Dec (q % 2 ≡ 0) → Odd q
    go (yes e) = absurd (P.undivided 2 (omega arith) h (N.dvd_of_mod-eq-zero 2 e))
    go (no ne) = omega arith

-- a prime divisor of an odd number is above 2
pub odd_divisor : {q : ℕ} (n : ℕ) → Prime q → Odd n → q ∣ n → 2 < q
odd_divisor {q} n P h dv = go (ℕ_discrete q 2)
  where
    go : Dec (q ≡ 2) → 2 < q
    go (yes e) = absurd (even_divides q n (ap (λ x. x % 2) e) h dv)
    go (no ne) = omega (arith, P.above_one)

-- ── the least divisor above 1 is a prime

abbrev PrimeDivisor : ℕ → Type 0
PrimeDivisor k = (q : ℕ) × Prime q × (q ∣ k)

-- no number above 1 and below d divides k
abbrev Clear : ℕ → ℕ → Type 0
Clear d k = (x : ℕ) → 1 < x → x < d → x ∣ k → ⊥

clear_next : (d k : ℕ) → Clear d k → (k % d ≡ 0 → ⊥) → Clear (suc d) k
clear_next d k below here x lo hi dv = go (ℕ_discrete x d)
  where
    go : Dec (x ≡ d) → ⊥
    go (yes e) = here (subst (λ m. k % m ≡ 0) e (N.mod-eq-zero_of_dvd x dv))
    go (no ne) = below x lo (omega arith) dv

least : (f d k : ℕ) → d + f ≡ k → 1 < d → Clear d k → PrimeDivisor k
least zero d k e lo c = (k, record { above_one = omega arith; undivided = λ x l h dv. c x l (omega arith) dv }, N.dvd_refl k)
least (suc f) d k e lo c = go (ℕ_discrete (k % d) 0) (least f (suc d) k (omega arith) (omega arith))
  where
    go : Dec (k % d ≡ 0) → (Clear (suc d) k → PrimeDivisor k) → PrimeDivisor k
    go (yes z) rec =
        let dv : d ∣ k = N.dvd_of_mod-eq-zero d z in
        (d, record { above_one = lo; undivided = λ x l h xd. c x l h (N.dvd_trans x xd dv) }, dv)
    go (no z) rec = rec (clear_next d k c z)

prime_divisor : (k : ℕ) → 1 < k → PrimeDivisor k
prime_divisor k h = least (k - 2) 2 k (omega arith) (omega arith) (λ x l u. absurd (omega arith))

-- ── up to the root

pub square_le : (a b : ℕ) → a ≤ b → a * a ≤ b * b
square_le a b h = N.mul-le-mul {n₁ = a} {m₁ = a} {n₂ = b} {m₂ = b} h h

-- what is smaller by its square is smaller
pub square_lt : (a b : ℕ) → a * a < b * b → a < b
square_lt a b h = go (dec_lt a b)
  where
    go : Dec (a < b) → a < b
    go (yes l) = l
    go (no l) = absurd (omega (arith, h, square_le b a (omega arith)))

-- a divisor above 1 whose square is at most n is below n
pub below_square : (q n : ℕ) → 1 < q → q * q ≤ n → q < n
below_square q n lo h = omega (arith, N.mul-le-mul_left q lo)

-- a number without a prime divisor up to its root is a prime
pub without_primes : (n : ℕ) → 1 < n → ((q : ℕ) → Prime q → q * q ≤ n → q ∣ n → ⊥) → Prime n
without_primes n big none = root_prime n big (λ e lo sq dv. found e lo sq dv (prime_divisor e lo))
  where
    found : (e : ℕ) → 1 < e → e * e ≤ n → e ∣ n → PrimeDivisor e → ⊥
    found e lo sq dv (q, Q, qe) =
        none q Q (omega (arith, sq, square_le q e (N.le_of_dvd (omega arith) qe))) (N.dvd_trans q qe dv)

-- ── the ends of the runs

pub prime_undivided : (a b : ℕ) {n : ℕ} → Prime n → Undivided a b n
prime_undivided a b P q Q lo hi (dv, lt) = P.undivided q Q.above_one lt dv

-- the bound's square is above n
pub undivided_prime : (b n : ℕ) → Odd n → 1 < n → n < b * b → Undivided 2 b n → Prime n
undivided_prime b n on big root u =
    without_primes n big
    (λ q Q sq dv. u q Q (odd_divisor n Q on dv) (square_lt q b (omega (arith, sq, root))) (dv, below_square q n Q.above_one sq))

-- ── the first answers

pub none_below_two : {n : ℕ} → n < 2 → Prime n → ⊥
none_below_two h P = omega (arith, P.above_one)

-- 2 is the only even prime
pub even_prime : (n : ℕ) → 2 ≤ n → n % 2 ≡ 0 → (eqb n 2 ≡ true) ↔ Prime n
even_prime n h z = (λ e. two (eqb-true n 2 e), λ P. eq-eqb n 2 (only P (ℕ_discrete n 2)))
  where
    two : n ≡ 2 → Prime n
    two e = record { above_one = h; undivided = λ d lo hi dv. absurd (omega arith) }

    only : Prime n → Dec (n ≡ 2) → n ≡ 2
    only P (yes e) = e
    only P (no h') = absurd (P.undivided 2 (omega arith) (omega arith) (N.dvd_of_mod-eq-zero 2 z))
