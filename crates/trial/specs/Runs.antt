-- Runs of trials: what one more trial adds, and what a run over a table of primes says.
-- Assumes nothing.
use Rattle.std.specs.Prelude.{◌≡◌, refl, ◌↔◌, true, List, ℕ, suc, ◌+◌, ◌-◌, ◌*◌, ◌≤◌, ◌<◌, eqb, length, get_or}
use Rattle.std.proofs.Common.{sym, ap, subst, subst₂, inl, inr, arith, eqb-true, eq-eqb}
use Rattle.std.specs.Int.{◌∣◌}
use Rattle.std.proofs.Math.Nat as N
use Rattle.std.proofs.Math.Decide.{dec_lt, ℕ_discrete}
use Rattle.zmod.specs.Prime.{Prime}
use Rattle.trial.specs.Divisors.{Odd, Proper, Undivided, Told, Found}
use Rattle.trial.specs.Divisors.Found.{none, hit, miss}
use Rattle.trial.specs.Table.{PrimesBetween}
use Rattle.trial.specs.Primes.{odd_divisor, square_lt, below_square, without_primes}

pub told_most : {A : Type 0} {r : ℕ} → Told A r → r ≤ 1
told_most (inl (a, e)) = omega arith
told_most (inr (a, e)) = omega arith

pub found_more : {n : ℕ} {qs : List ℕ} {i e r s : ℕ} → Found n qs i e r → Told (Proper (get_or qs e 0) n) s → Found n qs i (e + 1) (r + s)
found_more {n} {qs} {i} {e} {r} {s} f (inl (p, one)) = subst₂ (Found n qs i) (omega arith) (omega arith) (hit f p)
found_more {n} {qs} {i} {e} {r} {s} f (inr (p, zero)) = subst₂ (Found n qs i) (omega arith) (omega arith) (miss f p)

pub found_most : {n : ℕ} {qs : List ℕ} {i e r : ℕ} → Found n qs i e r → i + r ≤ e
found_most none = omega arith
found_most (hit f p) = omega (arith, found_most f)
found_most (miss f p) = omega (arith, found_most f)

-- a place among them whose number is a proper divisor
abbrev Hit : ℕ → List ℕ → ℕ → ℕ → Type 0
Hit n qs i e = (j : ℕ) × (i ≤ j) × (j < e) × Proper (get_or qs j 0) n

found_some : {n : ℕ} {qs : List ℕ} {i e r : ℕ} → Found n qs i e r → (r ≡ 0 → ⊥) → Hit n qs i e
found_some none nz = absurd (nz refl)
found_some (hit {e} {r} f p) nz = (e, omega (arith, found_most f), omega arith, p)
found_some {n} {qs} {i} (miss {e} {r} f p) nz = later (found_some f nz)
  where
    later : Hit n qs i e → Hit n qs i (suc e)
    later (j, l, h, q) = (j, l, omega arith, q)

found_none : {n : ℕ} {qs : List ℕ} {i e r : ℕ} → Found n qs i e r → r ≡ 0 → (j : ℕ) → i ≤ j → j < e → Proper (get_or qs j 0) n → ⊥
found_none none z j l h p = omega arith
found_none (hit f q) z j l h p = omega arith
found_none {n} {qs} {i} (miss {e} {r} f q) z j l h p = go (ℕ_discrete j e) (λ g. found_none f z j l g p)
  where
    go : Dec (j ≡ e) → (j < e → ⊥) → ⊥
    go (yes g) t = q (subst (λ x. Proper (get_or qs x 0) n) g p)
    go (no g) t = t (omega arith)

-- ── over a table

-- none of the entries before i is a proper divisor of n
abbrev pub Missed : ℕ → List ℕ → ℕ → Type 0
Missed n qs i = (j : ℕ) → j < i → Proper (get_or qs j 0) n → ⊥

module _ {b : ℕ} {qs : List ℕ} (table : PrimesBetween 2 b qs) where
  pub rises : (i k : ℕ) → i ≤ k → k < length qs → get_or qs i 0 ≤ get_or qs k 0
  rises i k h l = go (ℕ_discrete i k)
    where
      go : Dec (i ≡ k) → get_or qs i 0 ≤ get_or qs k 0
      go (yes e) = N.le_of_eq (ap (λ x. get_or qs x 0) e)
      go (no ne) = N.le_of_lt (table.rising i k (omega arith) l)

  -- a smaller entry stands before
  before : (i j : ℕ) → j < length qs → get_or qs j 0 < get_or qs i 0 → j < i
  before i j l h = go (dec_lt j i)
    where
      go : Dec (j < i) → j < i
      go (yes g) = g
      go (no g) = absurd (omega (arith, h, rises i j (omega arith) l))

module _ {b n : ℕ} {qs : List ℕ} (table : PrimesBetween 2 b qs) where
  -- a trial that succeeds shows a divisor
  pub found_composite : {i e r : ℕ} → e ≤ length qs → Found n qs i e r → (r ≡ 0 → ⊥) → Prime n → ⊥
  found_composite {i} {e} le f nz P = divided (found_some f nz)
    where
      divided : Hit n qs i e → ⊥
      divided (j, l, h, (dv, lt)) = P.undivided (get_or qs j 0) (table.prime j (omega arith)).above_one lt dv

  -- the first i entries are below a
  pub undivided_missed : {a : ℕ} (i : ℕ) → i ≤ length qs → get_or qs (i - 1) 0 < a → Undivided 2 a n → Missed n qs i
  undivided_missed i le last u j l p =
      let inner : i - 1 < length qs = omega arith in
      let k : j < length qs = omega arith in
      u (get_or qs j 0) (table.prime j k) (table.above j k) (omega (arith, last, rises table j (i - 1) (omega arith) inner)) p

  pub missed_more : {i e r : ℕ} → Missed n qs i → Found n qs i e r → r ≡ 0 → Missed n qs e
  missed_more {i} m f z j l p = go (dec_lt j i)
    where
      go : Dec (j < i) → ⊥
      go (yes h) = m j h p
      go (no h) = found_none f z j (omega arith) l p

  pub missed_undivided : Missed n qs (length qs) → Undivided 2 b n
  missed_undivided m q Q lo hi p = at (table.complete q Q lo hi)
    where
      at : (k : ℕ) × (k < length qs) × (get_or qs k 0 ≡ q) → ⊥
      at (k, l, e) = m k l (subst (λ x. Proper x n) (sym e) p)

  -- the square of the entry at i is above n
  pub missed_prime : Odd n → 1 < n → (i : ℕ) → i < length qs → n < get_or qs i 0 * get_or qs i 0 → Missed n qs i → Prime n
  missed_prime on big i l root m = without_primes n big none
    where
      none : (q : ℕ) → Prime q → q * q ≤ n → q ∣ n → ⊥
      none q Q sq dv = at (table.complete q Q (odd_divisor n Q on dv) (omega (arith, small, table.below i l)))
        where
          small : q < get_or qs i 0
          small = square_lt q (get_or qs i 0) (omega (arith, sq, root))

          at : (k : ℕ) × (k < length qs) × (get_or qs k 0 ≡ q) → ⊥
          at (k, h, e) =
              m k (before table i k h (omega (arith, small, e)))
              (subst (λ x. Proper x n) (sym e) (dv, below_square q n Q.above_one sq))

-- a run from i to the end of the table, as its count is compared with 0
pub run_decides : {b n i r : ℕ} {qs : List ℕ} → Found n qs i (length qs) r → PrimesBetween 2 b qs → Missed n qs i → (eqb r 0 ≡ true) ↔ Undivided 2 b n
run_decides {b} {n} {i} {r} {qs} f table m =
    (λ e. missed_undivided table (missed_more table m f (eqb-true r 0 e)), λ u. eq-eqb r 0 (go u (ℕ_discrete r 0)))
  where
    divided : Undivided 2 b n → Hit n qs i (length qs) → ⊥
    divided u (j, l, h, p) = u (get_or qs j 0) (table.prime j h) (table.above j h) (table.below j h) p

    go : Undivided 2 b n → Dec (r ≡ 0) → r ≡ 0
    go u (yes z) = z
    go u (no nz) = absurd (divided u (found_some f nz))

-- the same behind a run up to a
pub run_on_decides : {a b n i r : ℕ} {qs : List ℕ} → Found n qs i (length qs) r → PrimesBetween 2 b qs → Undivided 2 a n → i ≤ length qs
    → get_or qs (i - 1) 0 < a → (eqb r 0 ≡ true) ↔ Undivided 2 b n
run_on_decides {i = i} f table u le last = run_decides f table (undivided_missed table i le last u)
