-- That a list has all the odd primes below a bound, by one test that antt computes. It walks over the odd numbers from 3 on: one that no entry up to its
-- root divides must be the next entry, and any other must not, since it has a factor among the entries before it.
-- Assumes nothing.
use Rattle.std.specs.Prelude.{◌≡◌, Bool, not, ltb, eqb, length, get_or}
use Rattle.std.proofs.Math.Path.{sym}
use Rattle.std.proofs.Common.{ap, ◌∙◌, subst, arith, ltb→lt, nltb→le, eqb→eq, T_not}
use Rattle.std.proofs.Math.Bool.{true, false}
use mathlib.Core.List.{List, [], ◌∷◌}
use Prim.Native.Nat.{ℕ, zero, suc, ◌+◌, ◌*◌, ◌%◌, ◌≤◌, ◌<◌, ◌∣◌}
use Rattle.std.proofs.Math.Nat as N
use Rattle.std.proofs.Math.Decide.{dec_lt, ℕ_discrete}
use Rattle.std.proofs.Math.Dec.{T, eqb_refl}
use Rattle.zmod.specs.Prime.{Prime}
use Rattle.trial.specs.Divisors.{Odd}
use Rattle.trial.specs.Table.{PrimesBetween}
use Rattle.trial.specs.Primes.{odd_prime, odd_divisor, square_le, below_square, without_primes}

-- ── a rising list

-- each entry is above the one before it, and the first above lo
unfoldable pub climbs : ℕ → List ℕ → Bool
climbs lo [] = true
climbs lo (x ∷ xs) = elim (ltb lo x) [ true ↦ climbs x xs | false ↦ false ]

record Rising (lo : ℕ) (xs : List ℕ) : Type 0 where
  above : (k : ℕ) → k < length xs → lo < get_or xs k 0
  rising : (j k : ℕ) → j < k → k < length xs → get_or xs j 0 < get_or xs k 0

climbed : (lo : ℕ) (xs : List ℕ) → T (climbs lo xs) → Rising lo xs
unfolding climbs
climbed lo [] t = record { above = λ k l. absurd (N.not-suc-le-zero l); rising = λ j k h l. absurd (N.not-suc-le-zero l) }
climbed lo (x ∷ xs) t = go (ltb lo x) (ltb→lt lo x) (climbed x xs) t
  where
    first : lo < x → Rising x xs → Rising lo (x ∷ xs)
    first h r = record { above = above; rising = rising }
      where
        above : (k : ℕ) → k < length (x ∷ xs) → lo < get_or (x ∷ xs) k 0
        above zero l = h
        above (suc k) l = omega (arith, h, r.above k (N.le_of_suc-le-suc l))

        rising : (j k : ℕ) → j < k → k < length (x ∷ xs) → get_or (x ∷ xs) j 0 < get_or (x ∷ xs) k 0
        rising j zero g l = absurd (N.not-suc-le-zero g)
        rising zero (suc k) g l = r.above k (N.le_of_suc-le-suc l)
        rising (suc j) (suc k) g l = r.rising j k (N.le_of_suc-le-suc g) (N.le_of_suc-le-suc l)

    go : (a : Bool) → (T a → lo < x) → (T (climbs x xs) → Rising x xs) → T (elim a [ true ↦ climbs x xs | false ↦ false ]) → Rising lo (x ∷ xs)
    go true h r s = first (h tt) (r s)
    go false h r s = absurd s

rising_rest : (lo x : ℕ) (xs : List ℕ) → Rising lo (x ∷ xs) → Rising x xs
rising_rest lo x xs r = record {
  above = λ k l. r.rising 0 (suc k) (N.zero-lt-suc k) ((N.suc-le-suc_iff).1 l);
  rising = λ j k h l. r.rising (suc j) (suc k) ((N.suc-le-suc_iff).1 h) ((N.suc-le-suc_iff).1 l);
}

-- ── the trial of one number

-- no entry up to the root of d divides d
unfoldable pub passes : List ℕ → ℕ → Bool
passes [] d = true
passes (q ∷ qs) d = elim (ltb d (q * q)) [ true ↦ true | false ↦ elim (eqb (d % q) 0) [ true ↦ false | false ↦ passes qs d ] ]

nonzero : (a : ℕ) → T (not (eqb a 0)) → a ≡ 0 → ⊥
nonzero a t e = T_not (eqb a 0) t (subst (λ x. T (eqb x 0)) (sym e) (eqb_refl 0))

-- entries rise, so none behind the first whose square is above d has a smaller square
passed : (lo : ℕ) (qs : List ℕ) (d : ℕ) → Rising lo qs → T (passes qs d) → (k : ℕ) → k < length qs → get_or qs k 0 * get_or qs k 0 ≤ d
    → d % get_or qs k 0 ≡ 0 → ⊥
unfolding passes
passed lo [] d r t k l sq z = N.not-suc-le-zero l
passed lo (q ∷ qs) d r t k l sq z =
    go (ltb d (q * q)) (eqb (d % q) 0) (λ a. past (ltb→lt d (q * q) a) k l sq) (λ b u. next (nonzero (d % q) b) k l sq z
    (λ j. passed q qs d (rising_rest lo q qs r) u j)) t
  where
    past : d < q * q → (k : ℕ) → k < length (q ∷ qs) → get_or (q ∷ qs) k 0 * get_or (q ∷ qs) k 0 ≤ d → ⊥
    past h zero l s = omega arith
    past h (suc k) l s = omega (arith, h, s, square_le q (get_or qs k 0) (N.le_of_lt (r.rising 0 (suc k) (N.zero-lt-suc k) l)))

    next : (d % q ≡ 0 → ⊥) → (k : ℕ) → k < length (q ∷ qs) → get_or (q ∷ qs) k 0 * get_or (q ∷ qs) k 0 ≤ d → d % get_or (q ∷ qs) k 0 ≡ 0
        → ((j : ℕ) → j < length qs → get_or qs j 0 * get_or qs j 0 ≤ d → d % get_or qs j 0 ≡ 0 → ⊥) → ⊥
    next h zero l s e later = h e
    next h (suc k) l s e later = later k (N.le_of_suc-le-suc l) s e

    go : (a b : Bool) → (T a → ⊥) → (T (not b) → T (passes qs d) → ⊥)
        → T (elim a [ true ↦ true | false ↦ elim b [ true ↦ false | false ↦ passes qs d ] ]) → ⊥
    go true b f g s = f tt
    go false true f g s = absurd s
    go false false f g s = g tt s

-- an entry with its square up to d that divides d
abbrev Factor : List ℕ → ℕ → Type 0
Factor qs d = (k : ℕ) × (k < length qs) × (get_or qs k 0 * get_or qs k 0 ≤ d) × (get_or qs k 0 ∣ d)

failed : (qs : List ℕ) (d : ℕ) → T (not (passes qs d)) → Factor qs d
unfolding passes
failed [] d t = absurd t
failed (q ∷ qs) d t =
    go (ltb d (q * q)) (eqb (d % q) 0)
    (λ a b. (0, N.zero-lt-suc _, nltb→le d (q * q) a, N.dvd_of_mod-eq-zero q (eqb→eq (d % q) 0 b)))
    (λ s. later (failed qs d s)) t
  where
    later : Factor qs d → Factor (q ∷ qs) d
    later (k, l, s, dv) = (suc k, (N.suc-le-suc_iff).1 l, s, dv)

    go : (a b : Bool) → (T (not a) → T b → Factor (q ∷ qs) d) → (T (not (passes qs d)) → Factor (q ∷ qs) d)
        → T (not (elim a [ true ↦ true | false ↦ elim b [ true ↦ false | false ↦ passes qs d ] ])) → Factor (q ∷ qs) d
    go true b f g s = absurd s
    go false true f g s = f tt tt
    go false false f g s = g s

-- ── the walk

-- of the k odd numbers from d on, just those that pass are the next entries
unfoldable pub walk : List ℕ → ℕ → ℕ → List ℕ → Bool
walk all zero d [] = true
walk all zero d (x ∷ xs) = false
walk all (suc k) d [] = elim (passes all d) [ true ↦ false | false ↦ walk all k (d + 2) [] ]
walk all (suc k) d (x ∷ xs) =
    elim (passes all d) [
      | true ↦ elim (eqb d x) [ true ↦ walk all k (d + 2) xs | false ↦ false ]
      | false ↦ walk all k (d + 2) (x ∷ xs)
    ]

module _ (all : List ℕ) (r : Rising 2 all) where
  -- every prime above 2 and below d is an entry
  abbrev Known : ℕ → Type 0
  Known d = (q : ℕ) → Prime q → 2 < q → q < d → (k : ℕ) × (k < length all) × (get_or all k 0 ≡ q)

  -- xs is what all has from i on
  abbrev Rest : ℕ → List ℕ → Type 0
  Rest i xs = (k : ℕ) → k < length xs → (i + k < length all) × (get_or all (i + k) 0 ≡ get_or xs k 0)

  record Walked (k d : ℕ) (xs : List ℕ) : Type 0 where
    known : Known (d + 2 * k)
    prime : (j : ℕ) → j < length xs → Prime (get_or xs j 0)
    below : (j : ℕ) → j < length xs → get_or xs j 0 + 1 < d + 2 * k

  passed_prime : (d : ℕ) → Odd d → 2 < d → Known d → T (passes all d) → Prime d
  passed_prime d od lo known t = without_primes d (omega arith) none
    where
      none : (q : ℕ) → Prime q → q * q ≤ d → q ∣ d → ⊥
      none q Q sq dv = entry (known q Q (odd_divisor d Q od dv) (below_square q d Q.above_one sq))
        where
          entry : (k : ℕ) × (k < length all) × (get_or all k 0 ≡ q) → ⊥
          entry (k, l, e) =
              passed 2 all d r t k l (subst (λ x. x * x ≤ d) (sym e) sq)
              (subst (λ x. d % x ≡ 0) (sym e) (N.mod-eq-zero_of_dvd q dv))

  failed_composite : (d : ℕ) → T (not (passes all d)) → Prime d → ⊥
  failed_composite d t P = factor (failed all d t)
    where
      factor : Factor all d → ⊥
      factor (k, l, sq, dv) =
          let q = get_or all k 0 in
          let lo : 1 < q = omega (arith, r.above k l) in
          P.undivided q lo (below_square q d lo sq) dv

  -- two numbers more: d, and an even one
  known_more : (d : ℕ) → Odd d → 2 < d → Known d → (Prime d → (k : ℕ) × (k < length all) × (get_or all k 0 ≡ d)) → Known (d + 2)
  known_more d od lo known here q Q two hi = go (dec_lt q d) (ℕ_discrete q d)
    where
      go : Dec (q < d) → Dec (q ≡ d) → (k : ℕ) × (k < length all) × (get_or all k 0 ≡ q)
      go (yes l) t = known q Q two l
      go (no l) (yes e) = subst (λ x. (k : ℕ) × (k < length all) × (get_or all k 0 ≡ x)) (sym e) (here (subst Prime e Q))
      go (no l) (no ne) = absurd (omega (arith, odd_prime Q two))

  skip : (k d : ℕ) (xs : List ℕ) → Walked k (d + 2) xs → Walked (suc k) d xs
  skip k d xs w = record {
    known = λ q Q lo hi. w.known q Q lo (omega arith);
    prime = w.prime;
    below = λ j l. omega (arith, w.below j l);
  }

  take : (k d x : ℕ) (xs : List ℕ) → d ≡ x → Prime d → Walked k (d + 2) xs → Walked (suc k) d (x ∷ xs)
  take k d x xs e P w = record { known = λ q Q lo hi. w.known q Q lo (omega arith); prime = prime; below = below }
    where
      prime : (j : ℕ) → j < length (x ∷ xs) → Prime (get_or (x ∷ xs) j 0)
      prime zero l = subst Prime e P
      prime (suc j) l = w.prime j (N.le_of_suc-le-suc l)

      below : (j : ℕ) → j < length (x ∷ xs) → get_or (x ∷ xs) j 0 + 1 < d + 2 * suc k
      below zero l = omega arith
      below (suc j) l = omega (arith, w.below j (N.le_of_suc-le-suc l))

  rest_more : (i x : ℕ) (xs : List ℕ) → Rest i (x ∷ xs) → Rest (i + 1) xs
  rest_more i x xs h k l =
      let at = h (suc k) ((N.suc-le-suc_iff).1 l) in
      let e : i + suc k ≡ i + 1 + k = omega arith in
      (omega (arith, at.0), subst (λ j. get_or all j 0 ≡ get_or xs k 0) e at.1)

  walked : (k d i : ℕ) (xs : List ℕ) → Odd d → 2 < d → Rest i xs → Known d → T (walk all k d xs) → Walked k d xs
  unfolding walk
  walked zero d i [] od lo rest known t = record {
    known = λ q Q two hi. known q Q two (omega arith);
    prime = λ j l. absurd (N.not-suc-le-zero l);
    below = λ j l. absurd (N.not-suc-le-zero l);
  }
  walked zero d i (x ∷ xs) od lo rest known t = absurd t
  walked (suc k) d i [] od lo rest known t =
      go (passes all d) (failed_composite d) (λ none. walked k (d + 2) i [] (omega arith) (omega arith) rest
      (known_more d od lo known (λ P. absurd (none P)))) t
    where
      go : (a : Bool) → (T (not a) → Prime d → ⊥) → ((Prime d → ⊥) → T (walk all k (d + 2) []) → Walked k (d + 2) [])
          → T (elim a [ true ↦ false | false ↦ walk all k (d + 2) [] ]) → Walked (suc k) d []
      go true f w s = absurd s
      go false f w s = skip k d [] (w (f tt) s)
  walked (suc k) d i (x ∷ xs) od lo rest known t =
      go (passes all d) (eqb d x) (passed_prime d od lo known) (failed_composite d) (eqb→eq d x)
      (λ e P. walked k (d + 2) (i + 1) xs (omega arith) (omega arith) (rest_more i x xs rest)
      (known_more d od lo known (λ Q. (i + 0, (rest 0 (N.zero-lt-suc _)).0, (rest 0 (N.zero-lt-suc _)).1 ∙ sym e))))
      (λ none. walked k (d + 2) i (x ∷ xs) (omega arith) (omega arith) rest (known_more d od lo known (λ P. absurd (none P)))) t
    where
      go : (a b : Bool) → (T a → Prime d) → (T (not a) → Prime d → ⊥) → (T b → d ≡ x)
          → (d ≡ x → Prime d → T (walk all k (d + 2) xs) → Walked k (d + 2) xs)
          → ((Prime d → ⊥) → T (walk all k (d + 2) (x ∷ xs)) → Walked k (d + 2) (x ∷ xs))
          → T (elim a [ true ↦ elim b [ true ↦ walk all k (d + 2) xs | false ↦ false ] | false ↦ walk all k (d + 2) (x ∷ xs) ])
          → Walked (suc k) d (x ∷ xs)
      go true true p f e w v s = take k d x xs (e tt) (p tt) (w (e tt) (p tt) s)
      go true false p f e w v s = absurd s
      go false b p f e w v s = skip k d (x ∷ xs) (v (f tt) s)

-- What the test shows: a list that climbs from above 2 and passes the walk over the k odd numbers from 3 on has the primes between 2 and 2 + 2 k, all of
-- them and nothing else, in rising order.
pub table : (k b : ℕ) (qs : List ℕ) → b ≡ 2 + 2 * k → T (climbs 2 qs) → T (walk qs k 3 qs) → PrimesBetween 2 b qs
table k b qs e c t =
    let r = climbed 2 qs c in
    let rest : Rest qs r 0 qs = λ j l. (omega arith, ap (λ x. get_or qs x 0) (omega arith)) in
    let w = walked qs r k 3 0 qs (omega arith) (omega arith) rest (λ q Q lo hi. absurd (omega arith)) t in
    record {
      prime = w.prime;
      above = r.above;
      below = λ j l. omega (arith, w.below j l);
      rising = r.rising;
      complete = λ q Q lo hi. w.known q Q lo (omega arith);
    }
