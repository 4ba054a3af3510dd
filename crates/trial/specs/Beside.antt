-- That inverses stand beside the entries of a table, by one test that antt computes; and both tables together.
-- Assumes nothing.
use Rattle.std.specs.Prelude.{◌≡◌, refl, Bool, true, false, List, [], ◌∷◌, ℕ, zero, suc, ◌*◌, ◌%◌, ◌^◌, ◌≤◌, ◌<◌, T, eqb, length, get_or}
use Rattle.std.proofs.Common.{ap, arith, eqb→eq}
use Rattle.std.proofs.Math.Nat as N
use Rattle.trial.specs.Table.{PrimesBetween, Pairs, Whole}
use Rattle.trial.specs.Walk.{table, climbs, walk}
use Rattle.trial.specs.Runs.{rises}

-- each product is 1 modulo W
unfoldable pub beside : ℕ → List ℕ → List ℕ → Bool
beside W [] [] = true
beside W [] (i ∷ is) = false
beside W (q ∷ qs) [] = false
beside W (q ∷ qs) (i ∷ is) = elim (eqb ((q * i) % W) 1) [ true ↦ beside W qs is | false ↦ false ]

record Inverses (W : ℕ) (qs is : List ℕ) : Type 0 where
  as_long : length is ≡ length qs
  inverse : (k : ℕ) → k < length qs → (get_or qs k 0 * get_or is k 0) % W ≡ 1

inverses : (W : ℕ) (qs is : List ℕ) → T (beside W qs is) → Inverses W qs is
unfolding beside
inverses W [] [] t = record { as_long = refl; inverse = λ k l. absurd (N.not-suc-le-zero l) }
inverses W [] (i ∷ is) t = absurd t
inverses W (q ∷ qs) [] t = absurd t
inverses W (q ∷ qs) (i ∷ is) t = go (eqb ((q * i) % W) 1) (eqb→eq ((q * i) % W) 1) (inverses W qs is) t
  where
    more : (q * i) % W ≡ 1 → Inverses W qs is → Inverses W (q ∷ qs) (i ∷ is)
    more e r = record { as_long = ap suc r.as_long; inverse = at }
      where
        at : (k : ℕ) → k < length (q ∷ qs) → (get_or (q ∷ qs) k 0 * get_or (i ∷ is) k 0) % W ≡ 1
        at zero l = e
        at (suc k) l = r.inverse k (N.le_of_suc-le-suc l)

    go : (u : Bool) → (T u → (q * i) % W ≡ 1) → (T (beside W qs is) → Inverses W qs is) → T (elim u [ true ↦ beside W qs is | false ↦ false ])
        → Inverses W (q ∷ qs) (i ∷ is)
    go true f g s = more (f tt) (g s)
    go false f g s = absurd s

-- from the first entry above a on
pub pairs : (W a b i : ℕ) (qs is : List ℕ) → PrimesBetween 2 b qs → a < get_or qs i 0 → T (beside W qs is) → Pairs W a b i qs is
pairs W a b i qs is table from t =
    let r = inverses W qs is t in
    record {
      as_long = r.as_long;
      pair = λ k le l. record { above = omega (arith, from, rises table i k le l); below = table.below k l; inverse = r.inverse k l };
    }

-- and from any later one
pub pairs_from : {W a b i : ℕ} {qs is : List ℕ} → Pairs W a b i qs is → (j : ℕ) → i ≤ j → Pairs W a b j qs is
pairs_from p j le = record { as_long = p.as_long; pair = λ k h l. p.pair k (omega arith) l }

-- both tables, by one test of each
pub whole : (qs is : List ℕ) → length qs ≡ 1899 → T (climbs 2 qs) → T (walk qs 8191 3 qs) → get_or qs 170 0 < 1024 → 1024 < get_or qs 171 0
    → T (beside (2 ^ 16) qs is) → Whole qs is
whole qs is size c w first next b =
    let primes = table 8191 16384 qs refl c w in
    record { size = size; primes = primes; first = first; pairs = pairs (2 ^ 16) 1024 16384 171 qs is primes next b }
