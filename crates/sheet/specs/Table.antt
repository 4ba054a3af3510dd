-- A rule of a table that holds at each of its indices, proved by one test that is computed.
-- Assumes nothing.
use Rattle.std.specs.Prelude.{◌≡◌, refl, Bool, true, false, ℕ, zero, suc, ◌<◌, T}
use Rattle.std.proofs.Common.{sym, subst, not-suc-le-zero, arith}
use Rattle.std.proofs.Math.Decide.{dec_lt}

abbrev pub both : Bool → Bool → Bool
both true b = b
both false b = false

pub both_left : (a b : Bool) → T (both a b) → T a
both_left true b t = tt
both_left false b t = t

pub both_right : (a b : Bool) → T (both a b) → T b
both_right true b t = t
both_right false b t = absurd t

pub T_true : (b : Bool) → T b → b ≡ true
T_true true t = refl
T_true false t = absurd t

-- the test passes at each number below n
abbrev pub every : (ℕ → Bool) → ℕ → Bool
every f zero = true
every f (suc n) = both (f n) (every f n)

pub at : (f : ℕ → Bool) (n : ℕ) → T (every f n) → (k : ℕ) → k < n → T (f k)
at f zero t k h = absurd (not-suc-le-zero h)
at f (suc n) t k h = go (dec_lt k n) (at f n (both_right (f n) (every f n) t) k)
  where
    go : Dec (k < n) → (k < n → T (f k)) → T (f k)
    go (yes l) before = before l
    go (no l) before = let e : k ≡ n = omega arith in subst (λ m. T (f m)) (sym e) (both_left (f n) (every f n) t)
