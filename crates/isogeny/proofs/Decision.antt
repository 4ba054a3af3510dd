-- R3 is decided by its 3 ℓ + 1 coefficients, where elements can be told apart.
-- Assumes nothing.
use Rattle.std.specs.Prelude.{◌≡◌, ◌⊎◌, ℕ, zero, suc, ◌*◌, ◌<◌}
use Rattle.std.proofs.Common.{subst, inl, inr, arith}
use Rattle.std.proofs.Math.Nat as Nat
use Rattle.std.proofs.Math.Decide.{map_dec}
use Rattle.ring.specs.Ring.{CRing}
use Rattle.series.specs.Series.{Seq}
use Rattle.series.specs.Degree.{Below}
use Rattle.isogeny.specs.Rules.{Question, R3, ℓ, left, right}
use Rattle.isogeny.proofs.Degrees.{R3_bounded}

-- what can be decided of each number can be decided of all before n
pub all_before : (P : ℕ → Type 0) → ((i : ℕ) → Dec (P i)) → (n : ℕ) → Dec ((i : ℕ) → i < n → P i)
all_before P decide zero = yes λ i l. absurd (omega arith)
all_before P decide (suc n) = go (all_before P decide n) (decide n)
  where
    more : ((i : ℕ) → i < n → P i) → P n → (i : ℕ) → i < suc n → P i
    more h e i l = pick (Nat.eq-or-lt_of_le l)
      where
        pick : (suc i ≡ suc n) ⊎ (suc i < suc n) → P i
        pick (inl s) = subst P (omega arith) e
        pick (inr s) = h i (omega arith)

    go : Dec ((i : ℕ) → i < n → P i) → Dec (P n) → Dec ((i : ℕ) → i < suc n → P i)
    go (yes h) (yes e) = yes (more h e)
    go (yes h) (no e) = no λ all. e (all n (omega arith))
    go (no h) d = no λ all. h λ i l. all i (omega arith)

pub R3_decided : (R : CRing) → ((x y : R.Car) → Dec (x ≡ y)) → (q : Question R) (g n : Seq R) → Below R (suc q.d) g → Below R (suc (ℓ R q)) n → Dec
    (R3 R q g n)
R3_decided R same? q g n g_below n_below =
    map_dec (λ h. R3_bounded R q g n g_below n_below λ i l. h i (omega arith)) (λ r3 i l. r3 i)
    (all_before _ (λ i. same? (left R q g n i) (right R q g n i)) (suc (3 * ℓ R q)))
