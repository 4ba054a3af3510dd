-- Irreducible polynomials, and the multiplicity of one in a polynomial. (What holds of them over a field is in `proofs/Irreducible`.)
-- Assumes nothing.
use Rattle.std.specs.Prelude.{◌≡◌, ℕ, ◌≤◌, ◌<◌}
use Rattle.ring.specs.Ring.{CRing, pow}
use Rattle.series.specs.Series.{Series, Seq}
use Rattle.series.specs.Degree.{Poly, Monic}
use Rattle.divisibility.specs.Divides.{Divides}
use Rattle.divisibility.specs.Coprime.{Coprime}

module _ (R : CRing) where
  open Series R use {mul as ◌*ₛ◌}

  infixl 70 ◌*ₛ◌
  -- q, monic of degree n ≥ 1, has no monic divisor of a degree from 1 to n − 1
  pub record Irreducible (n : ℕ) (q : Seq R) : Type 0 where
    pub positive : 1 ≤ n
    pub monic : Monic R n q
    pub undivided : (m : ℕ) (c : Seq R) → Monic R m c → 1 ≤ m → m < n → Divides R c q → ⊥

  -- g = qᵐ k with k coprime to q: for an irreducible q, m is its multiplicity in g; it is below j
  pub record Multiplicity (q g : Seq R) (j : ℕ) : Type 0 where
    pub m : ℕ
    pub k : Seq R
    pub below : m < j
    pub poly : Poly R k
    pub is : pow (Series R) q m *ₛ k ≡ g
    pub coprime : Coprime R q k
