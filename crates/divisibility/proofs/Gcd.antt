-- Over a field, Euclid's algorithm gives a greatest common divisor.
-- Assumes nothing.
use Rattle.std.specs.Prelude.{◌≡◌, ◌⊎◌, ℕ, zero, suc, ◌<◌}
use Rattle.std.proofs.Common.{inl, inr, arith}
use Rattle.ring.specs.Ring.{CRing}
use Rattle.ring.specs.Field.{Field}
use Rattle.series.specs.Series.{Seq, zeros}
use Rattle.series.specs.Degree.{Below, Leading, degree, below_zeros}
use Rattle.divisibility.specs.Division.{Division}
use Rattle.divisibility.specs.Congruence.{congruent_remainder}
use Rattle.divisibility.specs.Gcd.{Gcd, gcd_step, normalized, gcd_zeros}
use Rattle.divisibility.proofs.Division.{divide}

module _ (R : CRing) where
  -- Euclid's algorithm, for a that is not zero
  module _ (F : Field R) where
    pub euclid : (j m : ℕ) (a b : Seq R) → Leading R m a → Below R j b → (n : ℕ) × (c : Seq R) × Gcd R a b n c
    euclid zero m a b L h = (m, normalized R m a L, gcd_zeros R m a b L (below_zeros R b h))
    euclid (suc j) m a b L h = go (degree R F (suc j) b h) (euclid j)
      where
        go : (b ≡ zeros R) ⊎ ((n : ℕ) × (n < suc j) × Leading R n b)
            → ((n : ℕ) (a b : Seq R) → Leading R n a → Below R j b → (n : ℕ) × (c : Seq R) × Gcd R a b n c) → (n : ℕ) × (c : Seq R) × Gcd R a b n c
        go (inl e) rec = (m, normalized R m a L, gcd_zeros R m a b L e)
        go (inr d) rec = up (rec d.0 b D.remainder d.2 (λ i g. D.below i (let l : d.0 < suc j = d.1 in omega arith)))
          where
            D : Division R d.0 a b
            D = divide R d.0 b d.2 (suc m) a L.below

            up : (n : ℕ) × (c : Seq R) × Gcd R b D.remainder n c → (n : ℕ) × (c : Seq R) × Gcd R a b n c
            up (n, c, G) = (n, c, gcd_step R a b D.remainder (congruent_remainder R d.0 a b D) n c G)
