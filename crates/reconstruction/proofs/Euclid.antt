-- The approximant where Euclid's algorithm stops has the row's cofactor.
-- Assumes nothing.
use Rattle.std.specs.Prelude.{◌≡◌, ℕ, ◌+◌, ◌≤◌}
use Rattle.std.proofs.Math.Path.{refl}
use Rattle.ring.specs.Ring.{CRing}
use Rattle.series.specs.Series.{Seq}
use Rattle.series.specs.Degree.{Below}
use Rattle.reconstruction.specs.Euclid.{Stage, stop}

module _ (R : CRing) (m H : Seq R) (e : ℕ) where
  module _ (k j : ℕ) (r r' t t' : Seq R) (stage : Stage R m H e k j r r' t t') where
    pub stop_cofactor : (a n : ℕ) (sum : a + n ≡ e) (h : a ≤ k) (below : Below R a r') → (stop R m H e k j r r' t t' stage a n sum h below).s ≡ stage.s'
    unfolding stop
    stop_cofactor a n sum h below = refl
