-- The equations of the expansion at infinity of a question's two curves, one for each place of a sequence; and quotients of residues.
-- An equation at k reads the sequence up to k.
-- Assumes nothing.
use Rattle.std.specs.Prelude.{◌≡◌, ℕ, ◌≤◌, ◌<◌}
use Rattle.std.proofs.Common.{◌∙◌, ap}
use Rattle.ring.specs.Ring.{CRing, cast}
use Rattle.series.specs.Series.{Seq}
use Rattle.zmod.specs.Zmod.{Zmod, mk, times, cast_mk}
use Rattle.isogeny.specs.Rules.{Question}
use Rattle.isogeny.specs.Expansion.{Recurs}

module _ (R : CRing) (q : Question R) where
  open q use {A, B, Ã, B̃}
  open R use {𝟘, add, mul, neg}

  -- h from the two curves
  pub record HAt (h : Seq R) (k : ℕ) : Type 0 where
    pub zero : k ≡ 0 → h 0 ≡ 𝟘
    pub first : k ≡ 1 → mul (cast R 5) (h 1) ≡ add A (neg Ã)
    pub second : k ≡ 2 → mul (cast R 7) (h 2) ≡ add B (neg B̃)
    pub more : 3 ≤ k → Recurs R A B h k

-- r is y / k
pub record Quotient (p k y r : ℕ) : Type 0 where
  pub below : r < p
  pub product : times p (mk p k) (mk p r) ≡ mk p y

pub quotient_cast : {p k y r : ℕ} → Quotient p k y r → times p (cast (Zmod p) k) (mk p r) ≡ mk p y
quotient_cast {p} {k} {y} {r} h = ap (λ x. times p x (mk p r)) (cast_mk p k) ∙ h.product
