-- What the theorems of the page `Theorems` share: up to 8d + 3 numbers can be cancelled, g is coprime to N, and no σ has a g but the one that is read
-- off. (The last is a theorem of the page too, with the same statement.)
-- Assumes nothing.
use Rattle.std.specs.Prelude.{◌≢◌, ◌≡◌, ℕ, ◌+◌, ◌*◌, ◌-◌, ◌≤◌, ◌<◌}
use Rattle.std.proofs.Common.{sym, ◌∙◌, ap, arith}
use Rattle.ring.specs.Ring
use Rattle.ring.specs.Ring.{CRing}
use Rattle.ring.specs.Field.{unit_cancel}
use Rattle.ring.specs.Identity.{solve3}
use Rattle.ring.specs.Identity.Ex.{◌:-◌, ◌:*◌}
use Rattle.series.specs.Series.{Seq}
use Rattle.zmod.specs.Zmod.{Zmod}
use Rattle.zmod.specs.Prime.{Prime, inverse}
use Rattle.isogeny.specs.Curve.{Nonsingular}
use Rattle.isogeny.specs.Rules.{Meets, N}
use Rattle.isogeny.proofs.Cancelling.{Cancels, cancels}
use Rattle.divisibility.specs.Coprime.{Coprime}
use Rattle.lowest_terms.proofs.Theorems.{coprime_N}
use Rattle.kernel_sum.specs.WithoutSum.{with_sum, Expands, Found}
use Rattle.kernel_sum.proofs.Sum as Sum

module _ {p : ℕ} (P : Prime p) (A B Ã B̃ : (Zmod p).Car) (d : ℕ) (d≥1 : 1 ≤ d) (small : 4 * (2 * d + 1) - 1 < p)
    (nonsingular : Nonsingular (Zmod p) A B) where
  abbrev R : CRing
  R = Zmod p

  open R use {Car, 𝟘, mul as ◌⊗◌, neg}

  infixl 70 ◌⊗◌
  pub units : Cancels R (8 * d + 3)
  units = cancels P (8 * d + 3) (omega arith)

  pub lowest : (σ : Car) (g : Seq R) → Meets R (with_sum R A B Ã B̃ d σ) g → Coprime R g (N R (with_sum R A B Ã B̃ d σ) g)
  lowest σ g meets = coprime_N P (with_sum R A B Ã B̃ d σ) d≥1 nonsingular (omega arith) g meets

  module _ (h r t : Seq R) (computed : Expands R A B Ã B̃ (4 * d) h) (found : Found R d h r t) where
    module _ (σ : Car) (c≢0 : t (2 * d) ≢ 𝟘) (e : σ ⊗ t (2 * d) ≡ neg (t (2 * d - 1))) where
      pub only : (σ' : Car) (g : Seq R) → Meets R (with_sum R A B Ã B̃ d σ') g → σ' ≡ σ
      only σ' g meets =
          Ring.sub-zero R σ' σ
          (unit_cancel R (t (2 * d)) (R.add σ' (neg σ)) (inverse P _ c≢0)
          (solve3 R (λ c x y. c :* (x :- y)) (λ c x y. x :* c :- y :* c) tt (t (2 * d)) σ' σ
          ∙ ap (λ y. R.add y (neg (σ ⊗ t (2 * d))))
          (Sum.sum_found R A B Ã B̃ d d≥1 units σ' g meets (lowest σ' g meets) h computed r t found ∙ sym e) ∙ R.add-neg _))
