-- What words that solve the equations of the expansion say of its terms: h₀ = 0, 5h₁ = A − Ã, 7h₂ = B − B̃, and document 01's recurrence from 3 on, as far as
-- there are words. Of the question only its two curves are left.
-- Assumes nothing.
use Rattle.std.specs.Prelude.{◌≡◌, refl, List, ℕ, ◌≤◌, ◌<◌}
use Rattle.ring.specs.Ring.{cast}
use Rattle.zmod.specs.Zmod.{Zmod, mk, plus, times, minus}
use Rattle.zmod.specs.Residues.{poly}
use Rattle.isogeny.specs.Rules.{Question}
use Rattle.isogeny.specs.Expansion.{Recurs}
use Rattle.expansion.specs.Equations.{Solved}
use Rattle.recurrence.specs.Equations.{HAt}

module _ {p : ℕ} {q : Question (Zmod p)} {h : List ℕ} {n : ℕ} (hs : Solved p (HAt (Zmod p) q) h n) where
  open q use {A, B, Ã, B̃}

  pub zeroth : 0 < n → poly p h 0 ≡ mk p 0
  zeroth l = (hs.equations 0 l).zero refl

  pub first : 1 < n → times p (cast (Zmod p) 5) (poly p h 1) ≡ plus p A (minus p Ã)
  first l = (hs.equations 1 l).first refl

  pub second : 2 < n → times p (cast (Zmod p) 7) (poly p h 2) ≡ plus p B (minus p B̃)
  second l = (hs.equations 2 l).second refl

  pub recurs : (k : ℕ) → 3 ≤ k → k < n → Recurs (Zmod p) A B (poly p h) k
  recurs k l m = (hs.equations k m).more l
