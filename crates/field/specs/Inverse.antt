-- Inverses of residues. `InverseOf p a r`: the residue r is the inverse of a modulo p. `Inverses p xs`: the word of xs at each place k above 0 is the
-- inverse of k.
-- Assumes nothing.
use Rattle.std.specs.Prelude.{◌≡◌, List, ℕ, ◌<◌, length, get_or}
use Rattle.std.proofs.Common.{sym, ◌∙◌, ap, arith}
use Rattle.ring.specs.Ring
use Rattle.ring.specs.Field.{Inverse}
use Rattle.ring.specs.Identity.{solve3}
use Rattle.ring.specs.Identity.Ex.{◌:*◌}
use Rattle.zmod.specs.Zmod.{Zmod, mk, times, mk_apart}

pub record InverseOf (p a r : ℕ) : Type 0 where
  pub below : r < p
  pub unit : times p (mk p a) (mk p r) ≡ mk p 1

-- as an inverse of the ring
pub inverse_in : {p a r : ℕ} → InverseOf p a r → Inverse (Zmod p) (mk p a)
inverse_in {p} {a} {r} h = (mk p r, h.unit)

-- there is only one: r = (a s) r = (a r) s = s
pub inverse_unique : {p a r s : ℕ} → InverseOf p a r → InverseOf p a s → r ≡ s
inverse_unique {p} {a} {r} {s} h k =
    mk_apart {p = p} (omega arith) r s h.below k.below
    (sym (Ring.one-mul (Zmod p) _) ∙ ap (λ x. times p x (mk p r)) (sym k.unit)
    ∙ solve3 (Zmod p) (λ a r s. a :* s :* r) (λ a r s. a :* r :* s) tt (mk p a) (mk p r) (mk p s)
    ∙ ap (λ x. times p x (mk p s)) h.unit ∙ Ring.one-mul (Zmod p) _)

-- what stands at place k of a table of inverses
pub record Entry (p k r : ℕ) : Type 0 where
  pub at_zero : k ≡ 0 → r ≡ 0
  pub above_zero : 0 < k → InverseOf p k r

-- the whole table; past its end a list reads 0, so an empty one is a table too
pub record Inverses (p : ℕ) (xs : List ℕ) : Type 0 where
  pub zero : get_or xs 0 0 ≡ 0
  pub inverse : (k : ℕ) → 0 < k → k < length xs → InverseOf p k (get_or xs k 0)
