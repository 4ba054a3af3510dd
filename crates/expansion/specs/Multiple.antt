-- Multiples by natural numbers, as residues, and how they are added up.
-- Assumes nothing.
use Rattle.std.specs.Prelude.{◌≡◌, ℕ, ◌+◌, ◌<◌}
use Rattle.std.proofs.Common.{sym, ◌∙◌, ap, ap₂}
use Rattle.ring.specs.Ring
use Rattle.ring.specs.Ring.{cast}
use Rattle.ring.specs.Identity.{solve2}
use Rattle.ring.specs.Identity.Ex.{num, ◌:+◌, ◌:*◌}
use Rattle.zmod.specs.Zmod.{Elt, Zmod, mk, plus, times, cast_mk}
use Rattle.zmod.specs.Residues.{Residue, residue_same}

-- r is the residue of m a
abbrev pub Multiple : (p : ℕ) → ℕ → Elt p → ℕ → Type 0
Multiple p m a r = Residue p (times p (cast (Zmod p) m) a) r

module _ {p : ℕ} (a : Elt p) where
  pub none : 0 < p → Multiple p 0 a 0
  none pos = record { below = pos; class = sym (ap (λ x. times p x a) (Ring.cast_zero (Zmod p)) ∙ Ring.zero-mul (Zmod p) a) }

  pub once : {r : ℕ} → Residue p a r → Multiple p 1 a r
  once = residue_same (sym (ap (λ x. times p x a) (Ring.cast_one (Zmod p)) ∙ Ring.one-mul (Zmod p) a))

  pub both : {x y r : ℕ} (l m n : ℕ) → n ≡ l + m → Multiple p l a x → Multiple p m a y → Residue p (plus p (mk p x) (mk p y)) r → Multiple p n a r
  both l m n e hx hy =
      residue_same
      (ap₂ (plus p) hx.class hy.class ∙ sym (Ring.add-mul (Zmod p) (cast (Zmod p) l) (cast (Zmod p) m) a)
      ∙ ap (λ x. times p x a) (sym (Ring.cast_add (Zmod p) l m) ∙ ap (cast (Zmod p)) (sym e)))

  pub twice : {r : ℕ} → Residue p (plus p a a) r → Multiple p 2 a r
  twice = residue_same (solve2 (Zmod p) (λ x y. x :+ x) (λ x y. num 2 :* x) tt a a)

-- of a number
pub multiple : {p : ℕ} (m a r : ℕ) → Residue p (times p (mk p m) (mk p a)) r → Multiple p m (mk p a) r
multiple {p} m a r = residue_same (ap (λ x. times p x (mk p a)) (sym (cast_mk p m)))
