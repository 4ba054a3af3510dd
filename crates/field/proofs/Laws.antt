-- Residues of sums, negatives and differences of residues, as the functions compute them; and a bound of a product.
-- Assumes nothing.
use mathlib.Core.Path.{◌≡◌, sym, ◌∙◌, ap}
use Prim.Native.Nat.{ℕ, ◌+◌, ◌-◌, ◌*◌, ◌^◌, ◌<◌, ◌≤◌}
use native.Mathlib.Nat as N
use native.Mathlib.Omega.{arith}
use Rattle.ring.specs.Ring
use Rattle.ring.specs.Identity.{solve2}
use Rattle.ring.specs.Identity.Ex.{◌:+◌, ◌:-◌}
use Rattle.zmod.specs.Zmod.{Zmod, mk, plus, minus, mk_add, mk_eq, mk_sub}
use Rattle.zmod.specs.Residues.{Residue}

module _ (p a b : ℕ) where
  pub add_low : a + b < p → Residue p (plus p (mk p a) (mk p b)) (a + b)
  add_low h = record { below = h; class = mk_add p a b }

  pub add_high : a < p → b < p → p ≤ a + b → Residue p (plus p (mk p a) (mk p b)) (a + b - p)
  add_high ha hb h = record {
    below = omega arith;
    class = mk_eq {p = p} (omega arith) (a + b - p) (a + b) (sym (N.mod-eq-sub-mod h)) ∙ mk_add p a b;
  }

  pub subtract_low : a < p → b ≤ a → Residue p (plus p (mk p a) (minus p (mk p b))) (a - b)
  subtract_low ha h = record {
    below = omega arith;
    class =
        solve2 (Zmod p) (λ x y. x) (λ x y. x :+ y :- y) tt (mk p (a - b)) (mk p b)
        ∙ ap (λ z. plus p z (minus p (mk p b))) (sym (mk_add p (a - b) b) ∙ ap (mk p) (omega arith));
  }

  pub subtract_high : b < p → a < b → Residue p (plus p (mk p a) (minus p (mk p b))) (a + (p - b))
  subtract_high hb h = record { below = omega arith; class = mk_sub {p = p} (omega arith) a b (omega arith) }

module _ (p a : ℕ) where
  pub negate_zero : a < p → a ≡ 0 → Residue p (minus p (mk p a)) 0
  negate_zero ha e = record { below = omega arith; class = sym (ap (λ n. minus p (mk p n)) e ∙ Ring.neg-zero (Zmod p)) }

  pub mk_minus : a < p → mk p (p - a) ≡ minus p (mk p a)
  mk_minus h = ap (mk p) (omega arith) ∙ mk_sub {p = p} (omega arith) 0 a (omega arith) ∙ Ring.zero-add (Zmod p) _

  pub negate_more : a < p → (a ≡ 0 → ⊥) → Residue p (minus p (mk p a)) (p - a)
  negate_more ha h = record { below = omega arith; class = mk_minus ha }

-- a word times a word below 2^28
pub weight_le : {l x : ℕ} → l < 2 ^ 32 → x < 2 ^ 28 → l * x ≤ 4294967296 * 268435455
weight_le {l} {x} hl hx = N.mul-le-mul {n₁ = l} {m₁ = x} {n₂ = 4294967296} {m₂ = 268435455} (omega arith) (omega arith)
