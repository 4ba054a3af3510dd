-- The end of a count: x is subtracted from xᵖ modulo g, and the degree of the greatest common divisor with g is the number of g's roots.
-- Assumes nothing.
use Rattle.std.specs.Prelude.{◌≡◌, ◌≢◌, List, ℕ, zero, suc, ◌-◌, ◌≤◌, ◌<◌, length, get_or, set}
use Rattle.std.proofs.Math.Path.{sym, ap, fun_ext}
use Rattle.std.proofs.Common.{◌∙◌, subst, arith, get_or-set_same, get_or-set_other, ext_get_or}
use Rattle.slices.specs.Filling.{Filled}
use Rattle.ring.specs.Ring
use Rattle.series.specs.Series.{sums, negs}
use Rattle.series.specs.Degree.{Monic}
use Rattle.series.specs.Indeterminate.{ind}
use Rattle.zmod.specs.Zmod.{Zmod, mk, plus, minus, plus_zero}
use Rattle.zmod.specs.Prime.{Prime}
use Rattle.zmod.specs.Residues.{Residue, Reduced, poly, poly_at, poly_past}
use Rattle.roots.specs.Rational.{rational_roots}
use Rattle.roots.proofs.Theorems.{roots_modulo, roots_most, roots_linear}
use Rattle.modulo.specs.Modulo.{Divisor, RemainderOf}
use Rattle.modulo.specs.Power.{x_to}
use Rattle.euclid.specs.Words.{Leads, monic_leads}
use Rattle.euclid.specs.Euclid.{GcdDegree}

-- r − x
module _ (p v : ℕ) (r : List ℕ) (low : Reduced p r) (inside : 1 < length r) (h : Residue p (plus p (mk p (get_or r 1 0)) (minus p (mk p 1))) v) where
  first : get_or (set r 1 v) 1 0 ≡ v
  first = get_or-set_same r 1 v 0 inside

  other : (i : ℕ) → i ≢ 1 → get_or (set r 1 v) i 0 ≡ get_or r i 0
  other i apart = get_or-set_other r 1 i v 0 apart

  pub subtracted_reduced : Reduced p (set r 1 v)
  subtracted_reduced zero = omega (arith, other 0 (λ e. absurd (omega arith)), low 0)
  subtracted_reduced (suc zero) = omega (arith, first, h.below)
  subtracted_reduced (suc (suc i)) = omega (arith, other (suc (suc i)) (λ e. absurd (omega arith)), low (suc (suc i)))

  pub subtracted_is : poly p (set r 1 v) ≡ sums (Zmod p) (poly p r) (negs (Zmod p) (ind (Zmod p)))
  unfolding ind
  subtracted_is = fun_ext go
    where
      kept : (i : ℕ) → i ≢ 1 → poly p (set r 1 v) i ≡ plus p (poly p r i) (minus p (mk p 0))
      kept i apart =
          poly_at p (set r 1 v) i ∙ ap (mk p) (other i apart) ∙ sym (poly_at p r i) ∙ sym (plus_zero p (poly p r i))
          ∙ ap (plus p (poly p r i)) (sym (Ring.neg-zero (Zmod p)))

      go : (i : ℕ) → poly p (set r 1 v) i ≡ plus p (poly p r i) (minus p (ind (Zmod p) i))
      go zero = kept 0 (λ e. absurd (omega arith))
      go (suc zero) =
          poly_at p (set r 1 v) 1 ∙ ap (mk p) first ∙ h.class ∙ ap (λ x. plus p x (minus p (mk p 1))) (sym (poly_at p r 1))
      go (suc (suc i)) = kept (suc (suc i)) (λ e. absurd (omega arith))

-- words that are widened are the same words
pub widened : {a out : List ℕ} → length out ≡ length a → Filled (λ j v. v ≡ get_or a j 0) out (length out) → out ≡ a
widened {a} {out} same words = ext_get_or 0 out a same words

-- Euclid's algorithm may divide by a monic g
pub divisor_leads : {p : ℕ} {g : List ℕ} → 1 < p → Divisor p g → Leads p g
divisor_leads large h = monic_leads large h.reduced h.some h.monic

-- the count
pub counted : {p d n : ℕ} (P : Prime p) (g r : List ℕ) → RemainderOf p d (poly p g) (x_to p p) r
    → GcdDegree (Zmod p) (poly p g) (sums (Zmod p) (poly p r) (negs (Zmod p) (ind (Zmod p)))) n → n ≡ rational_roots p (length g) (poly p g)
counted {p} {d} {n} P g r h (c, G) = sym (roots_modulo P (length g) (poly p g) (poly_past p g) (poly p r) h.congruent n c G)

-- which is at most g's degree
pub roots_few : {p : ℕ} {g : List ℕ} → Prime p → Divisor p g → rational_roots p (length g) (poly p g) < length g
roots_few {p} {g} P h =
    let size : suc (length g - 1) ≡ length g = omega (arith, h.some) in
    let most : rational_roots p (length g) (poly p g) ≤ length g - 1 = subst (λ n. rational_roots p n (poly p g) ≤ length g - 1) size
    (roots_most P (length g - 1) (poly p g) h.monic) in
    omega (arith, most, h.some)

-- and 1 for a degree of 1
pub roots_one : {p : ℕ} {g : List ℕ} → Prime p → Divisor p g → length g ≡ 2 → rational_roots p (length g) (poly p g) ≡ 1
roots_one {p} {g} P h two =
    ap (λ n. rational_roots p n (poly p g)) two
    ∙ roots_linear P (poly p g) (subst (λ n. Monic (Zmod p) n (poly p g)) (ap (λ n. n - 1) two) h.monic)
