-- Where Horner's rule begins, in slices: with the two topmost coefficients of g.
-- Assumes nothing.
use Rattle.std.specs.Prelude.{◌≡◌, List, ℕ, suc, ◌-◌, ◌≤◌, length, get_or, take, drop}
use Rattle.std.proofs.Common.{sym, ◌∙◌, ap, ap₂, arith, length-take}
use Rattle.std.proofs.Math.Nat as N
use Rattle.slices.specs.Stored.{part_at}
use Rattle.series.specs.Series.{const, sums, scaled, conv}
use Rattle.series.specs.Degree.{below_const}
use Rattle.zmod.specs.Zmod.{Zmod, mk}
use Rattle.zmod.specs.Residues.{poly, poly_at, poly_below, Residues, residues_poly, residues_same}
use Rattle.composition.specs.Substitution.{homogenize}
use Rattle.substitution.specs.Horner.{dropped, horner_first}

-- the last word alone is a constant
top_const : (p : ℕ) (g : List ℕ) (d : ℕ) → length g ≡ suc d → poly p (take (length g - d) (drop d g)) ≡ const (Zmod p) (poly p g d)
top_const p g d size =
    below_const (Zmod p) _ (poly_below p _ 1 (omega (arith, length-take (length g - d) (drop d g))))
    ∙ ap (const (Zmod p)) (poly_at p _ 0 ∙ ap (mk p) (part_at g d (length g - d) 0 (omega arith) ∙ ap (λ k. get_or g k 0) (N.add-zero d)) ∙ sym (poly_at p g d))

-- h holds n at first, and `next` is c g₁² and n times the topmost coefficient
pub horner_begins : (p : ℕ) (n square g h next : List ℕ) → 2 ≤ length g → length n ≤ length h → Residues p (poly p n) h
    → Residues p (sums (Zmod p) (scaled (Zmod p) (mk p (get_or g (length g - 1 - 1) 0)) (poly p square))
    (conv (Zmod p) (poly p (take (length g - (length g - 1)) (drop (length g - 1) g))) (poly p h))) next
    → Residues p (homogenize (Zmod p) (poly p n) (poly p square) 1 (dropped (Zmod p) (length g - 2) (poly p g))) next
horner_begins p n square g h next some long filled =
    residues_same (ap₂ (λ c f. sums (Zmod p) (scaled (Zmod p) c (poly p square)) f) second (ap₂ (conv (Zmod p)) first numerator)
    ∙ sym (horner_first (Zmod p) (poly p n) (poly p square) (poly p g) (length g - 2)))
  where
    second : mk p (get_or g (length g - 1 - 1) 0) ≡ poly p g (length g - 2)
    second = ap (λ k. mk p (get_or g k 0)) (omega arith) ∙ sym (poly_at p g (length g - 2))

    first : poly p (take (length g - (length g - 1)) (drop (length g - 1) g)) ≡ const (Zmod p) (poly p g (suc (length g - 2)))
    first = top_const p g (length g - 1) (omega arith) ∙ ap (λ k. const (Zmod p) (poly p g k)) (omega arith)

    numerator : poly p h ≡ poly p n
    numerator = residues_poly filled (poly_below p n _ long)
