-- A step of Horner's rule, in slices: the denominator's part that came back, and the numerator's.
-- Assumes nothing.
use Rattle.std.specs.Prelude.{◌≡◌, List, ◌++◌, ℕ, ◌+◌, ◌-◌, ◌≤◌, ◌<◌, length, take, drop}
use Rattle.std.proofs.Common.{ap, ap₂, arith, length-take, take_at, take-take}
use Rattle.series.specs.Series.{sums, scaled, conv}
use Rattle.series.specs.Degree.{below_mono, degree_mul}
use Rattle.zmod.specs.Zmod.{Elt, Zmod}
use Rattle.zmod.specs.Residues.{poly, poly_below, Residues, residues_poly, residues_same, residues_part}

-- d words of `den` were lent, of which the first `dl` counted, and came back as `part`
module _ (p : ℕ) (den square part : List ℕ) (dl d : ℕ) (some : 0 < dl) (pos : 0 < length square) (size : d ≡ dl + (length square - 1)) (long : length part ≡ d)
    (next : Residues p (conv (Zmod p) (poly p square) (poly p (take dl (take d den)))) part) where
  pub next_denominator : Residues p (conv (Zmod p) (poly p square) (poly p (take dl den))) (take d (part ++ drop d den))
  next_denominator =
      residues_part (drop d den) d long (residues_same (ap (λ xs. conv (Zmod p) (poly p square) (poly p xs)) (take-take dl d den (omega arith))) next)

  -- all of it
  is_denominator : poly p (take d (part ++ drop d den)) ≡ conv (Zmod p) (poly p square) (poly p (take dl den))
  is_denominator =
      residues_poly next_denominator
      (below_mono (Zmod p) _ _ _ (omega (arith, ap length (take_at part (drop d den) d long)))
      (degree_mul (Zmod p) (length square - 1) (dl - 1) (poly p square) (poly p (take dl den)) (poly_below p square _ (omega arith))
      (poly_below p (take dl den) _ (omega (arith, length-take dl den)))))

  pub next_numerator : (n h part' rest : List ℕ) (hl k : ℕ) (c : Elt p) → hl ≤ k → length part' ≡ k
      → Residues p (sums (Zmod p) (scaled (Zmod p) c (poly p (take d (part ++ drop d den)))) (conv (Zmod p) (poly p n) (poly p (take hl (take k h))))) part'
      → Residues p (sums (Zmod p) (scaled (Zmod p) c (conv (Zmod p) (poly p square) (poly p (take dl den)))) (conv (Zmod p) (poly p n) (poly p (take hl h))))
      (take k (part' ++ rest))
  next_numerator n h part' rest hl k c le long' filled =
      residues_part rest k long'
      (residues_same (ap₂ (λ f xs. sums (Zmod p) (scaled (Zmod p) c f) (conv (Zmod p) (poly p n) (poly p xs))) is_denominator (take-take hl k h le)) filled)
