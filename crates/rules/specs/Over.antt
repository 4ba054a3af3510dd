-- A modulus for the prime of a sheet.
-- Assumes nothing.
use Rattle.std.specs.Prelude.{◌≡◌, List, ℕ}
use Rattle.std.proofs.Common.{sym, subst}
use Rattle.series.specs.Series.{conv}
use Rattle.zmod.specs.Zmod.{Zmod}
use Rattle.zmod.specs.Residues.{Reduced, poly, Residues}
use Rattle.barrett.specs.declared.prepared.Modulus.{Modulus}
use Rattle.barrett.specs.Modulus.{Prepared, prepared}
use Rattle.sheet.specs.declared.Values.{Values}

pub record Over (v : Values) (m : Modulus) : Type 0 where
  pub same : m.p ≡ v.p

-- it is prepared, as every modulus is, and residues and squares over the one are residues and squares over the other
module _ {v : Values} {m : Modulus} (o : Over v m) where
  pub over_prepared : Prepared m
  over_prepared = prepared m

  pub over_reduced : (xs : List ℕ) → Reduced v.p xs → Reduced m.p xs
  over_reduced xs = subst (λ p. Reduced p xs) (sym o.same)

  pub over_square : (a xs : List ℕ) → Residues m.p (conv (Zmod m.p) (poly m.p a) (poly m.p a)) xs
      → Residues v.p (conv (Zmod v.p) (poly v.p a) (poly v.p a)) xs
  over_square a xs = subst (λ p. Residues p (conv (Zmod p) (poly p a) (poly p a)) xs) o.same
