-- What the slices of this crate hold: `Divisor p g`, the residues of a monic polynomial, of which the last word is 1; `RemainderOf p n g a r`, those of a
-- polynomial that is a modulo g and has n coefficients at most.
-- Assumes nothing.
use Rattle.std.specs.Prelude.{◌≡◌, List, ℕ, ◌-◌, ◌≤◌, ◌<◌, length}
use Rattle.std.proofs.Common.{sym, subst}
use Rattle.series.specs.Series.{Seq}
use Rattle.series.specs.Degree.{Below, Monic, below_mono}
use Rattle.zmod.specs.Zmod.{Zmod}
use Rattle.zmod.specs.Residues.{Reduced, poly, Residues, residues_poly}
use Rattle.divisibility.specs.Congruence.{Congruent}

pub record Divisor (p : ℕ) (g : List ℕ) : Type 0 where
  pub reduced : Reduced p g
  pub some : 0 < length g
  pub monic : Monic (Zmod p) (length g - 1) (poly p g)

pub record RemainderOf (p n : ℕ) (g a : Seq (Zmod p)) (r : List ℕ) : Type 0 where
  pub reduced : Reduced p r
  pub below : Below (Zmod p) n (poly p r)
  pub congruent : Congruent (Zmod p) g (poly p r) a

-- the slice that was divided held a, and the remainder is copied to where it is wanted
pub remainder_filled : {p n : ℕ} {g a : Seq (Zmod p)} {xs r : List ℕ} → Residues p a xs → Below (Zmod p) (length xs) a → RemainderOf p n g (poly p xs) r
    → RemainderOf p n g a r
remainder_filled {p} {n} {g} {a} {xs} {r} h below k = subst (λ s. RemainderOf p n g s r) (residues_poly h below) k

pub remainder_copied : {p n : ℕ} {g a : Seq (Zmod p)} {r s : List ℕ} → n ≤ length s → RemainderOf p n g a r → Residues p (poly p r) s → RemainderOf p n g a s
remainder_copied {p} {n} {g} {a} {r} {s} le h k = record {
  reduced = k.reduced;
  below = subst (Below (Zmod p) n) (sym is) h.below;
  congruent = subst (λ t. Congruent (Zmod p) g t a) (sym is) h.congruent;
}
  where
    is : poly p s ≡ poly p r
    is = residues_poly k (below_mono (Zmod p) n (length s) (poly p r) le h.below)
