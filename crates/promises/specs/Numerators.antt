-- The words of N: where they are enough, they hold the N of R2 whole.
-- Assumes nothing.
use Rattle.std.specs.Prelude.{◌≡◌, List, ℕ, ◌+◌, ◌*◌, length}
use Rattle.std.proofs.Common.{arith}
use Rattle.zmod.specs.Zmod.{Zmod}
use Rattle.zmod.specs.Residues.{Residues, poly, poly_past, residues_poly}
use Rattle.isogeny.specs.Rules.{N}
use Rattle.sheet.specs.declared.Values.{Values}
use Rattle.sheet.specs.Values.{half, question}
use Rattle.sheet.specs.Ready.{Ready, HoldsG, HoldsN, half_least}
use Rattle.rules.specs.Numerator.{N_below}

module _ (v : Values) (ready : Ready v) (g n : List ℕ) (g_words : HoldsG v g) (count : length n ≡ 2 * half v + 2)
    (n_is : Residues v.p (N (Zmod v.p) (question v) (poly v.p g)) n) where
  pub holds_n : HoldsN v n
  holds_n = record { count = count; reduced = n_is.reduced }

  -- 2d + 2 words hold it whole
  pub whole_numerator : poly v.p n ≡ N (Zmod v.p) (question v) (poly v.p g)
  whole_numerator =
      residues_poly n_is (λ i l.
      N_below (Zmod v.p) (question v) (poly v.p g) (half_least v ready) (λ j m. poly_past v.p g j (omega arith)) i (omega arith))

  pub numerator_words : HoldsN v n × (poly v.p n ≡ N (Zmod v.p) (question v) (poly v.p g))
  numerator_words = (holds_n, whole_numerator)
