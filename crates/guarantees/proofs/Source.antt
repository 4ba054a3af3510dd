-- Demand 2 in the formulas of source document 001, about sheets: the codomain on a certificate is Vélu's as that document computes it from the first
-- coefficients of D = g², and the certificate's N is that of its formula (13). (The formulas are in `isogeny/specs/Velu` and `isogeny/specs/Source`.)
-- Assumes nothing.
use Rattle.std.specs.Prelude.{◌≡◌, List, ℕ, suc, take, Ok}
use Rattle.std.proofs.Common.{sym, subst, arith}
use Rattle.ring.specs.Ring.{CRing}
use Rattle.series.specs.Series.{Seq, conv}
use Rattle.series.specs.Degree.{Below}
use Rattle.zmod.specs.Zmod.{Zmod}
use Rattle.zmod.specs.Residues.{poly_below}
use Rattle.isogeny.specs.Rules.{Meets}
use Rattle.isogeny.specs.Kernel.{kernel_question}
use Rattle.isogeny.specs.Velu.{velu_A, velu_B}
use Rattle.isogeny.specs.Source.{Formula13}
use Rattle.isogeny.proofs.Source.{velu, formula_13}
use Rattle.isogeny.proofs.Theorems.{kernel_R1}
use Rattle.questions.specs.Questions.{AllYes}
use Rattle.sheet.specs.declared.Form.TheVariants.{Certificate, Kernel}
use Rattle.sheet.specs.Values.{values_of, half, gOf}
use Rattle.sheet.specs.Asked.{asked}
use Rattle.sheet.specs.Ready.{Ready, ready, half_least}
use Rattle.reading.specs.Accepted.{kernel_g}
use Rattle.promises.specs.Asked.{Leading, prime, put, g, n, check_asks}
use Rattle.promises.specs.Answer.{SolveRight, KernelRight}
use Rattle.promises.specs.Certificates.{certificate_ready, certificate_N, certificate_meets}
use Rattle.guarantees.specs.Solve.{solve_certified}
use Rattle.guarantees.specs.Kernel.{kernel_certified}
use Rattle.guarantees.proofs.Demands.{KernelPasses}

-- ── certificates

-- The codomain on a certificate sheet is Vélu's: Ã = A − 5t and B̃ = B − 7w, with t and w from the first coefficients of D = g².
abbrev pub VeluCodomain : List ℕ → Type 0
VeluCodomain ws =
    ((put Certificate ws).Ã
    ≡ velu_A (Zmod (prime Certificate ws)) (put Certificate ws).A (put Certificate ws).B (put Certificate ws).d
    (conv (Zmod (prime Certificate ws)) (g Certificate ws) (g Certificate ws)))
    × ((put Certificate ws).B̃
    ≡ velu_B (Zmod (prime Certificate ws)) (put Certificate ws).A (put Certificate ws).B (put Certificate ws).d
    (conv (Zmod (prime Certificate ws)) (g Certificate ws) (g Certificate ws)))

-- N/D on a certificate sheet, with D = g², is the right-hand side of formula (13), both sides times D².
abbrev pub SourceFormula : List ℕ → Type 0
SourceFormula ws =
    Formula13 (Zmod (prime Certificate ws)) (put Certificate ws) (conv (Zmod (prime Certificate ws)) (g Certificate ws) (g Certificate ws)) (n Certificate ws)

module _ (ws : List ℕ) (passes : AllYes (check_asks ws)) where
  abbrev p : ℕ
  p = prime Certificate ws

  -- Every certificate that passes carries Vélu's codomain,
  pub certificate_velu : VeluCodomain ws
  certificate_velu =
      let meets : Meets (Zmod p) (put Certificate ws) (g Certificate ws) = certificate_meets ws passes in
      velu (Zmod p) (put Certificate ws) (half_least (values_of Certificate ws) (certificate_ready ws passes)) (g Certificate ws) meets.r1 meets.r3

  -- and its N is that of formula (13).
  pub certificate_13 : SourceFormula ws
  certificate_13 =
      subst (Formula13 (Zmod p) (put Certificate ws) (conv (Zmod p) (g Certificate ws) (g Certificate ws))) (sym (certificate_N ws passes))
      (formula_13 (Zmod p) (put Certificate ws) (g Certificate ws))

-- ── what solve and kernel write

-- So does what solve writes,
pub solve_source : (ws before after : List ℕ) (c : ℕ) → SolveRight ws before after (Ok c)
    → VeluCodomain (take c after) × SourceFormula (take c after)
solve_source ws before after c h =
    let passes : AllYes (check_asks (take c after)) = solve_certified ws before after c h in
    (certificate_velu (take c after) passes, certificate_13 (take c after) passes)

-- and what kernel writes.
pub kernel_source : (ws before after : List ℕ) (c : ℕ) → KernelRight ws before after (Ok c)
    → VeluCodomain (take c after) × SourceFormula (take c after)
kernel_source ws before after c h =
    let passes : AllYes (check_asks (take c after)) = kernel_certified ws before after c h in
    (certificate_velu (take c after) passes, certificate_13 (take c after) passes)

-- ── kernel sheets

module _ (ws : List ℕ) where
  abbrev R : CRing
  R = Zmod (prime Kernel ws)

  abbrev D : Seq R
  D = conv R (g Kernel ws) (g Kernel ws)

  -- For a kernel sheet that comes as far as question 11, the only codomain that can pass 7 and meet R3 is Vélu's, computed from the sheet's own g.
  pub kernel_velu : AllYes (asked Kernel ws) → Leading (values_of Kernel ws) (gOf Kernel ws) → (Ã B̃ : R.Car) → KernelPasses ws Ã B̃
      → (Ã ≡ velu_A R (put Kernel ws).A (put Kernel ws).B (put Kernel ws).d D) × (B̃ ≡ velu_B R (put Kernel ws).A (put Kernel ws).B (put Kernel ws).d D)
  kernel_velu all leading Ã B̃ passes =
      let A : R.Car = (put Kernel ws).A in
      let B : R.Car = (put Kernel ws).B in
      let d : ℕ = half (values_of Kernel ws) in
      let known : Ready (values_of Kernel ws) = ready Kernel ws all in
      let below : Below R (suc d) (g Kernel ws) = poly_below (prime Kernel ws) (gOf Kernel ws) (suc d) (omega (arith, (kernel_g ws all).count)) in
      velu R (kernel_question R A B d (g Kernel ws) Ã B̃) (half_least (values_of Kernel ws) known) (g Kernel ws)
      (kernel_R1 known.prime.prime A B d (g Kernel ws) below leading Ã B̃) passes.1
