-- The sum of the poles of the expansion is the only kernel sum that can have a g which meets the rules; where it is missing, no σ has one.
-- Assumes nothing.
use Rattle.std.specs.Prelude.{◌≡◌, List, Option, None, Some, ℕ, ◌+◌, ◌*◌, ◌-◌, ◌/◌, ◌<◌, length}
use Rattle.std.proofs.Common.{subst, arith}
use Rattle.ring.specs.Ring.{CRing}
use Rattle.series.specs.Series.{Seq}
use Rattle.zmod.specs.Zmod.{Zmod, mk}
use Rattle.zmod.specs.Residues.{poly}
use Rattle.reconstruction.specs.Approximant.{Fits}
use Rattle.kernel_sum.specs.WithoutSum.{Expands, Found}
use Rattle.kernel_sum.proofs.Theorems as Theorems
use Rattle.sheet.specs.declared.Values.{Values}
use Rattle.sheet.specs.Values.{half, question}
use Rattle.sheet.specs.Ready.{half_least, degree_half}
use Rattle.expansion.specs.Equations.{Solved}
use Rattle.recurrence.specs.Equations.{HAt}
use Rattle.recurrence.specs.Expands as Words
use Rattle.poles.specs.Poles.{SumOf, PolesOf}
use Rattle.candidate_sum.specs.CandidateSum.{CandidateSum, Determined}

module _ (v : Values) (h : List ℕ) (asks : Determined v) (size : length h ≡ 4 * half v + 1)
    (solved : Solved v.p (HAt (Zmod v.p) (question v)) h (length h)) where
  abbrev R : CRing
  R = Zmod v.p

  abbrev d : ℕ
  d = half v

  abbrev H : Seq R
  H = poly v.p h

  some : 0 < d
  some = half_least v asks.ready

  expands : Expands R (question v).A (question v).B (question v).Ã (question v).B̃ (4 * d) H
  expands = record {
    zeroth = Words.zeroth solved (omega (arith, size));
    first = Words.first solved (omega (arith, size, some));
    second = Words.second solved (omega (arith, size, some));
    recurs = λ k l m. Words.recurs solved k l (omega (arith, size));
  }

  part : (length h - 1) / 2 ≡ 2 * d
  part = omega (arith, size)

  small : 4 * (2 * d + 1) - 1 < v.p
  small = omega (arith, asks.large, degree_half v asks.ready)

  module _ (result : Option ℕ) (poles : PolesOf v.p h result) where
    found : Found R d H poles.r poles.t
    found =
        subst (λ n. Fits R n H (2 * d) poles.r poles.t) (omega (arith, size))
        (subst (λ a. Fits R (length h - 1) H a poles.r poles.t) part poles.found)

    pub candidate_sum_lem : CandidateSum v result
    candidate_sum_lem = go result (subst (λ a. SumOf v.p a poles.t result) part poles.sum)
      where
        go : (result : Option ℕ) → SumOf v.p (2 * d) poles.t result → CandidateSum v result
        go None e =
            Theorems.none asks.ready.prime.prime (question v).A (question v).B (question v).Ã (question v).B̃ d some small asks.curve H poles.r
            poles.t expands found poles.nonzero e
        go (Some s) (below, apart, e) = (
          below,
          Theorems.only asks.ready.prime.prime (question v).A (question v).B (question v).Ã (question v).B̃ d some small asks.curve H poles.r
              poles.t expands found (mk v.p s) apart e,
        )
