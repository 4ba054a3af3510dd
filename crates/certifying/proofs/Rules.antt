-- R3 of g with R2's N is R3 with the words of N, which a test has decided.
-- Assumes nothing.
use mathlib.Core.Path.{◌≡◌, sym, subst}
use mathlib.Core.Logic.{◌↔◌}
use mathlib.Core.Bool.{Bool, true, false, not}
use mathlib.Core.List.{List}
use Prim.Native.Nat.{ℕ}
use Rattle.zmod.specs.Zmod.{Zmod}
use Rattle.zmod.specs.Residues.{poly}
use Rattle.isogeny.specs.Rules.{N, R1, R3, Meets}
use Rattle.questions.specs.Tests.{refuted, shown}
use Rattle.sheet.specs.declared.Values.{Values}
use Rattle.sheet.specs.Values.{question}

module _ (v : Values) (g n : List ℕ) (holds : Bool) (n_is : poly v.p n ≡ N (Zmod v.p) (question v) (poly v.p g))
    (test : (holds ≡ true) ↔ R3 (Zmod v.p) (question v) (poly v.p g) (poly v.p n)) where
  pub refused : not holds ≡ true → Meets (Zmod v.p) (question v) (poly v.p g) → ⊥
  refused f m = refuted test f (subst (R3 (Zmod v.p) (question v) (poly v.p g)) (sym n_is) m.r3)

  pub meets : R1 (Zmod v.p) (question v) (poly v.p g) → not holds ≡ false → Meets (Zmod v.p) (question v) (poly v.p g)
  meets r1 t = record { r1 = r1; r3 = subst (R3 (Zmod v.p) (question v) (poly v.p g)) n_is (shown test t) }
