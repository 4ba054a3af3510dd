-- R3 is asked of the N that R2 gives, and said of the words of N.
-- Assumes nothing.
use mathlib.Core.Path.{◌≡◌, sym, subst}
use mathlib.Core.Logic.{◌↔◌}
use mathlib.Core.Bool.{Bool, true}
use mathlib.Core.List.{List}
use Prim.Native.Nat.{ℕ}
use Rattle.zmod.specs.Zmod.{Zmod}
use Rattle.zmod.specs.Residues.{poly}
use Rattle.isogeny.specs.Rules.{N, R3}
use Rattle.sheet.specs.declared.Values.{Values}
use Rattle.sheet.specs.Values.{question}

-- R3 of the words of N is R3 of N
pub of_words : (v : Values) (g n : List ℕ) (r : Bool) → poly v.p n ≡ N (Zmod v.p) (question v) (poly v.p g)
    → (r ≡ true) ↔ R3 (Zmod v.p) (question v) (poly v.p g) (N (Zmod v.p) (question v) (poly v.p g))
    → (r ≡ true) ↔ R3 (Zmod v.p) (question v) (poly v.p g) (poly v.p n)
of_words v g n r e = subst (λ a. (r ≡ true) ↔ R3 (Zmod v.p) (question v) (poly v.p g) a) (sym e)
