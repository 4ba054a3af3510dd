-- How many abscissas of the kernel are rational (document 02, E6). The count is d at most.
-- Assumes nothing.
use Rattle.std.specs.Prelude.{◌≡◌, List, ℕ, suc, ◌-◌, ◌^◌, ◌≤◌, ◌<◌, length}
use Rattle.std.proofs.Common.{sym, ap, subst, arith}
use Rattle.series.specs.Degree.{Monic}
use Rattle.zmod.specs.Zmod.{Zmod}
use Rattle.zmod.specs.Residues.{poly}
use Rattle.isogeny.specs.Rules.{R1}
use Rattle.roots.specs.Rational.{rational_roots}
use Rattle.roots.proofs.Theorems.{roots_most}
use Rattle.sheet.specs.declared.Values.{Values}
use Rattle.sheet.specs.Values.{half, question}
use Rattle.sheet.specs.Ready.{Ready, HoldsG, half_most}

-- the count of u from 0 to p − 1 with g(u) = 0
abbrev pub rational_abscissas_of : Values → List ℕ → ℕ
rational_abscissas_of v g = rational_roots v.p (length g) (poly v.p g)

module _ (v : Values) (ready : Ready v) (g : List ℕ) (words : HoldsG v g) (r1 : R1 (Zmod v.p) (question v) (poly v.p g)) where
  pub monic : Monic (Zmod v.p) (length g - 1) (poly v.p g)
  monic =
      let e : length g - 1 ≡ half v = omega (arith, words.count) in
      subst (λ n. Monic (Zmod v.p) n (poly v.p g)) (sym e) (record { below = r1.degree; one = r1.leading })

  -- there are d at most
  pub abscissas_most : rational_abscissas_of v g ≤ half v
  abscissas_most =
      let e : suc (length g - 1) ≡ length g = omega (arith, words.count) in
      let most = roots_most ready.prime.prime (length g - 1) (poly v.p g) monic in
      omega (arith, most, ap (λ n. rational_roots v.p n (poly v.p g)) e, words.count)

  -- so they are a value of a word
  pub abscissas_fit : rational_abscissas_of v g < 2 ^ 28
  abscissas_fit = omega (arith, abscissas_most, half_most v ready)
