-- What a comparison of words says of R1.
-- Assumes nothing.
use mathlib.Core.Path.{◌≡◌, sym, ◌∙◌, ap}
use mathlib.Core.Logic.{◌↔◌}
use mathlib.Core.Bool.{true, false}
use mathlib.Core.List.{List}
use Prim.Native.Nat.{ℕ, suc, ◌+◌, ◌-◌}
use native.Mathlib.Omega.{arith}
use borrow.Author.Tests.{eq-eqb, eqb-true}
use lib.Dec.{eqb}
use lib.ListN.{length, get_or}
use Rattle.ring.specs.Ring.{cast}
use Rattle.series.specs.Degree.{Below}
use Rattle.zmod.specs.Zmod.{Zmod, mk, minus, times, mk_apart, cast_mk}
use Rattle.zmod.specs.Residues.{Residue, Reduced, poly, poly_at, poly_past, residue_same}
use Rattle.isogeny.specs.Rules.{R1}
use Rattle.sheet.specs.declared.Values.{Values}
use Rattle.sheet.specs.Values.{half, question}
use Rattle.sheet.specs.Ready.{Ready}

module _ (v : Values) (ready : Ready v) (g : List ℕ) (size : length g ≡ half v + 1) (low : Reduced v.p g) where
  abbrev p : ℕ
  p = v.p

  g_below : Below (Zmod p) (suc (half v)) (poly p g)
  g_below i l = poly_past p g i (omega arith)

  first : R1 (Zmod p) (question v) (poly p g) → get_or g (half v) 0 ≡ 1
  first r = mk_apart {p = p} (omega arith) (get_or g (half v) 0) 1 (low (half v)) (omega arith) (sym (poly_at p g (half v)) ∙ r.leading)

  pub one_no : (d : ℕ) → d ≡ half v → (get_or g d 0 ≡ 1 → ⊥) → (false ≡ true) ↔ (R1 (Zmod p) (question v) (poly p g))
  one_no d e other = (λ h. absurd (no_bool h), λ r. absurd (other (ap (λ i. get_or g i 0) e ∙ first r)))
    where
      no_bool : false ≡ true → ⊥
      no_bool h = let z : ◌≡◌ {A = ℕ} 0 1 = cc in omega arith

  module _ (m : ℕ) (is : Residue p (minus p (times p (mk p 2) (mk p (get_or g (half v - 1) 0)))) m) where
    twice : minus p (times p (mk p 2) (mk p (get_or g (half v - 1) 0))) ≡ minus p (times p (cast (Zmod p) 2) (poly p g (half v - 1)))
    twice = ap (λ z. minus p (times p z (mk p (get_or g (half v - 1) 0)))) (sym (cast_mk p 2)) ∙ ap (λ z. minus p (times p (cast (Zmod p) 2) z))
        (sym (poly_at p g (half v - 1)))

    to : get_or g (half v) 0 ≡ 1 → m ≡ v.sigma → R1 (Zmod p) (question v) (poly p g)
    to e h = record {
      degree = g_below;
      leading = poly_at p g (half v) ∙ ap (mk p) e;
      sigma = ap (mk p) (sym h) ∙ is.class ∙ twice;
    }

    from : R1 (Zmod p) (question v) (poly p g) → m ≡ v.sigma
    from r = mk_apart {p = p} (omega arith) m v.sigma is.below ready.below.sigma (is.class ∙ twice ∙ sym r.sigma)

    last : get_or g (half v) 0 ≡ 1 → (eqb m v.sigma ≡ true) ↔ (R1 (Zmod p) (question v) (poly p g))
    last e = (λ h. to e (eqb-true m v.sigma h), λ r. eq-eqb m v.sigma (from r))

  pub one_last : (d m : ℕ) → d ≡ half v → get_or g d 0 ≡ 1 → Residue p (minus p (times p (mk p 2) (mk p (get_or g (d - 1) 0)))) m
      → (eqb m v.sigma ≡ true) ↔ (R1 (Zmod p) (question v) (poly p g))
  one_last d m e f is =
      last m (residue_same (ap (λ i. minus p (times p (mk p 2) (mk p (get_or g (i - 1) 0)))) e) is) (ap (λ i. get_or g i 0) (sym e) ∙ f)
