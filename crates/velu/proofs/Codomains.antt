-- A kernel polynomial's codomain: from the power sums and the expansion that code computes to the values of the certificate, and that no codomain
-- passes where this one does not.
-- Assumes nothing.
use mathlib.Core.Path.{◌≡◌, refl, sym, ◌∙◌, ap, ap₂, subst}
use mathlib.Core.Logic.{inl, inr}
use mathlib.Core.List.{List}
use Prim.Native.Nat.{ℕ, suc, ◌-◌, ◌<◌}
use native.Mathlib.Omega.{arith}
use lib.ListN.{length, get_or}
use Rattle.std.specs.Prelude.{Result, Ok, Err}
use Rattle.ring.specs.Ring.{cast}
use Rattle.series.specs.Series.{Seq}
use Rattle.series.specs.Degree.{Below}
use Rattle.zmod.specs.Zmod.{Elt, Zmod, mk, plus, times, minus, cast_mk, mk_apart}
use Rattle.zmod.specs.Residues.{Residue, Residues, poly, poly_at, poly_past, residue_same}
use Rattle.isogeny.specs.Curve.{Nonsingular}
use Rattle.isogeny.specs.Rules.{Question, N, R1, R3, Meets}
use Rattle.isogeny.specs.Expansion.{from_sums, expansion, power_sums_of}
use Rattle.isogeny.specs.Kernel.{kernel_question, codomain_A, codomain_B, Passes}
use Rattle.isogeny.proofs.Theorems as T
use Rattle.isogeny.proofs.Terms.{expansion_same}
use Rattle.questions.specs.declared.refusal.Refusal.{Refusal}
use Rattle.sheet.specs.declared.Values.{Values}
use Rattle.sheet.specs.Values.{question, half}
use Rattle.sheet.specs.Ready.{Ready, HoldsG, half_least}
use Rattle.promises.specs.Asked.{Leading, Passing}
use Rattle.promises.specs.Answer.{with}
use Rattle.certifying.specs.Certified.{Certified}
use Rattle.velu.specs.Completed.{Completed, Finished}

-- ── the values, from four power sums and h₁ and h₂

module _ (v : Values) (g s h : List ℕ) (ready : Ready v) (g_words : HoldsG v g) (s_length : length s ≡ 5) (h_length : length h ≡ 3)
    (sums : Residues v.p (power_sums_of (Zmod v.p) (half v) (poly v.p g)) s)
    (expanded : Residues v.p (expansion (Zmod v.p) (question v).A (question v).B (poly v.p s)) h) where
  abbrev p : ℕ
  p = v.p

  abbrev ps : Seq (Zmod p)
  ps = power_sums_of (Zmod p) (half v) (poly p g)

  sum_at : (i : ℕ) → i < 4 → poly p s i ≡ ps i
  sum_at i l = sums.coefficients i (omega arith)

  first : mk p (get_or h 1 0) ≡ from_sums (Zmod p) (mk p v.a) (mk p v.b) ps 1
  first =
      sym (poly_at p h 1) ∙ expanded.coefficients 1 (omega arith)
      ∙ expansion_same (Zmod p) (mk p v.a) (mk p v.b) 3 (poly p s) ps sum_at 1 (omega arith)

  second : mk p (get_or h 2 0) ≡ from_sums (Zmod p) (mk p v.a) (mk p v.b) ps 2
  second =
      sym (poly_at p h 2) ∙ expanded.coefficients 2 (omega arith)
      ∙ expansion_same (Zmod p) (mk p v.a) (mk p v.b) 3 (poly p s) ps sum_at 2 (omega arith)

  pub completes : {ã b̃ t σ : ℕ} → Residue p (plus p (mk p v.a) (minus p (times p (mk p 5) (mk p (get_or h 1 0))))) ã
      → Residue p (plus p (mk p v.b) (minus p (times p (mk p 7) (mk p (get_or h 2 0))))) b̃
      → Residue p (times p (mk p 2) (mk p (get_or g (length g - 2) 0))) t → Residue p (minus p (mk p t)) σ → Completed v g (with v ã b̃ σ)
  completes {ã} {b̃} {t} {σ} ha hb ht hσ = record {
    ã = ã;
    b̃ = b̃;
    σ = σ;
    is = refl;
    ã-is = residue_same (ap (λ z. plus p (mk p v.a) (minus p z)) (ap₂ (times p) (sym (cast_mk p 5)) first)) ha;
    b̃-is = residue_same (ap (λ z. plus p (mk p v.b) (minus p z)) (ap₂ (times p) (sym (cast_mk p 7)) second)) hb;
    σ_is =
        residue_same
        (ap (minus p)
        (ht.class ∙ ap₂ (times p) (sym (cast_mk p 2)) (sym (poly_at p g (length g - 2)) ∙ ap (poly p g) (omega arith))))
        hσ;
  }

-- ── what holds of the completed values

pub record Facts (v : Values) (g : List ℕ) (w : Values) : Type 0 where
  pub ready : Ready w
  pub g_words : HoldsG w g
  pub r1 : R1 (Zmod w.p) (question w) (poly w.p g)
  -- whatever passes, the completed codomain does
  pub curve : Passing v g → Nonsingular (Zmod w.p) (question w).Ã (question w).B̃
  pub meets : Passing v g → Meets (Zmod w.p) (question w) (poly w.p g)
  -- where it is a curve, what becomes of g is the answer
  pub finished : (before after : List ℕ) (r : Result ℕ Refusal) → Nonsingular (Zmod w.p) (question w).Ã (question w).B̃ → Certified w g before after r
      → Finished v g before after r

module _ (v : Values) (ready : Ready v) (g : List ℕ) (g_words : HoldsG v g) (leading : Leading v g) where
  abbrev π : ℕ
  π = v.p

  abbrev G : Seq (Zmod v.p)
  G = poly v.p g

  abbrev d : ℕ
  d = half v

  abbrev A : Elt v.p
  A = mk v.p v.a

  abbrev B : Elt v.p
  B = mk v.p v.b

  abbrev sums : Seq (Zmod v.p)
  sums = power_sums_of (Zmod v.p) (half v) (poly v.p g)

  below : Below (Zmod π) (suc (half v)) (poly π g)
  below i l = poly_past π g i (omega arith)

  module _ (ã b̃ σ : ℕ) (ã-is : Residue π (codomain_A (Zmod π) A B sums) ã) (b̃-is : Residue π (codomain_B (Zmod π) A B sums) b̃)
      (σ_is : Residue π (minus π (times π (cast (Zmod π) 2) (G (d - 1)))) σ) where
    abbrev w : Values
    w = with v ã b̃ σ

    with_σ : Elt π → Question (Zmod π)
    with_σ s = record { A = A; B = B; Ã = mk π ã; B̃ = mk π b̃; d = d; σ = s }

    -- R1's σ
    asks : question w ≡ kernel_question (Zmod π) A B d G (mk π ã) (mk π b̃)
    unfolding with_σ
    asks = ap with_σ σ_is.class

    first_rule : R1 (Zmod π) (question w) G
    first_rule = subst (λ q. R1 (Zmod π) q G) (sym asks) (T.kernel_R1 ready.prime.prime A B d G below leading (mk π ã) (mk π b̃))

    -- if any codomain passes, this one does
    only : Passing v g → Passes (Zmod π) A B d G (mk π ã) (mk π b̃)
    only pass =
        let one : Passes (Zmod π) A B d G (codomain_A (Zmod π) A B sums) (codomain_B (Zmod π) A B sums) =
        (T.kernel ready.prime.prime A B d (half_least v ready) G below leading sums (T.power_sums_exist ready.prime.prime d G leading 3)).0
        (pass.Ã, pass.B̃, pass.passes) in
        subst (λ a. Passes (Zmod π) A B d G a (mk π b̃)) (sym ã-is.class)
        (subst (λ b. Passes (Zmod π) A B d G (codomain_A (Zmod π) A B sums) b) (sym b̃-is.class) one)

    third_rule : Passing v g → R3 (Zmod π) (question w) G (N (Zmod π) (question w) G)
    third_rule pass = subst (λ q. R3 (Zmod π) q G (N (Zmod π) q G)) (sym asks) (only pass).1

    passing : Nonsingular (Zmod π) (mk π ã) (mk π b̃) → Meets (Zmod π) (question w) G → Passing v g
    passing curve m = record { Ã = mk π ã; B̃ = mk π b̃; passes = (curve, subst (λ q. R3 (Zmod π) q G (N (Zmod π) q G)) asks m.r3) }

    all_with : (before after : List ℕ) (r : Result ℕ Refusal) → Nonsingular (Zmod π) (mk π ã) (mk π b̃) → Certified w g before after r
        → Finished v g before after r
    all_with before after (Ok c) curve h = (
      (leading, (passing curve (subst (λ g. Meets (Zmod π) (question w) (poly π g)) h.same_g h.certificate.meets), tt)),
      record {
        ã = ã;
        b̃ = b̃;
        σ = σ;
        ã-below = ã-is.below;
        b̃-below = b̃-is.below;
        σ_below = σ_is.below;
        nonsingular = curve;
        certificate = h.certificate;
        same_g = h.same_g;
      },
    )
    all_with before after (Err refusal) curve h =
        (inr (leading, inl (h.number, λ pass. h.unmet (record { r1 = first_rule; r3 = third_rule pass }))), h.kept)

    facts_with : Facts v g w
    facts_with = record {
      ready = record {
        prime = ready.prime;
        degree = ready.degree;
        below = record { a = ready.below.a; b = ready.below.b; atilde = ã-is.below; btilde = b̃-is.below; sigma = σ_is.below };
      };
      g_words = record { count = g_words.count; reduced = g_words.reduced };
      r1 = first_rule;
      curve = λ pass. (only pass).0;
      meets = λ pass. record { r1 = first_rule; r3 = third_rule pass };
      finished = all_with;
    }

  pub facts : {w : Values} → Completed v g w → Facts v g w
  facts c = subst (Facts v g) (sym c.is) (facts_with c.ã c.b̃ c.σ c.ã-is c.b̃-is c.σ_is)

-- ── question 8 from what code tests

module _ (v : Values) (ready : Ready v) (g : List ℕ) (g_words : HoldsG v g) where
  pub is_leading : get_or g (length g - 1) 0 ≡ 1 → Leading v g
  is_leading e = ap (poly v.p g) (omega arith) ∙ poly_at v.p g (length g - 1) ∙ ap (mk v.p) e

  pub not_leading : (get_or g (length g - 1) 0 ≡ 1 → ⊥) → Leading v g → ⊥
  not_leading other e =
      other (mk_apart {p = v.p} (omega arith) (get_or g (length g - 1) 0) 1 (g_words.reduced (length g - 1)) (omega arith)
      (sym (poly_at v.p g (length g - 1)) ∙ ap (poly v.p g) (omega arith) ∙ e))

  -- where it is 1, what holds of the completed values
  pub facts_of : get_or g (length g - 1) 0 ≡ 1 → {w : Values} → Completed v g w → Facts v g w
  facts_of one = facts v ready g g_words (is_leading one)
