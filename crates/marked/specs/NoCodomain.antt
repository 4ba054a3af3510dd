-- That no codomain passes for a kernel sheet, by computing: Vélu's is the only one that can meet R3, and for it R3 does not hold.
-- Assumes nothing.
use Rattle.std.specs.Prelude.{◌≡◌, refl, not, List, [], ◌∷◌, ℕ, zero, suc, ◌+◌, ◌*◌, ◌-◌, ◌%◌, ◌^◌, ◌<◌, ◌≤◌, T, length}
use Rattle.std.proofs.Math.Path.{sym, ap, ap₂}
use Rattle.std.proofs.Common.{◌∙◌, subst}
use Rattle.std.proofs.Math.ListN.{get_or}
use Rattle.ring.specs.Ring.{CRing, cast, pow}
use Rattle.ring.specs.Identity.{Ex, eval}
use Rattle.ring.specs.Identity.Ex.{var, num, :0, :1, ◌:+◌, ◌:-◌, ◌:*◌, :-◌, ◌:^◌}
use Rattle.series.specs.Series.{Seq, conv}
use Rattle.series.specs.Reversal.{rev}
use Rattle.zmod.specs.Zmod.{Elt, Zmod, mk, plus, times, minus, mk_mod, mk_add, mk_mul, mk_pow, cast_mk}
use Rattle.zmod.specs.Natural.{at as numbers}
use Rattle.zmod.specs.Residues.{poly, poly_at, poly_below}
use Rattle.zmod.specs.Calculation.{mul, poly_mul, mk_neg}
use Rattle.isogeny.specs.Rules.{Question, N, R1, R3}
use Rattle.isogeny.specs.Kernel.{kernel_question}
use Rattle.isogeny.specs.Velu.{sigma, sigma₂, sigma₃, t, w, velu_A, velu_B}
use Rattle.isogeny.proofs.Source.{velu}
use Rattle.sheet.specs.declared.Values.{Values}
use Rattle.sheet.specs.Values.{question, half}
use Rattle.promises.specs.Asked.{Passing}
use Rattle.marked.specs.Rules.{numerator, numerator_is, R3_test, R3_refuted, twice}

-- ── the value of an expression modulo p

abbrev residue : ℕ → (ℕ → ℕ) → Ex → ℕ
residue p ρ (var i) = ρ i
residue p ρ (num n) = n
residue p ρ :0 = 0
residue p ρ :1 = 1
residue p ρ (a :+ b) = (residue p ρ a + residue p ρ b) % p
residue p ρ (a :- b) = (residue p ρ a + (p - residue p ρ b % p)) % p
residue p ρ (a :* b) = (residue p ρ a * residue p ρ b) % p
residue p ρ (:- a) = p - residue p ρ a % p
residue p ρ (a :^ n) = residue p ρ a ^ n % p

residue_is : {p : ℕ} → 0 < p → (ρ : ℕ → ℕ) (e : Ex) → mk p (residue p ρ e) ≡ eval (Zmod p) (λ i. mk p (ρ i)) e
residue_is pos ρ (var i) = refl
residue_is {p} pos ρ (num n) = sym (cast_mk p n)
residue_is pos ρ :0 = refl
residue_is pos ρ :1 = refl
residue_is {p} pos ρ (a :+ b) = mk_mod pos _ ∙ mk_add p _ _ ∙ ap₂ (plus p) (residue_is pos ρ a) (residue_is pos ρ b)
residue_is {p} pos ρ (a :- b) =
    mk_mod pos _ ∙ mk_add p _ _ ∙ ap₂ (plus p) (residue_is pos ρ a) (mk_neg pos (residue p ρ b) ∙ ap (minus p) (residue_is pos ρ b))
residue_is {p} pos ρ (a :* b) = mk_mod pos _ ∙ mk_mul p _ _ ∙ ap₂ (times p) (residue_is pos ρ a) (residue_is pos ρ b)
residue_is {p} pos ρ (:- a) = mk_neg pos (residue p ρ a) ∙ ap (minus p) (residue_is pos ρ a)
residue_is {p} pos ρ (a :^ n) = mk_mod pos _ ∙ mk_pow p (residue p ρ a) n ∙ ap (λ x. pow (Zmod p) x n) (residue_is pos ρ a)

-- ── a coefficient counted from that of xⁿ down

abbrev from_top : ℕ → List ℕ → ℕ → ℕ
from_top zero δ zero = get_or δ 0 0
from_top zero δ (suc k) = 0
from_top (suc n) δ zero = get_or δ (suc n) 0
from_top (suc n) δ (suc k) = from_top n δ k

from_top_is : (p n : ℕ) (δ : List ℕ) (k : ℕ) → rev (Zmod p) n (poly p δ) k ≡ mk p (from_top n δ k)
unfolding rev
from_top_is p zero δ zero = poly_at p δ 0
from_top_is p zero δ (suc k) = refl
from_top_is p (suc n) δ zero = poly_at p δ (suc n)
from_top_is p (suc n) δ (suc k) = from_top_is p n δ k

-- ── Vélu's codomain: A, B, and the coefficients of x^(ℓ−2), x^(ℓ−3) and x^(ℓ−4) in D

abbrev :A : Ex
:A = var 0

abbrev :B : Ex
:B = var 1

abbrev :σ : Ex
:σ = :- (var 2)

abbrev :σ₂ : Ex
:σ₂ = var 3

abbrev :σ₃ : Ex
:σ₃ = :- (var 4)

abbrev :t : ℕ → Ex
:t d = :A :* num (2 * d) :+ num 3 :* (:σ :^ 2 :- num 2 :* :σ₂)

abbrev :w : ℕ → Ex
:w d = num 3 :* :A :* :σ :+ num 2 :* :B :* num (2 * d) :+ num 5 :* (:σ :^ 3 :- num 3 :* :σ :* :σ₂ :+ num 3 :* :σ₃)

module _ (v : Values) (γ : List ℕ) where
  abbrev p : ℕ
  p = v.p

  abbrev R : CRing
  R = Zmod p

  abbrev d : ℕ
  d = half v

  abbrev G : Seq R
  G = poly p γ

  abbrev D : List ℕ
  D = mul p γ γ

  abbrev coefficients : ℕ → ℕ
  coefficients = numbers (v.a ∷ v.b ∷ from_top (2 * d) D 1 ∷ from_top (2 * d) D 2 ∷ from_top (2 * d) D 3 ∷ [])

  abbrev codomain_a : ℕ
  codomain_a = residue p coefficients (:A :- num 5 :* :t d)

  abbrev codomain_b : ℕ
  codomain_b = residue p coefficients (:B :- num 7 :* :w d)

  -- the certificate's values: σ is −2 times the coefficient of x^(d−1) in g
  abbrev pub candidate : Values
  candidate = record {
    p = p;
    a = v.a;
    b = v.b;
    atilde = codomain_a;
    btilde = codomain_b;
    degree = v.degree;
    sigma = p - (2 * get_or γ (d - 1) 0) % p;
  }

  module _ (pos : 0 < p) where
    top : (k : ℕ) → rev R (2 * d) (conv R G G) k ≡ mk p (from_top (2 * d) D k)
    top k = ap (λ a. rev R (2 * d) a k) (sym (poly_mul pos γ γ)) ∙ from_top_is p (2 * d) D k

    codomain_a_is : velu_A R (mk p v.a) (mk p v.b) d (conv R G G) ≡ mk p codomain_a
    unfolding t sigma sigma₂
    codomain_a_is =
        ap₂ (λ x y. eval R (λ i. get_or (mk p v.a ∷ mk p v.b ∷ x ∷ y ∷ []) i (mk p 0)) (:A :- num 5 :* :t d)) (top 1) (top 2)
        ∙ sym (residue_is pos coefficients (:A :- num 5 :* :t d))

    codomain_b_is : velu_B R (mk p v.a) (mk p v.b) d (conv R G G) ≡ mk p codomain_b
    unfolding w sigma sigma₂ sigma₃
    codomain_b_is =
        ap₂ (λ x y. by x y (rev R (2 * d) (conv R G G) 3)) (top 1) (top 2) ∙ ap (by (mk p (from_top (2 * d) D 1)) (mk p (from_top (2 * d) D 2))) (top 3)
        ∙ sym (residue_is pos coefficients (:B :- num 7 :* :w d))
      where
        by : Elt p → Elt p → Elt p → Elt p
        by x y z = eval R (λ i. get_or (mk p v.a ∷ mk p v.b ∷ x ∷ y ∷ z ∷ []) i (mk p 0)) (:B :- num 7 :* :w d)

    sigma_is : minus p (times p (cast R 2) (G (d - 1))) ≡ mk p candidate.sigma
    sigma_is = ap (λ y. minus p (times p (cast R 2) y)) (poly_at p γ (d - 1)) ∙ sym (twice pos (get_or γ (d - 1) 0))

    abbrev to : Elt p → Elt p → Elt p → Question R
    to Ã B̃ σ = record { A = mk p v.a; B = mk p v.b; Ã = Ã; B̃ = B̃; d = d; σ = σ }

    pub no_codomain : 1 ≤ d → length γ ≤ suc d → G d ≡ mk p 1 → T (not (R3_test candidate γ (numerator candidate γ))) → Passing v γ → ⊥
    no_codomain d≥1 short leading no_R3 it =
        let q : Question R = kernel_question R (mk p v.a) (mk p v.b) d G it.Ã it.B̃ in
        let r1 : R1 R q G = record { degree = poly_below p γ (suc d) short; leading = leading; sigma = refl } in
        let forced = velu R q d≥1 G r1 it.passes.1 in
        let same : q ≡ question candidate =
        ap₂ (λ x y. to x y q.σ) (forced.0 ∙ codomain_a_is) (forced.1 ∙ codomain_b_is) ∙ ap (to (mk p codomain_a) (mk p codomain_b)) sigma_is in
        R3_refuted candidate γ (numerator candidate γ) pos no_R3
        (subst (R3 R (question candidate) G) (sym (numerator_is candidate γ pos))
        (subst (λ (x : Question R). R3 R x G (N R x G)) same it.passes.1))
