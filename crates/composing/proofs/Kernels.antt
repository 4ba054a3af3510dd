-- The composite's g and N from what code computes: they are those of the right answer, and they meet the rules.
-- Assumes nothing.
use mathlib.Core.Path.{◌≡◌, refl, sym, ◌∙◌, ap, ap₂, subst}
use mathlib.Core.List.{List}
use mathlib.Core.Bool.{true}
use mathlib.Core.Logic.{◌↔◌}
use Prim.Native.Nat.{ℕ, ◌+◌, ◌-◌, ◌*◌, ◌%◌, ◌^◌, ◌≤◌, ◌<◌}
use native.Mathlib.Nat as Nat
use native.Mathlib.Omega.{arith}
use lib.ListN.{length}
use Rattle.std.specs.Prelude.{Result, Ok, Err}
use Rattle.ring.specs.Ring.{pow}
use Rattle.series.specs.Series.{Series, Seq, conv}
use Rattle.zmod.specs.Zmod.{Zmod, mk}
use Rattle.zmod.specs.Residues.{Residue, Residues, poly, residue_unique, residue_mod, residues_same}
use Rattle.isogeny.specs.Rules.{N, R3, Meets}
use Rattle.composition.specs.Substitution.{homogenize}
use Rattle.composition.specs.Composite.{composite_g}
use Rattle.questions.specs.declared.refusal.Refusal.{Refusal}
use Rattle.sheet.specs.declared.Values.{Values}
use Rattle.sheet.specs.Values.{half, question}
use Rattle.sheet.specs.Ready.{Ready, HoldsG, half_most}
use Rattle.promises.specs.Answer.{composed}
use Rattle.promises.specs.Composed.{composed_half, composed_ready, composed_meets, whole_composite}
use Rattle.certifying.specs.Certified.{Certified}
use Rattle.composing.specs.Joined.{Joined, Composed}

-- ── the values

-- the products of two degrees
pub product_most : (v w : Values) → Ready v → Ready w → v.degree * w.degree ≤ 65025
product_most v w r s = Nat.mul-le-mul {n₁ = v.degree} {m₁ = w.degree} {n₂ = 255} {m₂ = 255} r.degree.most s.degree.most

pub product_some : (v w : Values) → Ready v → Ready w → 1 ≤ v.degree * w.degree
product_some v w r s = Nat.mul-le-mul {n₁ = 1} {m₁ = 1} {n₂ = v.degree} {m₂ = w.degree} (omega (arith, r.degree)) (omega (arith, s.degree))

-- σ₂ + ℓ₂σ₁ before any remainder
pub sum_fits : (v w : Values) → Ready v → Ready w → (x y : ℕ) → x ≡ w.sigma → y ≡ w.degree * v.sigma → x + y < 2 ^ 64
sum_fits v w r s x y e f =
    let most : w.degree * v.sigma ≤ 255 * 268435456 =
    Nat.mul-le-mul {n₁ = w.degree} {m₁ = v.sigma} {n₂ = 255} {m₂ = 268435456} s.degree.most (omega (arith, r.below.sigma, r.prime.most)) in
    omega (arith, e, f, most, s.below.sigma, s.prime.most)

pub values_are : (v w : Values) → Ready v → (degree sum σ : ℕ) → degree ≡ v.degree * w.degree → sum ≡ w.sigma + w.degree * v.sigma
    → Residue v.p (mk v.p sum) σ
    → ◌≡◌ {A = Values} (record {
      p = v.p;
      a = v.a;
      b = v.b;
      atilde = w.atilde;
      btilde = w.btilde;
      degree = degree;
      sigma = σ;
    }) (composed v w)
values_are v w r degree sum σ degree_is sum_is_lem h = λ i. record {
  p = v.p;
  a = v.a;
  b = v.b;
  atilde = w.atilde;
  btilde = w.btilde;
  degree = degree_is i;
  sigma = (residue_unique h (residue_mod (omega (arith, r.prime.least)) sum) ∙ ap (λ x. x % v.p) sum_is_lem) i;
}

-- ── the coefficients

module _ (v w : Values) (g₁ n₁ g₂ : List ℕ) (j : Joined v w g₁ n₁ g₂) where
  abbrev G : Seq (Zmod v.p)
  G = composite_g (Zmod v.p) (question v) (half w) (poly v.p g₁) (poly v.p g₂)

  pub both_ready : Ready (composed v w)
  both_ready = composed_ready v w j.ready₁ j.ready₂ j.meet j.allowed

  -- its d, and what code finds for it
  pub both_half : (u : Values) (d : ℕ) → u ≡ composed v w → d ≡ half u → (d ≡ half (composed v w)) × (d ≤ 127)
  both_half u d e f = let same : d ≡ half (composed v w) = f ∙ ap half e in (same, omega (arith, same, half_most _ both_ready))

  -- the words of g: ℓ₁d₂ more than those of g₁
  pub words_are : half (composed v w) + 1 ≡ length g₁ + (length g₂ - 1) * (2 * length g₁ - 1)
  words_are =
      let h : half (composed v w) ≡ half v + half w * (2 * half v + 1) = composed_half v w j.ready₁ j.ready₂ j.meet j.allowed in
      let a : (length g₂ - 1) * (2 * length g₁ - 1) ≡ half w * (2 * half v + 1) =
      ap₂ ◌*◌ (omega (arith, j.g₂_words.count)) (omega (arith, j.g₁_words.count)) in
      omega (arith, h, a, j.g₁_words.count)

  -- what Horner's rule gives over a p that is the sheets'
  composite_at : (p : ℕ) → p ≡ v.p → (xs : List ℕ)
      → Residues p (conv (Zmod p) (poly p g₁) (homogenize (Zmod p) (poly p n₁) (pow (Series (Zmod p)) (poly p g₁) 2) (length g₂ - 1) (poly p g₂))) xs
      → Residues v.p G xs
  unfolding composite_g
  composite_at p e xs h =
      residues_same
      (ap₂ (λ n d. conv (Zmod v.p) (poly v.p g₁) (homogenize (Zmod v.p) n (pow (Series (Zmod v.p)) (poly v.p g₁) 2) d (poly v.p g₂)))
      j.n₁_is (omega (arith, j.g₂_words.count)))
      (subst
      (λ p. Residues p
      (conv (Zmod p) (poly p g₁) (homogenize (Zmod p) (poly p n₁) (pow (Series (Zmod p)) (poly p g₁) 2) (length g₂ - 1) (poly p g₂))) xs) e h)

  module _ (p : ℕ) (same : p ≡ v.p) (g : List ℕ) (count : length g ≡ half (composed v w) + 1)
      (made : Residues p (conv (Zmod p) (poly p g₁) (homogenize (Zmod p) (poly p n₁) (pow (Series (Zmod p)) (poly p g₁) 2) (length g₂ - 1) (poly p g₂))) g)
    where
      residues : Residues v.p G g
      residues = composite_at p same g made

      pub both_g : HoldsG (composed v w) g
      both_g = record { count = count; reduced = residues.reduced }

      pub g_whole : poly v.p g ≡ composite_g (Zmod v.p) (question v) (half w) (poly v.p g₁) (poly v.p g₂)
      g_whole = whole_composite v w j.ready₁ j.ready₂ j.meet j.allowed g₁ g₂ j.meets₁ j.meets₂ g count residues

      pub both_meets : Meets (Zmod v.p) (question (composed v w)) (poly v.p g)
      both_meets =
          subst (Meets (Zmod v.p) (question (composed v w))) (sym g_whole)
          (composed_meets v w j.ready₁ j.ready₂ j.meet j.allowed g₁ g₂ j.meets₁ j.meets₂)

      -- R3 holds, so it need not be evaluated
      pub third_rule : (n : List ℕ) → poly v.p n ≡ N (Zmod v.p) (question (composed v w)) (poly v.p g)
          → (true ≡ true) ↔ R3 (Zmod v.p) (question (composed v w)) (poly v.p g) (poly v.p n)
      third_rule n e = (λ _. subst (R3 (Zmod v.p) (question (composed v w)) (poly v.p g)) (sym e) both_meets.r3, λ _. refl)

      pub both_composed : (before after : List ℕ) (r : Result ℕ Refusal) → Certified (composed v w) g before after r → Composed v w g₁ g₂ before after r
      both_composed before after (Ok c) h = record { certificate = h.certificate; g_is = ap (poly v.p) h.same_g ∙ g_whole }
      both_composed before after (Err refusal) h = absurd (h.unmet both_meets)
